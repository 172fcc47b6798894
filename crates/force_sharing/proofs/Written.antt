-- A list that has f of each element is the map of f.
use Rattle.std.proofs.Common.{◌≡◌, ℕ, ◌<◌, List, length, map, get_or, sym, ◌∙◌, arith}
use Rattle.std.proofs.lemmas.List.{ext_get_or, get_or-map, length-map}

pub written_all : {X Y : Type 0} (f : X → Y) (xs : List X) (ys : List Y) (d : X) (e : Y) → length ys ≡ length xs → ((k : ℕ) → k < length xs → get_or ys k e ≡ f (get_or xs k d)) → ys ≡ map f xs
written_all f xs ys d e n h =
    ext_get_or e ys (map f xs) (n ∙ sym (length-map xs f)) (λ i l. let u : i < length xs = omega (arith, n) in h i u ∙ sym (get_or-map f xs i d e u))
