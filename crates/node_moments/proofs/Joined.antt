-- The sums over two lists.
use Rattle.std.proofs.Common.{◌≡◌, ◌≤◌, ℕ, ◌+◌, ◌*◌, min, max, List, [], ◌∷◌, ◌++◌, length, map, fold, slice_index, refl, ap, sym, ◌∙◌, arith}
use Rattle.std.proofs.lemmas.List.{map-append, length-append}
use Rattle.std.proofs.lemmas.List.Sums.{sum_by-append, fold-append}
use Rattle.cell_space.specs.Cells.{CellData}
use Rattle.nbody_model.specs.Bodies.{BodyData}
use Rattle.nbody_model.specs.Moments.{mass_of}
use Rattle.node_moments.specs.Sums.{RawData, raw_of, first, second, least, greatest, from_x, from_y, from_z, at_x, at_y, at_z}
use Rattle.node_moments.specs.Joined.{joined}

fold_min : (n k : ℕ) (xs : List ℕ) → fold min (min n k) xs ≡ min n (fold min k xs)
fold_min n k [] = refl
fold_min n k (x ∷ xs) = ap (λ t. fold min t xs) (omega arith) ∙ fold_min n (min k x) xs

fold_max : (n k : ℕ) (xs : List ℕ) → fold max (max n k) xs ≡ max n (fold max k xs)
fold_max n k [] = refl
fold_max n k (x ∷ xs) = ap (λ t. fold max t xs) (omega arith) ∙ fold_max n (max k x) xs

min_below : (k : ℕ) (xs : List ℕ) → fold min k xs ≤ k
min_below k [] = omega arith
min_below k (x ∷ xs) = let u : fold min (min k x) xs ≤ min k x = min_below (min k x) xs in omega (arith, u)

least_both : (f : BodyData → ℕ) (ms ns : List BodyData) → least f (ms ++ ns) ≡ min (least f ms) (least f ns)
least_both f ms ns =
    let low : least f ms ≤ 4294967295 = min_below 4294967295 (map f ms) in
    let same : least f ms ≡ min (least f ms) 4294967295 = omega (arith, low) in
    ap (fold min 4294967295) (map-append f ms ns)
    ∙ fold-append min 4294967295 (map f ms) (map f ns)
    ∙ ap (λ t. fold min t (map f ns)) same
    ∙ fold_min (least f ms) 4294967295 (map f ns)

greatest_both : (f : BodyData → ℕ) (ms ns : List BodyData) → greatest f (ms ++ ns) ≡ max (greatest f ms) (greatest f ns)
greatest_both f ms ns =
    let same : greatest f ms ≡ max (greatest f ms) 0 = omega arith in
    ap (fold max 0) (map-append f ms ns)
    ∙ fold-append max 0 (map f ms) (map f ns)
    ∙ ap (λ t. fold max t (map f ns)) same
    ∙ fold_max (greatest f ms) 0 (map f ns)

three : (a b c d e f : ℕ) → a ≡ d → b ≡ e → c ≡ f → (a ∷ b ∷ c ∷ []) ≡ d ∷ e ∷ f ∷ []
three a b c d e f h k l = rw (h, k, l) refl

pub joined_raw : (soft : List ℕ) (c : CellData) (ms ns : List BodyData) → joined (raw_of soft c ms) (raw_of soft c ns) ≡ raw_of soft c (ms ++ ns)
unfolding raw_of
joined_raw soft c ms ns =
    let x : BodyData → ℕ = from_x c in
    let y : BodyData → ℕ = from_y c in
    let z : BodyData → ℕ = from_z c in
    let s : (d e : BodyData → ℕ) → second d e ms + second d e ns ≡ second d e (ms ++ ns) = λ d e. sym (sum_by-append (λ b. b.mass * (d b * e b)) ms ns) in
    let f : (d : BodyData → ℕ) → first d ms + first d ns ≡ first d (ms ++ ns) = λ d. sym (sum_by-append (λ b. b.mass * d b) ms ns) in
    let n : length ms + length ns ≡ length (ms ++ ns) = sym (length-append ms ns) in
    let m : mass_of ms + mass_of ns ≡ mass_of (ms ++ ns) = sym (sum_by-append (λ b. b.mass) ms ns) in
    λ i. record {
      cell = c;
      count = n i;
      mass = m i;
      mx = f x i ∷ f y i ∷ f z i ∷ [];
      mxx = s x x i ∷ s y y i ∷ s z z i ∷ s x y i ∷ s x z i ∷ s y z i ∷ [];
      lo = sym (least_both at_x ms ns) i ∷ sym (least_both at_y ms ns) i ∷ sym (least_both at_z ms ns) i ∷ [];
      hi = sym (greatest_both at_x ms ns) i ∷ sym (greatest_both at_y ms ns) i ∷ sym (greatest_both at_z ms ns) i ∷ [];
      eps = sym (greatest_both (λ b. slice_index soft b.kind) ms ns) i;
    }

pub joined_sums : (soft : List ℕ) (a b : RawData) (ms ns : List BodyData) → a.cell ≡ b.cell → a ≡ raw_of soft a.cell ms → b ≡ raw_of soft b.cell ns → joined a b ≡ raw_of soft a.cell (ms ++ ns)
joined_sums soft a b ms ns e h k =
    ap (λ t. joined t b) h ∙ ap (joined (raw_of soft a.cell ms)) (k ∙ ap (λ c. raw_of soft c ns) (sym e)) ∙ joined_raw soft a.cell ms ns
