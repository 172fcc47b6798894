-- Pairs are put on the list one by one.
use Rattle.std.proofs.Common.{◌≡◌, ℕ, zero, suc, refl, ◌+◌, ◌-◌, ◌<◌, List, [], ◌∷◌, ◌++◌, map, length, ap, sym, ◌∙◌, arith, append_assoc, length-append}
use Rattle.std.proofs.lemmas.List.{length-map}
use Rattle.dual_walk.specs.declared.pairs.Pair.{Pair}
use Rattle.dual_walk.specs.Steps.{range, cross, self_pairs, pair}

range_step : (e n : ℕ) → e < n → range e (n - e) ≡ e ∷ range (e + 1) (n - (e + 1))
range_step e n h =
    let a : n - e ≡ suc (n - (e + 1)) = omega arith in
    let b : suc e ≡ e + 1 = omega arith in
    ap (range e) a ∙ ap (λ t. e ∷ range t (n - (e + 1))) b

-- one more pair of a row
pub row_step : (d e n : ℕ) (xs ys all : List Pair) → e < n → ys ≡ xs ++ pair d e ∷ [] → xs ++ map (pair d) (range e (n - e)) ≡ all → ys ++ map (pair d) (range (e + 1) (n - (e + 1))) ≡ all
row_step d e n xs ys all h y k =
    ap (λ t. t ++ map (pair d) (range (e + 1) (n - (e + 1)))) y
    ∙ append_assoc xs (pair d e ∷ []) (map (pair d) (range (e + 1) (n - (e + 1))))
    ∙ ap (λ t. xs ++ map (pair d) t) (sym (range_step e n h))
    ∙ k

-- one more row of a cross
pub cross_step : (d n f m : ℕ) (xs ys all : List Pair) → d < n → ys ≡ xs ++ map (pair d) (range f m) → xs ++ cross (range d (n - d)) (range f m) ≡ all → ys ++ cross (range (d + 1) (n - (d + 1))) (range f m) ≡ all
cross_step d n f m xs ys all h y k =
    ap (λ t. t ++ cross (range (d + 1) (n - (d + 1))) (range f m)) y
    ∙ append_assoc xs (map (pair d) (range f m)) (cross (range (d + 1) (n - (d + 1))) (range f m))
    ∙ ap (λ t. xs ++ cross t (range f m)) (sym (range_step d n h))
    ∙ k

-- one more row of the pairs of a run
pub self_step : (d n : ℕ) (xs ys all : List Pair) → d < n → ys ≡ xs ++ map (pair d) (range d (n - d)) → xs ++ self_pairs (range d (n - d)) ≡ all → ys ++ self_pairs (range (d + 1) (n - (d + 1))) ≡ all
self_step d n xs ys all h y k =
    let a : self_pairs (range d (n - d)) ≡ map (pair d) (range d (n - d)) ++ self_pairs (range (d + 1) (n - (d + 1))) =
    ap self_pairs (range_step d n h) ∙ ap (λ t. map (pair d) t ++ self_pairs (range (d + 1) (n - (d + 1)))) (sym (range_step d n h)) in
    ap (λ t. t ++ self_pairs (range (d + 1) (n - (d + 1)))) y
    ∙ append_assoc xs (map (pair d) (range d (n - d))) (self_pairs (range (d + 1) (n - (d + 1))))
    ∙ ap (λ t. xs ++ t) (sym a)
    ∙ k

pub length-range : (f n : ℕ) → length (range f n) ≡ n
length-range f zero = refl
length-range f (suc n) = ap suc (length-range (suc f) n)

pub row_length : (d f n : ℕ) (xs ys : List Pair) → ys ≡ xs ++ map (pair d) (range f n) → length ys ≡ length xs + n
row_length d f n xs ys e = omega (arith, ap length e, length-append xs (map (pair d) (range f n)), length-map (range f n) (pair d), length-range f n)
