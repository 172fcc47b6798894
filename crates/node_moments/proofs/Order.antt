-- Sums over the members of a cell don't look at the order of the bodies.
use Rattle.std.proofs.Common.{◌≡◌, ℕ, ◌+◌, ◌*◌, ◌≤◌, Bool, true, false, cond, List, [], ◌∷◌, length, map, sum_by, slice_index, refl, sym, ◌∙◌, arith, All}
use Rattle.std.specs.List.{filter}
use Rattle.std.specs.List.Sorted.{IsPermutation}
use Rattle.std.proofs.lemmas.List.Sums.{sum_by-cons}
use Rattle.std.proofs.lemmas.List.Sorted.{sum_by-IsPermutation, IsPermutation-sym, All-permutation}
use Rattle.std.proofs.lemmas.List.Elements.{recursion_from_All, All-from_recursion}
use Rattle.cell_space.specs.Cells.{CellData, contains}
use Rattle.nbody_model.specs.Bodies.{BodyData}
use Rattle.nbody_model.specs.Nodes.{members}
use Rattle.nbody_model.specs.Moments.{mass_of}
use Rattle.model_laws.proofs.Among.{Among, among-filter, among-kept, each-among}
use Rattle.model_laws.proofs.Pairs.{all_among}
use Rattle.node_moments.specs.Sums.{raw_of, first, second, least, greatest, from_x, from_y, from_z, at_x, at_y, at_z}
use Rattle.node_moments.proofs.Extremes.{min_below, min_low, min_of, max_of, max_high}

kept_step : (f : BodyData → ℕ) (x : BodyData) (ys : List BodyData) (b : Bool) (m : ℕ) → sum_by f ys ≡ m → sum_by f (cond b (x ∷ ys) ys) ≡ cond b (f x) 0 + m
kept_step f x ys true m e = omega (arith, sum_by-cons f x ys, e)
kept_step f x ys false m e = omega (arith, e)

sum_kept : (t : BodyData → Bool) (f : BodyData → ℕ) (xs : List BodyData) → sum_by f (filter t xs) ≡ sum_by (λ x. cond (t x) (f x) 0) xs
sum_kept t f [] = refl
sum_kept t f (x ∷ xs) = kept_step f x (filter t xs) (t x) (sum_by (λ x. cond (t x) (f x) 0) xs) (sum_kept t f xs) ∙ sym (sum_by-cons (λ x. cond (t x) (f x) 0) x xs)

ones : (xs : List BodyData) → length xs ≡ sum_by (λ x. 1) xs
ones [] = refl
ones (x ∷ xs) = omega (arith, sum_by-cons (λ x. 1) x xs, ones xs)

module _ (A B : List BodyData) (p : IsPermutation A B) (t : BodyData → Bool) where
  -- what holds of the kept ones of A holds of those of B
  carried : (P : BodyData → Type 0) → ((b : BodyData) → Among b (filter t A) → P b) → (b : BodyData) → Among b (filter t B) → P b
  carried P h b m =
      let k : Among b B × (t b ≡ true) = among-kept t b B m in
      let a : All (λ b. t b ≡ true → P b) A = All-from_recursion (λ b. t b ≡ true → P b) A (all_among (λ b. t b ≡ true → P b) A (λ b i e. h b (among-filter t b A i e))) in
      each-among (λ b. t b ≡ true → P b) b B (recursion_from_All (λ b. t b ≡ true → P b) B (All-permutation (λ b. t b ≡ true → P b) A B p a)) k.0 k.1

  sum_free : (f : BodyData → ℕ) → sum_by f (filter t A) ≡ sum_by f (filter t B)
  sum_free f = sum_kept t f A ∙ sym (sum_by-IsPermutation (λ x. cond (t x) (f x) 0) A B p) ∙ sym (sum_kept t f B)

  least_up : (f : BodyData → ℕ) → least f (filter t A) ≤ least f (filter t B)
  least_up f = min_low f 4294967295 (least f (filter t A)) (filter t B) (min_below 4294967295 (map f (filter t A))) (carried (λ b. least f (filter t A) ≤ f b) (λ b i. min_of f 4294967295 b (filter t A) i))

  greatest_down : (f : BodyData → ℕ) → greatest f (filter t B) ≤ greatest f (filter t A)
  greatest_down f = max_high f 0 (greatest f (filter t A)) (filter t B) (omega arith) (carried (λ b. f b ≤ greatest f (filter t A)) (λ b i. max_of f 0 b (filter t A) i))

-- whatever the order of the bodies, the sums over those in d, from the corner of any cell, are the same
pub sums_free : (soft : List ℕ) (A B : List BodyData) → IsPermutation A B → (c d : CellData) → raw_of soft c (members A d) ≡ raw_of soft c (members B d)
unfolding raw_of
sums_free soft A B p c d =
    let t : BodyData → Bool = λ b. contains d b.motion.pos in
    let q : IsPermutation B A = IsPermutation-sym A B p in
    let s : (f : BodyData → ℕ) → sum_by f (members A d) ≡ sum_by f (members B d) = sum_free A B p t in
    let lo : (f : BodyData → ℕ) → least f (members A d) ≡ least f (members B d) = λ f. omega (arith, least_up A B p t f, least_up B A q t f) in
    let hi : (f : BodyData → ℕ) → greatest f (members A d) ≡ greatest f (members B d) = λ f. omega (arith, greatest_down A B p t f, greatest_down B A q t f) in
    let one : (f : BodyData → ℕ) → first f (members A d) ≡ first f (members B d) = λ f. s (λ b. b.mass * f b) in
    let two : (f g : BodyData → ℕ) → second f g (members A d) ≡ second f g (members B d) = λ f g. s (λ b. b.mass * (f b * g b)) in
    let n : length (members A d) ≡ length (members B d) = ones (members A d) ∙ s (λ b. 1) ∙ sym (ones (members B d)) in
    let m : mass_of (members A d) ≡ mass_of (members B d) = s (λ b. b.mass) in
    let x : BodyData → ℕ = from_x c in
    let y : BodyData → ℕ = from_y c in
    let z : BodyData → ℕ = from_z c in
    λ i. record {
      cell = c;
      count = n i;
      mass = m i;
      mx = one x i ∷ one y i ∷ one z i ∷ [];
      mxx = two x x i ∷ two y y i ∷ two z z i ∷ two x y i ∷ two x z i ∷ two y z i ∷ [];
      lo = lo at_x i ∷ lo at_y i ∷ lo at_z i ∷ [];
      hi = hi at_x i ∷ hi at_y i ∷ hi at_z i ∷ [];
      eps = hi (λ b. slice_index soft b.kind) i;
    }
