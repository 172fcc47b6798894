-- The pairs of a list in any order have one sum.
use Rattle.std.proofs.Common.{◌≡◌, ℕ, ◌+◌, List, [], ◌∷◌, sum_by, refl, arith}
use Rattle.std.specs.List.Sorted.{IsPermutation}
use Rattle.std.proofs.lemmas.List.Sums.{sum_by-cons}
use Rattle.std.proofs.lemmas.List.Sorted.{sum_by-IsPermutation}
use Rattle.model_laws.proofs.Sums.{pair_sum, sum_by-plus, sum_by-same}

-- the pairs of a list and its diagonal are its square
pub pair_sum-square : {X : Type 0} (same : X → ℕ) (apart : X → X → ℕ) (xs : List X) → pair_sum same apart xs + sum_by (λ x. apart x x) xs ≡ sum_by same xs + sum_by (λ x. sum_by (λ y. apart x y) xs) xs
pair_sum-square same apart [] = refl
pair_sum-square same apart (x ∷ xs) =
    omega (
      arith,
      pair_sum-square same apart xs,
      sum_by-cons (λ x. apart x x) x xs,
      sum_by-cons same x xs,
      sum_by-cons (λ z. sum_by (λ y. apart z y) (x ∷ xs)) x xs,
      sum_by-cons (λ y. apart x y) x xs,
      sum_by-same (λ z. sum_by (λ y. apart z y) (x ∷ xs)) (λ z. apart z x + sum_by (λ y. apart z y) xs) (λ z. sum_by-cons (λ y. apart z y) x xs) xs,
      sum_by-plus (λ z. apart z x) (λ z. sum_by (λ y. apart z y) xs) xs,
      sum_by-plus (λ y. apart x y) (λ y. apart y x) xs,
    )

pub pair_sum-permuted : {X : Type 0} (same : X → ℕ) (apart : X → X → ℕ) (xs ys : List X) → IsPermutation xs ys → pair_sum same apart ys ≡ pair_sum same apart xs
pair_sum-permuted same apart xs ys p =
    omega (
      arith,
      pair_sum-square same apart xs,
      pair_sum-square same apart ys,
      sum_by-IsPermutation (λ x. apart x x) xs ys p,
      sum_by-IsPermutation same xs ys p,
      sum_by-IsPermutation (λ x. sum_by (λ y. apart x y) ys) xs ys p,
      sum_by-same (λ x. sum_by (λ y. apart x y) ys) (λ x. sum_by (λ y. apart x y) xs) (λ x. sum_by-IsPermutation (λ y. apart x y) xs ys p) xs,
    )
