-- Lists of places, and how often a place is on them.
use Rattle.std.proofs.Common.{◌≡◌, ℕ, zero, suc, ◌+◌, ◌<◌, ◌≤◌, ◌==◌, List, [], ◌∷◌, ◌++◌, length, get_or, cond, refl, subst, ap, sym, ◌∙◌, inl, inr, true, false, Bool, not, arith}
use Rattle.std.specs.List.{AllByRecursion}
use Rattle.std.proofs.Math.ListN.{set}
use Rattle.std.proofs.lemmas.Bool.{cases_eq}
use Rattle.std.proofs.lemmas.Bool.Decides.{nat_tests}
use Rattle.std.proofs.lemmas.List.Sums.{sum_by-cons, sum_by-append, sum_by-set}
use Rattle.groups.specs.Spreading.{mark, times, free}

pub times-cons : (k j : ℕ) (xs : List ℕ) → times k (j ∷ xs) ≡ cond (j == k) 1 0 + times k xs
unfolding times
times-cons k j xs = sum_by-cons (λ j. cond (j == k) 1 0) j xs

pub times-append : (k : ℕ) (xs ys : List ℕ) → times k (xs ++ ys) ≡ times k xs + times k ys
unfolding times
times-append k xs ys = sum_by-append (λ j. cond (j == k) 1 0) xs ys

pub times-nil : (k : ℕ) → times k [] ≡ 0
unfolding times
times-nil k = refl

pub all-append : {X : Type 0} (P : X → Type 0) (xs ys : List X) → AllByRecursion P xs → AllByRecursion P ys → AllByRecursion P (xs ++ ys)
all-append P [] ys a b = b
all-append P (x ∷ xs) ys a b = (a.0, all-append P xs ys a.1 b)

pub all-map : {X : Type 0} (P Q : X → Type 0) → ((x : X) → P x → Q x) → (xs : List X) → AllByRecursion P xs → AllByRecursion Q xs
all-map P Q f [] a = a
all-map P Q f (x ∷ xs) a = (f x a.0, all-map P Q f xs a.1)

-- what holds of all of a list holds of each that is on it
pub of_all : (P : ℕ → Type 0) (k : ℕ) (xs : List ℕ) → AllByRecursion P xs → 1 ≤ times k xs → P k
of_all P k [] a h = absurd (omega (arith, times-nil k, h))
of_all P k (x ∷ xs) a h = elim (cases_eq x k) as (λ _. P k) [
  | inl e ↦ subst P e a.0
  | inr n ↦ (let test : (x == k) ≡ false = grind (arith, nat_tests) in of_all P k xs a.1 (omega (arith, h, times-cons k x xs, ap {B = ℕ} (λ b. cond b 1 0) test)))
]

pub all_by_get : (P : ℕ → Type 0) (xs : List ℕ) (i d : ℕ) → AllByRecursion P xs → i < length xs → P (get_or xs i d)
all_by_get P [] i d a h = absurd (omega (arith, h))
all_by_get P (x ∷ xs) zero d a h = a.0
all_by_get P (x ∷ xs) (suc i) d a h = all_by_get P xs i d a.1 (omega (arith, h))

sucs : (j k : ℕ) → (suc j == suc k) ≡ (j == k)
sucs j k = elim (cases_eq j k) as (λ _. (suc j == suc k) ≡ (j == k)) [
  | inl e ↦ (let a : (suc j == suc k) ≡ true = grind (arith, nat_tests) in let b : (j == k) ≡ true = grind (arith, nat_tests) in a ∙ sym b)
  | inr n ↦ (let a : (suc j == suc k) ≡ false = grind (arith, nat_tests) in let b : (j == k) ≡ false = grind (arith, nat_tests) in a ∙ sym b)
]

-- marking one place
pub mark-set : (seen : List Bool) (j k : ℕ) → j < length seen → get_or seen j false ≡ false → mark (set seen j true) k ≡ mark seen k + cond (j == k) 1 0
mark-set [] j k h e = absurd (omega (arith, h))
mark-set (b ∷ seen) zero zero h e = omega (arith, ap {B = ℕ} (λ b. cond b 1 0) e)
mark-set (b ∷ seen) zero (suc k) h e = grind (arith, nat_tests)
mark-set (b ∷ seen) (suc j) zero h e = grind (arith, nat_tests)
mark-set (b ∷ seen) (suc j) (suc k) h e = mark-set seen j k (omega (arith, h)) e ∙ ap (λ b. mark seen k + cond b 1 0) (sym (sucs j k))

pub free-set : (seen : List Bool) (j : ℕ) → j < length seen → get_or seen j false ≡ false → 1 + free (set seen j true) ≡ free seen
unfolding free
free-set seen j h e = omega (arith, sum_by-set (λ b. cond (not b) 1 0) seen j true false h, ap {B = ℕ} (λ b. cond (not b) 1 0) e)

cond_le : (b : Bool) → cond b 1 0 ≤ 1
cond_le true = omega arith
cond_le false = omega arith

pub mark-le : (seen : List Bool) (k : ℕ) → mark seen k ≤ 1
mark-le seen k = cond_le (get_or seen k false)

pub times-self : (k : ℕ) (xs : List ℕ) → times k (k ∷ xs) ≡ 1 + times k xs
times-self k xs =
    let test : (k == k) ≡ true = grind (arith, nat_tests) in
    omega (arith, times-cons k k xs, ap {B = ℕ} (λ b. cond b 1 0) test)
