-- Ascending lists with the same numbers are one.
use Rattle.std.proofs.Common.{◌≡◌, ◌≢◌, ℕ, suc, ◌+◌, ◌<◌, ◌≤◌, ◌==◌, List, [], ◌∷◌, get_or, filter, cond, Bool, true, false, refl, sym, ap, ◌∙◌, inl, inr, arith}
use Rattle.std.specs.List.{count_by, range_with_len}
use Rattle.std.specs.List.Sorted.{IsNonDecreasing, IsStrictlyIncreasing}
use Rattle.std.proofs.lemmas.Bool.{cases_eq, cases_lt}
use Rattle.std.proofs.lemmas.Bool.Decides.{nat_tests}
use Rattle.std.proofs.lemmas.List.Sums.{sum_by-cons}
use Rattle.std.proofs.lemmas.List.Kept.{AllPairs-from_increasing, IsStrictlyIncreasing-filter}
use Rattle.std.proofs.lemmas.List.FromFn.{length-range_with_len, get_or-range_with_len}

-- how often a number stands in a list
abbrev pub times : ℕ → List ℕ → ℕ
times k xs = count_by (λ j. j == k) xs

times_same : (k x : ℕ) (xs : List ℕ) → x ≡ k → times k (x ∷ xs) ≡ 1 + times k xs
times_same k x xs e = let test : (x == k) ≡ true = grind (arith, nat_tests) in sum_by-cons (λ j. cond (j == k) 1 0) x xs ∙ ap (λ b. cond b 1 0 + times k xs) test

times_other : (k x : ℕ) (xs : List ℕ) → x ≢ k → times k (x ∷ xs) ≡ times k xs
times_other k x xs e = let test : (x == k) ≡ false = grind (arith, nat_tests) in sum_by-cons (λ j. cond (j == k) 1 0) x xs ∙ ap (λ b. cond b 1 0 + times k xs) test ∙ omega arith

tail_up : (x : ℕ) (xs : List ℕ) → IsNonDecreasing (x ∷ xs) → IsNonDecreasing xs
tail_up x xs up i j d le lt = up (suc i) (suc j) d (omega (arith, le)) (omega (arith, lt))

head_low : (k x : ℕ) (xs : List ℕ) → IsNonDecreasing (x ∷ xs) → 1 ≤ times k (x ∷ xs) → x ≤ k
head_low k x [] up h = elim (cases_eq x k) as (λ _. x ≤ k) [ inl e ↦ omega (arith, e) | inr n ↦ absurd (omega (arith, h, times_other k x [] n)) ]
head_low k x (y ∷ xs) up h = elim (cases_eq x k) as (λ _. x ≤ k) [
  | inl e ↦ omega (arith, e)
  | inr n ↦ omega (arith, up 0 1 x (omega arith) (omega arith), head_low k y xs (tail_up x (y ∷ xs) up) (omega (arith, h, times_other k x (y ∷ xs) n)))
]

pub same_sorted : (xs ys : List ℕ) → IsNonDecreasing xs → IsNonDecreasing ys → ((k : ℕ) → times k xs ≡ times k ys) → xs ≡ ys
same_sorted [] [] u v f = refl
same_sorted [] (y ∷ ys) u v f = absurd (omega (arith, f y, times_same y y ys refl))
same_sorted (x ∷ xs) [] u v f = absurd (omega (arith, f x, times_same x x xs refl))
same_sorted (x ∷ xs) (y ∷ ys) u v f =
    let low : x ≤ y = head_low y x xs u (omega (arith, f y, times_same y y ys refl)) in
    let high : y ≤ x = head_low x y ys v (omega (arith, f x, times_same x x xs refl)) in
    let same : x ≡ y = omega (arith, low, high) in
    let rest : xs ≡ ys = same_sorted xs ys (tail_up x xs u) (tail_up y ys v) (λ k. (let a = f k in elim (cases_eq x k) as (λ _. times k xs ≡ times k ys) [
      | inl e ↦ omega (arith, a, times_same k x xs e, times_same k y ys (sym same ∙ e))
      | inr n ↦ omega (arith, a, times_other k x xs n, times_other k y ys (λ e. n (same ∙ e)))
    ])) in
    ap (λ n. n ∷ xs) same ∙ ap (λ zs. y ∷ zs) rest

rises : (a n : ℕ) → IsStrictlyIncreasing (range_with_len a n)
rises a n k l =
    let within : k + 1 < n = omega (arith, l, length-range_with_len a n) in
    omega (arith, get_or-range_with_len a n k 0 (omega (arith, within)), get_or-range_with_len a n (k + 1) 0 within)

pub filter_up : (p : ℕ → Bool) (n : ℕ) → IsNonDecreasing (filter p (range_with_len 0 n))
filter_up p n i j d le lt = elim (cases_lt i j) as (λ _. get_or (filter p (range_with_len 0 n)) i d ≤ get_or (filter p (range_with_len 0 n)) j d) [
  | inl less ↦ omega (arith, AllPairs-from_increasing (filter p (range_with_len 0 n)) (IsStrictlyIncreasing-filter p (range_with_len 0 n) (rises 0 n)) i j d less lt)
  | inr more ↦ (let e : i ≡ j = omega (arith, le, more) in omega (arith, ap (λ k. get_or (filter p (range_with_len 0 n)) k d) e))
]
