-- The first number of a range that passes a test.
use Rattle.std.proofs.Common.{◌≡◌, ◌⊎◌, ℕ, ◌+◌, ◌<◌, ◌≤◌, Bool, true, false, List, length, get_or, slice_get, find, Some, None, ap, subst, ◌∙◌, inl, inr, arith, zero-add}
use Rattle.std.specs.List.{range_with_len, position_or_len}
use Rattle.std.proofs.lemmas.List.Folds.{find_at}
use Rattle.std.proofs.lemmas.Option.{slice_get-get_or, slice_get_past}
use Rattle.std.proofs.lemmas.List.Sums.{position_or_len_is}
use Rattle.std.proofs.lemmas.List.FromFn.{length-range_with_len, get_or-range_with_len}
use Rattle.std.proofs.lemmas.Bool.{cases_lt}

-- none of the first n numbers passes
abbrev pub FailsBelow : (ℕ → Bool) → ℕ → Type 0
FailsBelow test n = (k : ℕ) → k < n → test k ≡ false

pub one_more : (test : ℕ → Bool) (n : ℕ) → FailsBelow test n → test n ≡ false → FailsBelow test (n + 1)
one_more test n h e k l = by (cases_lt k n)
  where
    by : (k < n) ⊎ (n ≤ k) → test k ≡ false
    by (inl m) = h k m
    by (inr m) = let same : n ≡ k = omega arith in subst (λ i. test i ≡ false) same e

at : (n k : ℕ) → k < n → get_or (range_with_len 0 n) k 0 ≡ k
at n k l = get_or-range_with_len 0 n k 0 l ∙ zero-add k

pub first_found : (test : ℕ → Bool) (n k : ℕ) → k < n → FailsBelow test k → test k ≡ true → find test (range_with_len 0 n) ≡ Some k
first_found test n k l h e =
    let xs : List ℕ = range_with_len 0 n in
    let len : length xs ≡ n = length-range_with_len 0 n in
    let place : position_or_len test xs ≡ k =
    position_or_len_is test xs k 0 (omega (arith, len)) (λ i m. ap test (at n i (omega (arith, l, m))) ∙ h i m) (λ _. ap test (at n k l) ∙ e) in
    find_at test xs ∙ ap (slice_get xs) place ∙ slice_get-get_or xs k 0 (omega (arith, len, l)) ∙ ap Some (at n k l)

pub none_found : (test : ℕ → Bool) (n : ℕ) → FailsBelow test n → find test (range_with_len 0 n) ≡ None
none_found test n h =
    let xs : List ℕ = range_with_len 0 n in
    let len : length xs ≡ n = length-range_with_len 0 n in
    let place : position_or_len test xs ≡ length xs =
    position_or_len_is test xs (length xs) 0 (omega arith) (λ i m. ap test (at n i (omega (arith, len, m))) ∙ h i (omega (arith, len, m))) (λ m. absurd (omega arith)) in
    find_at test xs ∙ ap (slice_get xs) place ∙ slice_get_past xs (length xs) (omega arith)
