-- The first number of a range that passes a test.
use Rattle.std.proofs.Common.{◌≡◌, ℕ, zero, suc, ◌+◌, ◌-◌, ◌<◌, Bool, true, false, cond, ◌∷◌, ◌++◌, find, Option, Some, None, refl, sym, ap, ◌∙◌, arith, zero-add}
use Rattle.std.specs.List.{range_with_len}
use Rattle.std.specs.Option.{option_or}
use Rattle.std.proofs.lemmas.List.Folds.{find-append}

range_split : (a m n : ℕ) → range_with_len a (m + n) ≡ range_with_len a m ++ range_with_len (a + m) n
range_split a zero n = let e : a ≡ a + 0 = omega arith in let f : 0 + n ≡ n = omega arith in λ i. range_with_len (e i) (f i)
range_split a (suc m) n =
    let e : suc m + n ≡ suc (m + n) = omega arith in
    let f : a + 1 + m ≡ a + suc m = omega arith in
    ap (range_with_len a) e ∙ ap (λ xs. a ∷ xs) (range_split (a + 1) m n) ∙ ap (λ k. a ∷ (range_with_len (a + 1) m ++ range_with_len k n)) f

find_split : (test : ℕ → Bool) (m n : ℕ) → find test (range_with_len 0 m) ≡ None → find test (range_with_len 0 (m + n)) ≡ find test (range_with_len m n)
find_split test m n e =
    ap (find test) (range_split 0 m n) ∙ find-append test (range_with_len 0 m) (range_with_len (0 + m) n)
    ∙ ap (λ o. option_or o (find test (range_with_len (0 + m) n))) e ∙ ap (λ k. find test (range_with_len k n)) (zero-add m)

-- one more number fails
pub none_more : (test : ℕ → Bool) (k : ℕ) → find test (range_with_len 0 k) ≡ None → test k ≡ false → find test (range_with_len 0 (k + 1)) ≡ None
none_more test k e t = find_split test k 1 e ∙ ap (λ b. cond b (Some k) None) t

-- where all before a number fail and it passes, it is the first
pub first_found : (test : ℕ → Bool) (k n : ℕ) → k < n → find test (range_with_len 0 k) ≡ None → test k ≡ true → find test (range_with_len 0 n) ≡ Some k
first_found test k n h e t =
    let whole : n ≡ k + suc (n - suc k) = omega arith in
    ap (λ m. find test (range_with_len 0 m)) whole ∙ find_split test k (suc (n - suc k)) e ∙ ap (λ b. cond b (Some k) (find test (range_with_len (k + 1) (n - suc k)))) t

cond_none : (b : Bool) (a : ℕ) (rest : Option ℕ) → cond b (Some a) rest ≡ None → (b ≡ false) × (rest ≡ None)
cond_none true a rest e = absurd cc
cond_none false a rest e = (refl, e)

-- where none passes, each fails
none_from : (test : ℕ → Bool) (a n k : ℕ) → find test (range_with_len a n) ≡ None → k < n → test (a + k) ≡ false
none_from test a zero k e l = absurd (omega arith)
none_from test a (suc n) zero e l = let s : a + 0 ≡ a = omega arith in ap test s ∙ (cond_none (test a) a (find test (range_with_len (a + 1) n)) e).0
none_from test a (suc n) (suc k) e l =
    let s : a + suc k ≡ a + 1 + k = omega arith in
    ap test s ∙ none_from test (a + 1) n k (cond_none (test a) a (find test (range_with_len (a + 1) n)) e).1 (omega arith)

pub none_below : (test : ℕ → Bool) (n k : ℕ) → find test (range_with_len 0 n) ≡ None → k < n → test k ≡ false
none_below test n k e l = ap test (sym (zero-add k)) ∙ none_from test 0 n k e l
