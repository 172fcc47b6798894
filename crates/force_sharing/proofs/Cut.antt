-- Which numbers have fewer than `left` of a list before them.
use Rattle.std.proofs.Common.{Less, Equal, Greater, nat_eq, ◌≡◌, ℕ, suc, ◌+◌, ◌<◌, ◌≤◌, Bool, false, cond, nat_lt, List, [], ◌∷◌, ◌++◌, length, count_by, get_or, refl, ap, sym, ◌∙◌, arith, ◌⊎◌, inl, inr, not}
use Rattle.std.specs.List.Sorted.{IsPermutation, IsSplitAround}
use Rattle.std.specs.Ordering.{nat_cmp, is_lt}
use Rattle.std.proofs.lemmas.Bool.{cases_lt, lt-ltb, le-ltb, false≢true}
use Rattle.std.proofs.lemmas.List.Sums.{sum_by-cons, sum_by-append, count_by-le-length}
use Rattle.std.proofs.lemmas.List.Sorted.{sum_by-IsPermutation}

abbrev one_if : Bool → ℕ
one_if b = cond b 1 0

not_less : (x y : ℕ) → is_lt (nat_cmp x y) ≡ false → y ≤ x
not_less x y h = from (cases_lt x y)
  where
    from : (x < y) ⊎ (y ≤ x) → y ≤ x
    from (inl l) = absurd (false≢true (sym h ∙ ap (λ b. is_lt (cond b Less (cond (nat_eq x y) Equal Greater))) (lt-ltb x y l)))
    from (inr e) = e

-- all before n
all_before : (n : ℕ) (ts : List ℕ) → ((k d : ℕ) → k < length ts → get_or ts k d < n) → count_by (λ t. nat_lt t n) ts ≡ length ts
all_before n [] h = refl
all_before n (t ∷ ts) h =
    omega (arith, sum_by-cons (λ u. cond (nat_lt u n) 1 0) t ts, ap one_if (lt-ltb t n (h 0 0 (omega arith))), all_before n ts (λ k d l. h (suc k) d (omega arith)))

-- none before n
none_before : (n : ℕ) (ts : List ℕ) → ((k d : ℕ) → k < length ts → n ≤ get_or ts k d) → count_by (λ t. nat_lt t n) ts ≡ 0
none_before n [] h = refl
none_before n (t ∷ ts) h =
    omega (arith, sum_by-cons (λ u. cond (nat_lt u n) 1 0) t ts, ap one_if (le-ltb t n (h 0 0 (omega arith))), none_before n ts (λ k d l. h (suc k) d (omega arith)))

parts : (n x : ℕ) (front back : List ℕ) → count_by (λ t. nat_lt t n) (front ++ x ∷ back) ≡ count_by (λ t. nat_lt t n) front + (cond (nat_lt x n) 1 0 + count_by (λ t. nat_lt t n) back)
parts n x front back = sum_by-append (λ u. cond (nat_lt u n) 1 0) front (x ∷ back) ∙ ap (λ c. count_by (λ t. nat_lt t n) front + c) (sum_by-cons (λ u. cond (nat_lt u n) 1 0) x back)

around : (front back : List ℕ) (x n : ℕ) → IsSplitAround nat_cmp front x back → (x < n) ⊎ (n ≤ x) → nat_lt (count_by (λ t. nat_lt t n) (front ++ x ∷ back)) (length front + 1) ≡ not (nat_lt x n)
around front back x n s (inl l) =
    le-ltb (count_by (λ t. nat_lt t n) (front ++ x ∷ back)) (length front + 1)
    (omega (arith, parts n x front back, ap one_if (lt-ltb x n l), all_before n front (λ k d h. let u : get_or front k d ≤ x = not_less x (get_or front k d) (s.0 k d h) in omega arith)))
    ∙ ap not (sym (lt-ltb x n l))
around front back x n s (inr l) =
    lt-ltb (count_by (λ t. nat_lt t n) (front ++ x ∷ back)) (length front + 1)
    (omega (arith, parts n x front back, ap one_if (le-ltb x n l), count_by-le-length (λ t. nat_lt t n) front, none_before n back (λ k d h. let u : x ≤ get_or back k d = not_less (get_or back k d) x (s.1 k d h) in omega arith)))
    ∙ ap not (sym (le-ltb x n l))

-- x, with `left` of the list up to it, has fewer than `left` before it, and so has what isn't above x
pub cut : (ts front back : List ℕ) (x left n : ℕ) → IsPermutation ts (front ++ x ∷ back) → length front + 1 ≡ left → IsSplitAround nat_cmp front x back → nat_lt (count_by (λ t. nat_lt t n) ts) left ≡ not (nat_lt x n)
cut ts front back x left n p e s =
    ap (λ c. nat_lt c left) (sym (sum_by-IsPermutation (λ u. cond (nat_lt u n) 1 0) ts (front ++ x ∷ back) p))
    ∙ ap (λ c. nat_lt (count_by (λ t. nat_lt t n) (front ++ x ∷ back)) c) (sym e)
    ∙ around front back x n s (cases_lt x n)
