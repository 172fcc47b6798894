-- Chains of places.
use Rattle.std.proofs.Common.{◌≡◌, ◌≢◌, ℕ, zero, suc, ◌+◌, ◌<◌, ◌≤◌, ◌==◌, List, [], ◌∷◌, ◌++◌, replicate, length, get_or, filter, cond, ◌-◌, subst, ap, sym, ◌∙◌, inl, inr, true, false, Bool, arith}
use Rattle.std.proofs.Math.ListN.{set}
use Rattle.std.specs.List.{AllByRecursion, range_with_len}
use Rattle.std.proofs.lemmas.Bool.{cases_eq}
use Rattle.std.proofs.lemmas.Bool.Decides.{nat_tests}
use Rattle.std.proofs.lemmas.List.{append-nil, append_assoc, length-replicate, length-set, get_or-replicate, get_or-set_other}
use Rattle.std.proofs.lemmas.Grind.{get_or-set_at}
use Rattle.groups.specs.Groups.{has_head, members, AreHeads, Web}
use Rattle.groups.specs.Chains.{AreBelow, IsFirst, AreChains, IsFollowed}

first_here : (heads : List ℕ) (p k : ℕ) → k ≤ length heads → (k < length heads → has_head heads p k ≡ true) → IsFirst heads p k k
first_here heads p k w t = record {
  «from» = omega arith;
  within = w;
  on = t;
  rest = λ m n a b. (let e : m ≡ n = omega (arith, a, b) in ap (λ n. filter (has_head heads p) (range_with_len k n)) e);
}

step_in : (heads : List ℕ) (p k m : ℕ) (b : Bool) → has_head heads p k ≡ b → filter (has_head heads p) (range_with_len k (suc m)) ≡ cond b (k ∷ filter (has_head heads p) (range_with_len (k + 1) m)) (filter (has_head heads p) (range_with_len (k + 1) m))
step_in heads p k m b e = ap (λ b. cond b (k ∷ filter (has_head heads p) (range_with_len (k + 1) m)) (filter (has_head heads p) (range_with_len (k + 1) m))) e

passed : (heads : List ℕ) (p k place m n : ℕ) → k < length heads → has_head heads p k ≡ false → IsFirst heads p (k + 1) place → k + m ≡ length heads → place + n ≡ length heads
    → filter (has_head heads p) (range_with_len k m) ≡ filter (has_head heads p) (range_with_len place n)
passed heads p k place zero n h t f a b = absurd (omega (arith, h, a))
passed heads p k place (suc m) n h t f a b = step_in heads p k m false t ∙ f.rest m n (omega (arith, a)) b

first_later : (heads : List ℕ) (p k place : ℕ) → k < length heads → has_head heads p k ≡ false → IsFirst heads p (k + 1) place → IsFirst heads p k place
first_later heads p k place h t f = record {
  «from» = omega (arith, f.«from»);
  within = f.within;
  on = f.on;
  rest = λ m n a b. passed heads p k place m n h t f a b;
}

pub linked : (heads : List ℕ) (k : ℕ) (first next : List ℕ) → k < length heads → AreBelow heads → AreChains heads (k + 1) first next
    → (head start : ℕ) → head ≡ get_or heads k 0 → start ≡ get_or first head 0 → AreChains heads k (set first head k) (set next k start)
linked heads k first next h b c head start e s =
    let low : head < length heads = omega (arith, e, b k h) in
    let mine : (get_or heads k 0 == head) ≡ true = grind (arith, nat_tests) in
    record {
      within = omega (arith, h);
      first_long = length-set first head k ∙ c.first_long;
      next_long = length-set next k start ∙ c.next_long;
      starts = λ p d l. elim (cases_eq p head) as (λ _. IsFirst heads p k (get_or (set first head k) p d)) [
        | inl same ↦ subst (IsFirst heads p k) (sym (get_or-set_at first head p k d same (omega (arith, low, c.first_long))))
            (first_here heads p k (omega (arith, h)) (λ _. (let t : (get_or heads k 0 == p) ≡ true = grind (arith, nat_tests) in t)))
        | inr other ↦ subst (IsFirst heads p k) (sym (get_or-set_other first head p k d other))
            (first_later heads p k (get_or first p d) h (let m : get_or heads k 0 ≢ p = λ q. other (sym q ∙ sym e) in let t : (get_or heads k 0 == p) ≡ false = grind (arith, nat_tests) in t) (c.starts p d l))
      ];
      goes = λ j d f l. elim (cases_eq j k) as (λ _. IsFirst heads (get_or heads j 0) (j + 1) (get_or (set next k start) j d)) [
        | inl same ↦ subst (IsFirst heads (get_or heads j 0) (j + 1)) (sym (get_or-set_at next k j start d same (omega (arith, h, c.next_long))))
            (subst (λ j. IsFirst heads (get_or heads j 0) (j + 1) start) (sym same) (subst (λ q. IsFirst heads q (k + 1) start) e (subst (IsFirst heads head (k + 1)) (sym s) (c.starts head 0 low))))
        | inr other ↦ subst (IsFirst heads (get_or heads j 0) (j + 1)) (sym (get_or-set_other next k j start d other)) (c.goes j d (omega (arith, f, other)) l)
      ];
    }

pub linked_none : (heads : List ℕ) → AreChains heads (length heads) (replicate (length heads) (length heads)) (replicate (length heads) (length heads))
linked_none heads = record {
  within = omega arith;
  first_long = length-replicate (length heads) (length heads);
  next_long = length-replicate (length heads) (length heads);
  starts = λ p d l. subst (IsFirst heads p (length heads)) (sym (get_or-replicate (length heads) p (length heads) d l)) (first_here heads p (length heads) (omega arith) (λ h. absurd (omega (arith, h))));
  goes = λ j d f l. absurd (omega (arith, f, l));
}

pub followed_none : (heads : List ℕ) (p place : ℕ) → IsFirst heads p 0 place → IsFollowed heads p place []
followed_none heads p place f = record { within = f.within; on = f.on; whole = λ n e. sym (f.rest (length heads) n (omega arith) e) }

followed_here : (heads : List ℕ) (p place next : ℕ) (list : List ℕ) (m n : ℕ) → place < length heads → IsFollowed heads p place list → IsFirst heads p (place + 1) next → place + m ≡ length heads → next + n ≡ length heads
    → (list ++ (place ∷ [])) ++ filter (has_head heads p) (range_with_len next n) ≡ members heads p
followed_here heads p place next list zero n h w f a b = absurd (omega (arith, h, a))
followed_here heads p place next list (suc m) n h w f a b =
    append_assoc list (place ∷ []) (filter (has_head heads p) (range_with_len next n)) ∙ ap (λ xs. list ++ (place ∷ xs)) (sym (f.rest m n (omega (arith, a)) b)) ∙ ap (λ xs. list ++ xs) (sym (step_in heads p place m true (w.on h))) ∙ w.whole (suc m) a

followed_by : (heads : List ℕ) (p place next : ℕ) (list : List ℕ) → place < length heads → IsFollowed heads p place list → IsFirst heads p (place + 1) next → IsFollowed heads p next (list ++ (place ∷ []))
followed_by heads p place next list h w f = record {
  within = f.within;
  on = f.on;
  whole = λ n b. followed_here heads p place next list (length heads - place) n h w f (omega (arith, h)) b;
}

-- one place more
pub followed_more : (heads : List ℕ) (p place next : ℕ) (list : List ℕ) → place < length heads → IsFollowed heads p place list → IsFirst heads (get_or heads place 0) (place + 1) next → IsFollowed heads p next (list ++ (place ∷ []))
followed_more heads p place next list h w f =
    let same : get_or heads place 0 ≡ p = (let t : (get_or heads place 0 == p) ≡ true = w.on h in grind (arith, nat_tests)) in
    followed_by heads p place next list h w (subst (λ q. IsFirst heads q (place + 1) next) same f)

pub followed_all : (heads : List ℕ) (p place : ℕ) (list : List ℕ) → length heads ≤ place → IsFollowed heads p place list → list ≡ members heads p
followed_all heads p place list h w = sym (append-nil list) ∙ w.whole 0 (omega (arith, h, w.within))

-- heads are places
pub heads_below : (w : Web) (heads : List ℕ) → AreHeads w heads → AreBelow heads
heads_below w heads a k h = omega (arith, (a.each k 0 (omega (arith, h, a.as_many))).within, a.as_many)

-- members are places
in_one : (n a : ℕ) (xs : List ℕ) (b : Bool) → a < n → AllByRecursion (λ k. k < n) xs → AllByRecursion (λ k. k < n) (cond b (a ∷ xs) xs)
in_one n a xs true h r = (h, r)
in_one n a xs false h r = r

all_in : (t : ℕ → Bool) (n a m : ℕ) → a + m ≤ n → AllByRecursion (λ k. k < n) (filter t (range_with_len a m))
all_in t n a zero h = tt
all_in t n a (suc m) h = in_one n a (filter t (range_with_len (a + 1) m)) (t a) (omega (arith, h)) (all_in t n (a + 1) m (omega (arith, h)))

pub members_below : (heads : List ℕ) (p : ℕ) → AllByRecursion (λ k. k < length heads) (members heads p)
members_below heads p = all_in (has_head heads p) (length heads) 0 (length heads) (omega arith)

few_one : (a m : ℕ) (xs : List ℕ) (b : Bool) → length xs ≤ m → length (cond b (a ∷ xs) xs) ≤ suc m
few_one a m xs true h = omega (arith, h)
few_one a m xs false h = omega (arith, h)

few_in : (t : ℕ → Bool) (a m : ℕ) → length (filter t (range_with_len a m)) ≤ m
few_in t a zero = omega arith
few_in t a (suc m) = few_one a m (filter t (range_with_len (a + 1) m)) (t a) (few_in t (a + 1) m)

pub members_few : (heads : List ℕ) (p : ℕ) → length (members heads p) ≤ length heads
members_few heads p = few_in (has_head heads p) 0 (length heads)
