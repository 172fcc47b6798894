-- Ids that stand more than once, among all and in ascending order.
use Rattle.std.proofs.Common.{◌≡◌, ◌≢◌, ℕ, zero, suc, ◌+◌, ◌<◌, ◌≤◌, ◌==◌, List, [], ◌∷◌, length, get_or, filter, cond, Bool, true, false, Option, Some, None, refl, sym, ap, subst, ◌∙◌, inl, inr, arith}
use Rattle.std.specs.Prelude.{nat_lt, min, fold, ⊤, IfSome, IfNone, IsPermutation}
use Rattle.std.specs.List.{AllByRecursion, AllAdjacentBelow}
use Rattle.std.specs.List.Sorted.{IsNonDecreasing}
use Rattle.std.proofs.lemmas.Bool.{cases_lt, cases_eq}
use Rattle.std.proofs.lemmas.Bool.Decides.{nat_tests}
use Rattle.std.proofs.lemmas.List.Sums.{sum_by-cons, count_by-le-length, count_by_more_yes, sum_by-take-le}
use Rattle.std.proofs.lemmas.List.Sorted.{sum_by-IsPermutation}
use Rattle.group_file.specs.Catalogues.{GroupData, all_ids, times}
use Rattle.group_file.specs.GroupFile.{least_of, repeated_in}
use Rattle.group_file.specs.Repeats.{IsLeastRepeated}

-- ---- how often an id stands in a list

pub times_cons : (id q : ℕ) (ids : List ℕ) → times id (q ∷ ids) ≡ cond (q == id) 1 0 + times id ids
times_cons id q ids = sum_by-cons (λ i. cond (i == id) 1 0) q ids

pub times_same : (id q : ℕ) (ids : List ℕ) → q ≡ id → times id (q ∷ ids) ≡ 1 + times id ids
times_same id q ids e =
    let test : (q == id) ≡ true = grind (arith, nat_tests) in
    times_cons id q ids ∙ ap (λ b. cond b 1 0 + times id ids) test

pub times_other : (id q : ℕ) (ids : List ℕ) → q ≢ id → times id (q ∷ ids) ≡ times id ids
times_other id q ids e =
    let test : (q == id) ≡ false = grind (arith, nat_tests) in
    times_cons id q ids ∙ ap (λ b. cond b 1 0 + times id ids) test ∙ omega arith

-- ---- ascending ids

below_tail : (q : ℕ) (ids : List ℕ) → IsNonDecreasing (q ∷ ids) → IsNonDecreasing ids
below_tail q ids up i j d le lt = up (suc i) (suc j) d (omega arith) (omega arith)

head_at_most : (id q : ℕ) (ids : List ℕ) → IsNonDecreasing (q ∷ ids) → 1 ≤ times id (q ∷ ids) → q ≤ id
head_at_most id q [] up h =
    elim (cases_eq q id) as (λ _. q ≤ id) [ inl e ↦ omega arith | inr n ↦ absurd (omega (arith, h, times_other id q [] n)) ]
head_at_most id q (s ∷ ids) up h =
    let next : q ≤ s = up 0 1 q (omega arith) (omega arith) in
    elim (cases_eq q id) as (λ _. q ≤ id) [
      | inl e ↦ omega arith
      | inr n ↦ (let rest : s ≤ id = head_at_most id s ids (below_tail q (s ∷ ids) up) (omega (arith, h, times_other id q (s ∷ ids) n)) in omega arith)
    ]

-- an id that stands twice in ascending ids stands at two places side by side
record StandsAside (id : ℕ) (ids : List ℕ) : Type 0 where
  place : ℕ
  within : place + 1 < length ids
  here : get_or ids place 0 ≡ id
  next : get_or ids (place + 1) 0 ≡ id

aside : (id : ℕ) (ids : List ℕ) → IsNonDecreasing ids → 2 ≤ times id ids → StandsAside id ids
aside id [] up h = absurd (omega (arith, h))
aside id (r ∷ []) up h = absurd (omega (arith, h, count_by-le-length (λ i. i == id) (r ∷ [])))
aside id (r ∷ q ∷ ids) up h =
    elim (cases_eq r id) as (λ _. StandsAside id (r ∷ q ∷ ids)) [
      | inl e ↦ (
          let rest : 1 ≤ times id (q ∷ ids) = omega (arith, h, times_same id r (q ∷ ids) e) in
          let high : q ≤ id = head_at_most id q ids (below_tail r (q ∷ ids) up) rest in
          let low : r ≤ q = up 0 1 r (omega arith) (omega arith) in
          let second : q ≡ id = omega (arith, high, low, e) in
          record { place = 0; within = omega arith; here = e; next = second })
      | inr n ↦ (
          let rest = aside id (q ∷ ids) (below_tail r (q ∷ ids) up) (omega (arith, h, times_other id r (q ∷ ids) n)) in
          let same : suc (rest.place + 1) ≡ suc rest.place + 1 = omega arith in
          record { place = suc rest.place; within = omega (arith, rest.within); here = rest.here; next = subst (λ k. get_or (r ∷ q ∷ ids) k 0 ≡ id) same rest.next })
    ]

twice : (ids : List ℕ) (i id : ℕ) → i + 1 < length ids → get_or ids i 0 ≡ id → get_or ids (i + 1) 0 ≡ id → 2 ≤ times id ids
twice ids i id within here next =
    let first = count_by_more_yes (λ j. j == id) ids i 0 (omega (arith, within)) (grind (arith, nat_tests)) in
    let second = count_by_more_yes (λ j. j == id) ids (i + 1) 0 within (grind (arith, nat_tests)) in
    omega (arith, first, second, sum_by-take-le (λ j. cond (j == id) 1 0) ids (i + 1 + 1))

-- rising ids have each id once
pub alone : (ids : List ℕ) → IsNonDecreasing ids → AllAdjacentBelow (λ x y. x < y) ids (length ids) → (id : ℕ) → times id ids ≤ 1
alone ids up rise id = elim (cases_lt 1 (times id ids)) as (λ _. times id ids ≤ 1) [
  | inl more ↦ (let a = aside id ids up (omega (arith, more)) in absurd (omega (arith, rise a.place 0 a.within, a.here, a.next)))
  | inr few ↦ few
]

-- where ids ascend, strictly up to place i, the id at i, if it is the one before, is the least that stands twice
pub repeated_at : (ids : List ℕ) (j i : ℕ) → IsNonDecreasing ids → i ≡ j + 1 → i < length ids → get_or ids j 0 ≡ get_or ids i 0 → AllAdjacentBelow (λ x y. x < y) ids i → IsLeastRepeated ids (get_or ids i 0)
repeated_at ids j i up next within same rise = record {
  twice = twice ids j (get_or ids i 0) (omega (arith, next, within)) same (ap (λ k. get_or ids k 0) (sym next));
  least = λ k two. (
      let a = aside k ids up two in
      elim (cases_lt (a.place + 1) i) as (λ _. get_or ids i 0 ≤ k) [
        | inl lower ↦ absurd (omega (arith, rise a.place 0 lower, a.here, a.next))
        | inr upper ↦ omega (arith, up i (a.place + 1) 0 upper a.within, a.next)
      ]);
}

-- ---- the least of some numbers

least_low : (x : ℕ) (xs : List ℕ) → fold min x xs ≤ x
least_low x [] = omega arith
least_low x (y ∷ xs) = omega (arith, least_low (min x y) xs)

least_in : (v x : ℕ) (xs : List ℕ) → 1 ≤ times v (x ∷ xs) → fold min x xs ≤ v
least_in v x [] h = elim (cases_eq x v) as (λ _. x ≤ v) [ inl e ↦ omega (arith, e) | inr n ↦ absurd (omega (arith, h, times_other v x [] n)) ]
least_in v x (y ∷ xs) h = elim (cases_eq x v) as (λ _. fold min x (y ∷ xs) ≤ v) [
  | inl e ↦ omega (arith, e, least_low x (y ∷ xs))
  | inr n ↦ elim (cases_eq y v) as (λ _. fold min x (y ∷ xs) ≤ v) [
    | inl e ↦ omega (arith, e, least_low (min x y) xs)
    | inr m ↦ least_in v (min x y) xs (omega (arith, h, times_other v x (y ∷ xs) n, times_other v y xs m, times_cons v (min x y) xs))
  ]
]

least_above : (v x : ℕ) (xs : List ℕ) → v ≤ x → AllByRecursion (λ y. v ≤ y) xs → v ≤ fold min x xs
least_above v x [] h a = h
least_above v x (y ∷ xs) h a = least_above v (min x y) xs (omega (arith, h, a.0)) a.1

least_is : (v : ℕ) (xs : List ℕ) → 1 ≤ times v xs → AllByRecursion (λ x. v ≤ x) xs → least_of xs ≡ Some v
least_is v [] h a = absurd (omega (arith, h))
least_is v (x ∷ xs) h a = let is : fold min x xs ≡ v = omega (arith, least_in v x xs h, least_above v x xs a.0 a.1) in ap Some is

none_least : (v : ℕ) (xs : List ℕ) → 1 ≤ times v xs → least_of xs ≡ None → ⊥
none_least v [] h e = omega (arith, h)
none_least v (x ∷ xs) h e = cc

-- ---- those that pass a test

kept_more : (v x : ℕ) (xs : List ℕ) (b : Bool) → 1 ≤ times v xs → 1 ≤ times v (cond b (x ∷ xs) xs)
kept_more v x xs true h = omega (arith, h, times_cons v x xs)
kept_more v x xs false h = h

pub times_kept : (p : ℕ → Bool) (v : ℕ) (xs : List ℕ) → p v ≡ true → 1 ≤ times v xs → 1 ≤ times v (filter p xs)
times_kept p v [] t h = h
times_kept p v (x ∷ xs) t h = elim (cases_eq x v) as (λ _. 1 ≤ times v (filter p (x ∷ xs))) [
  | inl e ↦ (let b : p x ≡ true = ap p e ∙ t in subst (λ b. 1 ≤ times v (cond b (x ∷ filter p xs) (filter p xs))) (sym b) (omega (arith, times_same v x (filter p xs) e)))
  | inr n ↦ kept_more v x (filter p xs) (p x) (times_kept p v xs t (omega (arith, h, times_other v x xs n)))
]

all_kept : (P : ℕ → Type 0) (x : ℕ) (xs : List ℕ) (b : Bool) → (b ≡ true → P x) → AllByRecursion P xs → AllByRecursion P (cond b (x ∷ xs) xs)
all_kept P x xs true h a = (h refl, a)
all_kept P x xs false h a = a

each_kept : (P : ℕ → Type 0) (p : ℕ → Bool) → ((x : ℕ) → p x ≡ true → P x) → (xs : List ℕ) → AllByRecursion P (filter p xs)
each_kept P p f [] = tt
each_kept P p f (x ∷ xs) = all_kept P x (filter p xs) (p x) (f x) (each_kept P p f xs)

pub none_kept : (p : ℕ → Bool) (xs : List ℕ) → ((x : ℕ) → p x ≡ false) → filter p xs ≡ []
none_kept p [] f = refl
none_kept p (x ∷ xs) f = ap (λ b. cond b (x ∷ filter p xs) (filter p xs)) (f x) ∙ none_kept p xs f

-- ---- the least repeated id of a catalogue

test_more : (n : ℕ) → 2 ≤ n → nat_lt 1 n ≡ true
test_more n h = grind (arith, nat_tests)

test_two : (n : ℕ) → nat_lt 1 n ≡ true → 2 ≤ n
test_two n h = grind (arith, nat_tests)

test_few : (n : ℕ) → n ≤ 1 → nat_lt 1 n ≡ false
test_few n h = grind (arith, nat_tests)

pub none_repeated : (C : List GroupData) → ((id : ℕ) → times id (all_ids C) ≤ 1) → repeated_in C ≡ None
none_repeated C f = ap least_of (none_kept (λ id. nat_lt 1 (times id (all_ids C))) (all_ids C) (λ id. test_few (times id (all_ids C)) (f id)))

pub are_apart : (C : List GroupData) → repeated_in C ≡ None → (id : ℕ) → times id (all_ids C) ≤ 1
are_apart C e id = elim (cases_lt 1 (times id (all_ids C))) as (λ _. times id (all_ids C) ≤ 1) [
  | inl more ↦ absurd (none_least id (filter (λ id. nat_lt 1 (times id (all_ids C))) (all_ids C))
      (times_kept (λ id. nat_lt 1 (times id (all_ids C))) id (all_ids C) (test_more (times id (all_ids C)) (omega (arith, more))) (omega (arith, more))) e)
  | inr few ↦ few
]

pub found : (C : List GroupData) (sorted : List ℕ) (id : Option ℕ) → IsPermutation (all_ids C) sorted → IfNone id ((i : ℕ) → times i sorted ≤ 1) → IfSome id (IsLeastRepeated sorted) → id ≡ repeated_in C
found C sorted None p n s = sym (none_repeated C (λ i. omega (arith, n i, sum_by-IsPermutation (λ j. cond (j == i) 1 0) (all_ids C) sorted p)))
found C sorted (Some id) p n s =
    let as_often : (i : ℕ) → times i sorted ≡ times i (all_ids C) = λ i. sum_by-IsPermutation (λ j. cond (j == i) 1 0) (all_ids C) sorted p in
    let two : 2 ≤ times id (all_ids C) = omega (arith, s.twice, as_often id) in
    sym (least_is id (filter (λ i. nat_lt 1 (times i (all_ids C))) (all_ids C))
    (times_kept (λ i. nat_lt 1 (times i (all_ids C))) id (all_ids C) (test_more (times id (all_ids C)) two) (omega (arith, two)))
    (each_kept (λ i. id ≤ i) (λ i. nat_lt 1 (times i (all_ids C))) (λ i t. s.least i (omega (arith, test_two (times i (all_ids C)) t, as_often i))) (all_ids C)))
