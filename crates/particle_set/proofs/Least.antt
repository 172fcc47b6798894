-- The least id of the rows for which something holds.
use Rattle.std.proofs.Common.{◌≡◌, ◌≢◌, ℕ, suc, ◌+◌, ◌<◌, ◌≤◌, ◌==◌, List, [], ◌∷◌, length, get_or, All, cond, refl, subst, ap, ◌∙◌, inl, inr, true, false, arith}
use Rattle.std.specs.List.{AllAdjacentBelow, Any}
use Rattle.std.specs.List.Sorted.{IsPermutation, IsNonDecreasingBy, IsStrictlyIncreasing}
use Rattle.std.proofs.lemmas.Bool.{cases_lt, cases_eq}
use Rattle.std.proofs.lemmas.Bool.Decides.{nat_tests}
use Rattle.std.proofs.lemmas.List.{get_or_default, get_or-map, length-map}
use Rattle.std.proofs.lemmas.List.Sums.{sum_by-cons, count_by-le-length, count_by_more_yes, sum_by-take-le}
use Rattle.std.proofs.lemmas.List.Sorted.{All-permutation, Contains-permutation, sum_by-IsPermutation}
use Rattle.particle_set.specs.declared.row.Row.{Row}
use Rattle.particle_set.specs.Rows.{ids, times, IsRepeated, IsAlone, IsLeastId}

-- where rows ascend in id, the first for which P holds has the least id
pub least_at_first : (P : Row → Type 0) (rows : List Row) (i : ℕ) (r : Row) → IsNonDecreasingBy (λ r. r.id) rows → i < length rows → get_or rows i r ≡ r → P r
    → ((k : ℕ) (d : Row) → k < i → P (get_or rows k d) → ⊥) → IsLeastId P rows r.id
least_at_first P rows i r up within at holds before = record {
  among = (i, r, within, at, (holds, refl));
  least = λ k d lt p. elim (cases_lt k i) as (λ _. r.id ≤ (get_or rows k d).id) [
    | inl lower ↦ absurd (before k d lower p)
    | inr upper ↦ subst (λ (q : Row). q.id ≤ (get_or rows k d).id) (get_or_default rows i _ _ within ∙ at) (up i k d upper lt)
  ];
}

any-permutation : (P : Row → Type 0) (xs ys : List Row) → IsPermutation xs ys → Any P xs → Any P ys
any-permutation P xs ys p a =
    let c = Contains-permutation xs ys a.1 p (a.0, a.2, a.3) in
    (c.0, a.1, c.1, c.2, a.4)

any-map : (P Q : Row → Type 0) (xs : List Row) → ((r : Row) → P r → Q r) → Any P xs → Any Q xs
any-map P Q xs f a = (a.0, a.1, a.2, a.3, f a.1 a.4)

pub IsLeastId-permutation : (P Q : Row → Type 0) (xs ys : List Row) (id : ℕ) → IsPermutation xs ys → ((r : Row) → P r → Q r) → ((r : Row) → Q r → P r) → IsLeastId P xs id → IsLeastId Q ys id
IsLeastId-permutation P Q xs ys id p f g h = record {
  among = any-permutation (λ r. Q r × (r.id ≡ id)) xs ys p (any-map (λ r. P r × (r.id ≡ id)) (λ r. Q r × (r.id ≡ id)) xs (λ r q. (f r q.0, q.1)) h.among);
  least = All-permutation (λ r. Q r → id ≤ r.id) xs ys p (λ k d lt q. h.least k d lt (g _ q));
}

-- an id stands as often in a list in another order
pub times-permutation : (id : ℕ) (xs ys : List Row) → IsPermutation xs ys → times id ys ≡ times id xs
times-permutation id xs ys p = sum_by-IsPermutation (λ (r : Row). cond (r.id == id) 1 0) xs ys p

below_tail : (r : Row) (rows : List Row) → IsNonDecreasingBy (λ r. r.id) (r ∷ rows) → IsNonDecreasingBy (λ r. r.id) rows
below_tail r rows up i j d le lt = up (suc i) (suc j) d (omega arith) (omega arith)

-- the head of rows counts or doesn't
counts_head : (id : ℕ) (q : Row) (rows : List Row) → q.id ≡ id → times id (q ∷ rows) ≡ 1 + times id rows
counts_head id q rows e =
    let test : (q.id == id) ≡ true = grind (arith, nat_tests) in
    sum_by-cons (λ (r : Row). cond (r.id == id) 1 0) q rows ∙ ap (λ b. cond b 1 0 + times id rows) test

passes_head : (id : ℕ) (q : Row) (rows : List Row) → q.id ≢ id → times id (q ∷ rows) ≡ times id rows
passes_head id q rows e =
    let test : (q.id == id) ≡ false = grind (arith, nat_tests) in
    sum_by-cons (λ (r : Row). cond (r.id == id) 1 0) q rows ∙ ap (λ b. cond b 1 0 + times id rows) test ∙ omega arith

-- an id that stands in ascending rows is no less than that of the first of them
head_at_most : (id : ℕ) (q : Row) (rows : List Row) → IsNonDecreasingBy (λ r. r.id) (q ∷ rows) → 1 ≤ times id (q ∷ rows) → q.id ≤ id
head_at_most id q [] up h =
    elim (cases_eq q.id id) as (λ _. q.id ≤ id) [ inl e ↦ omega arith | inr n ↦ absurd (omega (arith, passes_head id q [] n)) ]
head_at_most id q (s ∷ rows) up h =
    let next : q.id ≤ s.id = up 0 1 q (omega arith) (omega arith) in
    elim (cases_eq q.id id) as (λ _. q.id ≤ id) [
      | inl e ↦ omega arith
      | inr n ↦ (let rest : s.id ≤ id = head_at_most id s rows (below_tail q (s ∷ rows) up) (rw (passes_head id q (s ∷ rows) n) at h) in omega arith)
    ]

-- an id that stands twice in ascending rows stands at two places side by side
pub record StandsAside (id : ℕ) (rows : List Row) : Type 0 where
  pub place : ℕ
  pub within : place + 1 < length rows
  pub here : (d : Row) → (get_or rows place d).id ≡ id
  pub next : (d : Row) → (get_or rows (place + 1) d).id ≡ id

pub aside : (id : ℕ) (rows : List Row) → IsNonDecreasingBy (λ r. r.id) rows → 2 ≤ times id rows → StandsAside id rows
aside id [] up h = absurd (omega (arith, h))
aside id (r ∷ []) up h = absurd (omega (arith, count_by-le-length (λ (r : Row). r.id == id) (r ∷ [])))
aside id (r ∷ q ∷ rows) up h =
    elim (cases_eq r.id id) as (λ _. StandsAside id (r ∷ q ∷ rows)) [
      | inl e ↦ (
          let rest : 1 ≤ times id (q ∷ rows) = omega (arith, counts_head id r (q ∷ rows) e) in
          let high : q.id ≤ id = head_at_most id q rows (below_tail r (q ∷ rows) up) rest in
          let low : r.id ≤ q.id = up 0 1 r (omega arith) (omega arith) in
          let second : q.id ≡ id = omega arith in
          record { place = 0; within = omega arith; here = λ d. e; next = λ d. second })
      | inr n ↦ (
          let rest = aside id (q ∷ rows) (below_tail r (q ∷ rows) up) (rw (passes_head id r (q ∷ rows) n) at h) in
          let same : suc (rest.place + 1) ≡ suc rest.place + 1 = omega arith in
          record { place = suc rest.place; within = omega (arith, rest.within); here = rest.here; next = λ d. subst (λ k. (get_or (r ∷ q ∷ rows) k d).id ≡ id) same (rest.next d) })
    ]

-- an id at two places side by side stands twice
pub twice : (rows : List Row) (i : ℕ) (r : Row) → i + 1 < length rows → (get_or rows i r).id ≡ r.id → get_or rows (i + 1) r ≡ r → 2 ≤ times r.id rows
twice rows i r within here next =
    let id = r.id in
    let at : (get_or rows (i + 1) r).id ≡ r.id = ap (λ (q : Row). q.id) next in
    let first = count_by_more_yes (λ (r : Row). r.id == id) rows i r (omega arith) (grind (arith, nat_tests)) in
    let second = count_by_more_yes (λ (r : Row). r.id == id) rows (i + 1) r within (grind (arith, nat_tests)) in
    omega (arith, first, second, sum_by-take-le (λ (q : Row). cond (q.id == id) 1 0) rows (i + 1 + 1))

-- no id stands at two places side by side in strictly ascending rows
not_aside : (rows : List Row) (id : ℕ) → IsStrictlyIncreasing (ids rows) → StandsAside id rows → ⊥
not_aside [] id rise a = omega (arith, a.within)
not_aside (r ∷ rows) id rise a =
    let all = r ∷ rows in
    let long : length (ids all) ≡ length all = length-map all (λ r. r.id) in
    let here = get_or-map (λ (q : Row). q.id) all a.place r 0 (omega (arith, a.within)) in
    let next = get_or-map (λ (q : Row). q.id) all (a.place + 1) r 0 a.within in
    omega (arith, rise a.place (omega (arith, long, a.within)), here, next, a.here r, a.next r)

-- strictly ascending rows have each id once
pub alone : (rows : List Row) → IsStrictlyIncreasing (ids rows) → IsNonDecreasingBy (λ r. r.id) rows → All (IsAlone rows) rows
alone rows rise up k d lt =
    let id = (get_or rows k d).id in
    record { once = elim (cases_lt 1 (times id rows)) as (λ _. times id rows ≤ 1) [ inl more ↦ absurd (not_aside rows id rise (aside id rows up more)) | inr few ↦ few ] }

-- where rows ascend in id, strictly up to place i, the id at i, if it is that of the row before, is the least that stands twice
pub repeated_at : (rows : List Row) (j i : ℕ) (d : Row) → IsNonDecreasingBy (λ r. r.id) rows → i ≡ j + 1 → i < length rows → (get_or rows j d).id ≡ (get_or rows i d).id
    → AllAdjacentBelow (λ x y. x.id < y.id) rows i → IsLeastId (IsRepeated rows) rows (get_or rows i d).id
repeated_at rows j i d up next within same rise =
    let r = get_or rows i d in
    let at : get_or rows i r ≡ r = get_or_default rows i r d within in
    let here : (get_or rows j r).id ≡ r.id = ap (λ (q : Row). q.id) (get_or_default rows j r d (omega arith)) ∙ same in
    record {
      among = (i, r, within, at, (record { twice = twice rows j r (omega arith) here (subst (λ k. get_or rows k r ≡ r) next at) }, refl));
      least = λ k e lt p. (
          let a = aside (get_or rows k e).id rows up p.twice in
          elim (cases_lt (a.place + 1) i) as (λ _. r.id ≤ (get_or rows k e).id) [
            | inl lower ↦ absurd (omega (arith, rise a.place d lower, a.here d, a.next d))
            | inr upper ↦ omega (arith, up i (a.place + 1) d upper a.within, a.next d)
          ]);
    }

-- what holds of each row below a place, and of the one there
pub each_more : (P : Row → Type 0) (rows : List Row) (i : ℕ) (r : Row) → i < length rows → P (get_or rows i r) → ((k : ℕ) (d : Row) → k < i → P (get_or rows k d))
    → (k : ℕ) (d : Row) → k < i + 1 → P (get_or rows k d)
each_more P rows i r lt p h k d below =
    elim (cases_lt k i) as (λ _. P (get_or rows k d)) [
      | inl lower ↦ h k d lower
      | inr upper ↦ (let e : i ≡ k = omega arith in subst (λ j. P (get_or rows j d)) e (subst P (get_or_default rows i r d lt) p))
    ]
