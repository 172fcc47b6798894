-- The catalogue of bodies is one that a file may have.
use Rattle.std.proofs.Common.{◌≡◌, ◌≢◌, ℕ, zero, suc, ◌+◌, ◌<◌, ◌≤◌, ◌==◌, ◌&&◌, List, [], ◌∷◌, ◌++◌, length, get_or, map, filter, cond, not, Bool, true, false, refl, sym, ap, subst, ◌∙◌, inl, inr, arith}
use Rattle.std.specs.Prelude.{nat_lt, All}
use Rattle.std.specs.List.{flat_map, range_with_len}
use Rattle.std.specs.List.Sorted.{IsStrictlyIncreasing}
use Rattle.std.proofs.lemmas.Bool.{cases_eq, cases_lt}
use Rattle.std.proofs.lemmas.Bool.Decides.{nat_tests}
use Rattle.std.proofs.lemmas.List.{get_or-map, length-map, map-append}
use Rattle.std.proofs.lemmas.List.Elements.{All-append, All-filter, All-nil, filter_passes}
use Rattle.std.proofs.lemmas.List.FromFn.{length-range_with_len, get_or-range_with_len}
use Rattle.std.proofs.lemmas.List.Kept.{AllPairs-from_increasing, IsStrictlyIncreasing-filter}
use Rattle.std.proofs.lemmas.List.Sums.{sum_by-append, length-filter, count_by-le-length}
use Rattle.nbody_model.specs.Bodies.{BodyData, IsValid}
use Rattle.group_file.specs.Catalogues.{GroupData, IsGroup, IsGood, all_ids, times}
use Rattle.group_file.proofs.Twice.{times_same, times_other}
use Rattle.neighbour_find.specs.Near.{nobody}
use Rattle.groups.specs.Groups.{AreHeads, IsCatalogue, IsHead, group_of, has_head, kept, members, web}
use Rattle.groups.proofs.Steps.{joined_self}

-- ---- how often a number stands in a list

times_none : (v : ℕ) (xs : List ℕ) → ((k : ℕ) → k < length xs → get_or xs k 0 ≢ v) → times v xs ≡ 0
times_none v [] f = refl
times_none v (x ∷ xs) f = times_other v x xs (f 0 (omega arith)) ∙ times_none v xs (λ k l. f (suc k) (omega (arith, l)))

-- in a rising list each number stands once
times_once : (v : ℕ) (xs : List ℕ) → IsStrictlyIncreasing xs → times v xs ≤ 1
times_once v [] up = omega arith
times_once v (x ∷ xs) up = elim (cases_eq x v) as (λ _. times v (x ∷ xs) ≤ 1) [
  | inl e ↦ omega (arith, times_same v x xs e, times_none v xs (λ k l q. omega (arith, AllPairs-from_increasing (x ∷ xs) up 0 (suc k) 0 (omega arith) (omega (arith, l)), e, q)))
  | inr n ↦ omega (arith, times_other v x xs n, times_once v xs (λ k l. (let s : suc k + 1 ≡ suc (k + 1) = omega arith in subst (λ m. get_or (x ∷ xs) (suc k) 0 < get_or (x ∷ xs) m 0) s (up (suc k) (omega (arith, l))))))
]

stands : (v : ℕ) (xs : List ℕ) → 1 ≤ times v xs → (k : ℕ) × (k < length xs) × (get_or xs k 0 ≡ v)
stands v [] h = absurd (omega (arith, h))
stands v (x ∷ xs) h = elim (cases_eq x v) as (λ _. (k : ℕ) × (k < length (x ∷ xs)) × (get_or (x ∷ xs) k 0 ≡ v)) [
  | inl e ↦ (0, omega arith, e)
  | inr n ↦ (let s = stands v xs (omega (arith, h, times_other v x xs n)) in (suc s.0, omega (arith, s.1), s.2))
]

-- ---- places

rises : (a n : ℕ) → IsStrictlyIncreasing (range_with_len a n)
rises a n k l =
    let within : k + 1 < n = omega (arith, l, length-range_with_len a n) in
    omega (arith, get_or-range_with_len a n k 0 (omega (arith, within)), get_or-range_with_len a n (k + 1) 0 within)

below : (n : ℕ) → All (λ k. k < n) (range_with_len 0 n)
below n k d l = omega (arith, get_or-range_with_len 0 n k d (omega (arith, l, length-range_with_len 0 n)), l, length-range_with_len 0 n)

times_range : (k a n : ℕ) → a ≤ k → k < a + n → 1 ≤ times k (range_with_len a n)
times_range k a zero h l = absurd (omega (arith, h, l))
times_range k a (suc n) h l = elim (cases_eq a k) as (λ _. 1 ≤ times k (range_with_len a (suc n))) [
  | inl e ↦ omega (arith, times_same k a (range_with_len (a + 1) n) e)
  | inr e ↦ omega (arith, times_other k a (range_with_len (a + 1) n) e, times_range k (a + 1) n (omega (arith, h, e)) (omega (arith, l)))
]

times_filter : (p : ℕ → Bool) (k : ℕ) (xs : List ℕ) → p k ≡ true → times k (filter p xs) ≡ times k xs
times_filter p k [] t = refl
times_filter p k (x ∷ xs) t = elim (cases_eq x k) as (λ _. times k (filter p (x ∷ xs)) ≡ times k (x ∷ xs)) [
  | inl e ↦ (let yes_b : p x ≡ true = ap p e ∙ t in ap (λ b. times k (cond b (x ∷ filter p xs) (filter p xs))) yes_b ∙ omega (arith, times_same k x (filter p xs) e, times_same k x xs e, times_filter p k xs t))
  | inr n ↦ by (p x) (times_filter p k xs t) n
]
  where
    by : (b : Bool) → times k (filter p xs) ≡ times k xs → x ≢ k → times k (cond b (x ∷ filter p xs) (filter p xs)) ≡ times k (x ∷ xs)
    by true r n = omega (arith, times_other k x (filter p xs) n, times_other k x xs n, r)
    by false r n = omega (arith, times_other k x xs n, r)

not_kept : (p : ℕ → Bool) (k : ℕ) (xs : List ℕ) → p k ≡ false → times k (filter p xs) ≡ 0
not_kept p k [] t = refl
not_kept p k (x ∷ xs) t = elim (cases_eq x k) as (λ _. times k (filter p (x ∷ xs)) ≡ 0) [
  | inl e ↦ (let no_b : p x ≡ false = ap p e ∙ t in ap (λ b. times k (cond b (x ∷ filter p xs) (filter p xs))) no_b ∙ not_kept p k xs t)
  | inr n ↦ by (p x) (not_kept p k xs t) n
]
  where
    by : (b : Bool) → times k (filter p xs) ≡ 0 → x ≢ k → times k (cond b (x ∷ filter p xs) (filter p xs)) ≡ 0
    by true r n = times_other k x (filter p xs) n ∙ r
    by false r n = r

-- ---- the groups that are kept

-- a place is a head, and its group has members enough
abbrev is_kept : ℕ → List ℕ → ℕ → Bool
is_kept least heads p = has_head heads p p && not (nat_lt (length (members heads p)) least)

kept_as : (least : ℕ) (B : List BodyData) (heads xs : List ℕ) → flat_map (kept least B heads) xs ≡ map (group_of B heads) (filter (is_kept least heads) xs)
kept_as least B heads [] = refl
kept_as least B heads (p ∷ xs) = by (has_head heads p p) (nat_lt (length (members heads p)) least) (kept_as least B heads xs)
  where
    by : (a b : Bool) → flat_map (kept least B heads) xs ≡ map (group_of B heads) (filter (is_kept least heads) xs)
        → cond a (cond b [] (group_of B heads p ∷ [])) [] ++ flat_map (kept least B heads) xs ≡ map (group_of B heads) (cond (a && not b) (p ∷ filter (is_kept least heads) xs) (filter (is_kept least heads) xs))
    by true true r = r
    by true false r = ap (λ C. group_of B heads p ∷ C) r
    by false b r = r

is_head : (a b : Bool) → (a && b) ≡ true → a ≡ true
is_head true b e = refl
is_head false b e = e

-- each place is a member of at most one of different heads
members_once : (heads : List ℕ) (k : ℕ) (P : List ℕ) → times k (flat_map (members heads) P) ≤ times (get_or heads k 0) P
members_once heads k [] = omega arith
members_once heads k (p ∷ P) =
    let both = sum_by-append (λ i. cond (i == k) 1 0) (members heads p) (flat_map (members heads) P) in
    elim (cases_eq p (get_or heads k 0)) as (λ _. times k (flat_map (members heads) (p ∷ P)) ≤ times (get_or heads k 0) (p ∷ P)) [
      | inl e ↦ omega (arith, both, times_same (get_or heads k 0) p P e, members_once heads k P, times_once k (members heads p) (IsStrictlyIncreasing-filter (has_head heads p) (range_with_len 0 (length heads)) (rises 0 (length heads))))
      | inr n ↦ (
          let other : (get_or heads k 0 == p) ≡ false = (let m : get_or heads k 0 ≢ p = λ e. n (sym e) in grind (arith, nat_tests)) in
          omega (arith, both, times_other (get_or heads k 0) p P n, members_once heads k P, not_kept (has_head heads p) k (range_with_len 0 (length heads)) other))
    ]

-- what is told apart stands once
apart_once : (f : ℕ → ℕ) (n v : ℕ) → ((i j : ℕ) → i < n → j < n → f i ≡ f j → i ≡ j) → (xs : List ℕ) → All (λ k. k < n) xs → ((k : ℕ) → times k xs ≤ 1) → times v (map f xs) ≤ 1
apart_once f n v inj [] b o = omega arith
apart_once f n v inj (x ∷ xs) b o =
    let rest_b : All (λ k. k < n) xs = λ k d l. b (suc k) d (omega (arith, l)) in
    elim (cases_eq (f x) v) as (λ _. times v (map f (x ∷ xs)) ≤ 1) [
      | inl e ↦ (
          let none : times v (map f xs) ≡ 0 = times_none v (map f xs) (λ k l q. (
          let m : k < length xs = omega (arith, l, length-map xs f) in
          let same : x ≡ get_or xs k 0 = inj x (get_or xs k 0) (b 0 0 (omega arith)) (rest_b k 0 m) (e ∙ sym q ∙ get_or-map f xs k 0 0 m) in
          absurd (omega (arith, o x, times_same x x xs refl, some x xs k m (sym same))))) in
          omega (arith, times_same v (f x) (map f xs) e, none))
      | inr m ↦ omega (arith, times_other v (f x) (map f xs) m, apart_once f n v inj xs rest_b (λ k. fewer k))
    ]
  where
    some : (y : ℕ) (ys : List ℕ) (k : ℕ) → k < length ys → get_or ys k 0 ≡ y → 1 ≤ times y ys
    some y [] k l e = absurd (omega (arith, l))
    some y (z ∷ ys) zero l e = omega (arith, times_same y z ys e)
    some y (z ∷ ys) (suc k) l e = elim (cases_eq z y) as (λ _. 1 ≤ times y (z ∷ ys)) [ inl q ↦ omega (arith, times_same y z ys q) | inr m ↦ omega (arith, times_other y z ys m, some y ys k (omega (arith, l)) e) ]

    fewer : (k : ℕ) → times k xs ≤ 1
    fewer k = elim (cases_eq x k) as (λ _. times k xs ≤ 1) [ inl e ↦ omega (arith, o k, times_same k x xs e) | inr m ↦ omega (arith, o k, times_other k x xs m) ]

map_flat : (f : ℕ → ℕ) (g : ℕ → List ℕ) (xs : List ℕ) → flat_map (λ p. map f (g p)) xs ≡ map f (flat_map g xs)
map_flat f g [] = refl
map_flat f g (x ∷ xs) = ap (λ ys. map f (g x) ++ ys) (map_flat f g xs) ∙ sym (map-append f (g x) (flat_map g xs))

flat_map_map : (B : List BodyData) (heads xs : List ℕ) → all_ids (map (group_of B heads) xs) ≡ flat_map (λ p. map (λ k. (get_or B k nobody).id) (members heads p)) xs
flat_map_map B heads [] = refl
flat_map_map B heads (p ∷ xs) = ap (λ ys. map (λ k. (get_or B k nobody).id) (members heads p) ++ ys) (flat_map_map B heads xs)

all_flat : (n : ℕ) (g : ℕ → List ℕ) → ((p : ℕ) → All (λ k. k < n) (g p)) → (xs : List ℕ) → All (λ k. k < n) (flat_map g xs)
all_flat n g f [] = All-nil (λ k. k < n)
all_flat n g f (x ∷ xs) = All-append (λ k. k < n) (g x) (flat_map g xs) (f x) (all_flat n g f xs)

-- ---- the catalogue

module _ (reach least : ℕ) (B : List BodyData) (valid : IsValid B) (heads : List ℕ) (are : AreHeads (web reach B) heads) where
  id_less : (i j : ℕ) → i < j → j < length B → (get_or B i nobody).id < (get_or B j nobody).id
  id_less i j h l =
      omega (arith, AllPairs-from_increasing (map (λ (b : BodyData). b.id) B) valid.ascending i j 0 h (omega (arith, l, length-map B (λ (b : BodyData). b.id))), get_or-map (λ (b : BodyData). b.id) B i nobody 0 (omega (arith, h, l)), get_or-map (λ (b : BodyData). b.id) B j nobody 0 l)

  one_id : (i j : ℕ) → i < length B → j < length B → (get_or B i nobody).id ≡ (get_or B j nobody).id → i ≡ j
  one_id i j l m e = elim (cases_lt i j) as (λ _. i ≡ j) [
    | inl less ↦ absurd (omega (arith, id_less i j less m, e))
    | inr more ↦ elim (cases_lt j i) as (λ _. i ≡ j) [ inl less ↦ absurd (omega (arith, id_less j i less l, e)) | inr same ↦ omega (arith, more, same) ]
  ]

  ids_rise : (xs : List ℕ) → IsStrictlyIncreasing xs → All (λ k. k < length B) xs → IsStrictlyIncreasing (map (λ k. (get_or B k nobody).id) xs)
  ids_rise xs up b k l =
      let m : k + 1 < length xs = omega (arith, l, length-map xs (λ k. (get_or B k nobody).id)) in
      omega (arith, get_or-map (λ k. (get_or B k nobody).id) xs k 0 0 (omega (arith, m)), get_or-map (λ k. (get_or B k nobody).id) xs (k + 1) 0 0 m, id_less (get_or xs k 0) (get_or xs (k + 1) 0) (up k m) (b (k + 1) 0 m))

  places_rise : (p : ℕ) → IsStrictlyIncreasing (members heads p)
  places_rise p = IsStrictlyIncreasing-filter (has_head heads p) (range_with_len 0 (length heads)) (rises 0 (length heads))

  places_below : (p : ℕ) → All (λ k. k < length B) (members heads p)
  places_below p = All-filter (has_head heads p) (λ k. k < length B) (range_with_len 0 (length heads)) (λ k d l. omega (arith, below (length heads) k d l, are.as_many))

  among : (p : ℕ) → p < length B → has_head heads p p ≡ true → 1 ≤ times p (members heads p)
  among p l t = omega (arith, times_filter (has_head heads p) p (range_with_len 0 (length heads)) t, times_range p 0 (length heads) (omega arith) (omega (arith, l, are.as_many)))

  first_is : (p : ℕ) → p < length B → has_head heads p p ≡ true → get_or (members heads p) 0 0 ≡ p
  first_is p l t =
      let s = stands p (members heads p) (among p l t) in
      let some : 0 < length (members heads p) = omega (arith, s.1) in
      let x : ℕ = get_or (members heads p) 0 0 in
      let within : x < length B = places_below p 0 0 some in
      let head : IsHead (web reach B) x (get_or heads x 0) = are.each x 0 within in
      let mine : get_or heads x 0 ≡ p = same_of (get_or heads x 0) p (filter_passes (has_head heads p) (range_with_len 0 (length heads)) 0 0 some) in
      let low : p ≤ x = omega (arith, mine, head.least x within (joined_self (web reach B) x)) in
      elim (cases_lt 0 s.0) as (λ _. x ≡ p) [
        | inl later ↦ omega (arith, AllPairs-from_increasing (members heads p) (places_rise p) 0 s.0 0 later s.1, s.2, low)
        | inr here ↦ (let z : s.0 ≡ 0 = omega (arith, here) in sym (ap (λ k. get_or (members heads p) k 0) z) ∙ s.2)
      ]
    where
      same_of : (a b : ℕ) → (a == b) ≡ true → a ≡ b
      same_of a b h = grind (arith, nat_tests)

  is_group : (p : ℕ) → p < length B → has_head heads p p ≡ true → IsGroup (group_of B heads p)
  is_group p l t =
      let s = stands p (members heads p) (among p l t) in
      let some : 0 < length (members heads p) = omega (arith, s.1) in
      let long : length (map (λ k. (get_or B k nobody).id) (members heads p)) ≡ length (members heads p) = length-map (members heads p) (λ k. (get_or B k nobody).id) in
      record {
        some = omega (arith, some, long);
        few = omega (arith, long, length-filter (has_head heads p) (range_with_len 0 (length heads)), count_by-le-length (has_head heads p) (range_with_len 0 (length heads)), length-range_with_len 0 (length heads), are.as_many, valid.few);
        ascending = ids_rise (members heads p) (places_rise p) (places_below p);
        first = get_or-map (λ k. (get_or B k nobody).id) (members heads p) 0 0 0 some ∙ ap (λ k. (get_or B k nobody).id) (first_is p l t);
      }

  heads_kept : List ℕ
  heads_kept = filter (is_kept least heads) (range_with_len 0 (length B))

  labels_as : (xs : List ℕ) → map (λ (g : GroupData). g.label) (map (group_of B heads) xs) ≡ map (λ k. (get_or B k nobody).id) xs
  labels_as [] = refl
  labels_as (x ∷ xs) = ap (λ ys. (get_or B x nobody).id ∷ ys) (labels_as xs)

  pub kept_good : IsGood (map (group_of B heads) (filter (is_kept least heads) (range_with_len 0 (length B))))
  kept_good =
      let P : List ℕ = filter (is_kept least heads) (range_with_len 0 (length B)) in
      let up : IsStrictlyIncreasing P = IsStrictlyIncreasing-filter (is_kept least heads) (range_with_len 0 (length B)) (rises 0 (length B)) in
      let within : All (λ k. k < length B) P = All-filter (is_kept least heads) (λ k. k < length B) (range_with_len 0 (length B)) (below (length B)) in
      record {
        ascending = subst IsStrictlyIncreasing (sym (labels_as P)) (ids_rise P up within);
        each = λ k d l. (
            let m : k < length P = omega (arith, l, length-map P (group_of B heads)) in
            subst IsGroup (sym (get_or-map (group_of B heads) P k 0 d m)) (is_group (get_or P k 0) (within k 0 m) (is_head (has_head heads (get_or P k 0) (get_or P k 0)) _ (filter_passes (is_kept least heads) (range_with_len 0 (length B)) k 0 m))));
        apart = λ v. subst (λ ids. times v ids ≤ 1) (sym (flat_map_map B heads P ∙ map_flat (λ k. (get_or B k nobody).id) (members heads) P))
            (apart_once (λ k. (get_or B k nobody).id) (length B) v one_id (flat_map (members heads) P) (all_flat (length B) (members heads) places_below P)
            (λ k. omega (arith, members_once heads k P, times_once (get_or heads k 0) P up)));
      }

pub catalogue_good : (reach least : ℕ) (B : List BodyData) (C : List GroupData) → IsValid B → IsCatalogue reach least B C → IsGood C
catalogue_good reach least B C valid c = subst IsGood (sym (c.is ∙ kept_as least B c.heads (range_with_len 0 (length B)))) (kept_good reach least B valid c.heads c.are)
