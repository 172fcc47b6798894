-- Entries of ids, and which group has an id.
use Rattle.std.proofs.Common.{◌≡◌, ◌≢◌, ℕ, zero, suc, ◌+◌, ◌<◌, ◌≤◌, ◌==◌, ◌||◌, List, [], ◌∷◌, ◌++◌, length, get_or, take, cond, Bool, true, false, Option, Some, None, refl, sym, ap, subst, ◌∙◌, inl, inr, arith}
use Rattle.std.specs.Prelude.{IfSome, IfNone, Contains}
use Rattle.std.specs.Option.{option_map}
use Rattle.std.specs.List.{All, AllByRecursion, count_by, cons_option, filter_map}
use Rattle.std.specs.List.Sorted.{IsNonDecreasingBy}
use Rattle.std.proofs.lemmas.Bool.{cases_eq, cases_lt, cond-true, cond-false}
use Rattle.std.proofs.lemmas.Bool.Decides.{nat_tests}
use Rattle.std.proofs.lemmas.List.{append-nil, append_assoc, get_or_default, length-take-le, map_more, take_more}
use Rattle.std.proofs.lemmas.List.Elements.{All-from_recursion, filter_map-append}
use Rattle.std.proofs.lemmas.List.Sums.{sum_by-cons, sum_by-append}
use Rattle.std.proofs.lemmas.List.Sorted.{All-permutation, sum_by-IsPermutation}
use Rattle.group_file.specs.Catalogues.{GroupData, IsGood, all_ids, times}
use Rattle.group_file.proofs.Twice.{times_same, times_other}
use Rattle.merger_links.specs.declared.owners.Owner.{Owner}
use Rattle.merger_links.specs.Links.{has}
use Rattle.merger_links.specs.Owners.{AreOwners, HasNone, IsBetween, IsBound, all_owned, owned, owner_in}
use Rattle.merger_links.specs.Ties.{no_group}

no_true : {A : Type 0} → false ≡ true → A
no_true e = absurd (by e)
  where
    by : false ≡ true → ⊥
    by e = cc

none_some : {X : Type 0} {A : Type 0} {x : X} → None ≡ Some x → A
none_some {X} {A} {x} e = absurd (by e)
  where
    by : {X : Type 0} {x : X} → None ≡ Some x → ⊥
    by e = cc

-- ---- an id among ids

pub times_has : (id : ℕ) (ids : List ℕ) → has ids id ≡ true → 1 ≤ times id ids
times_has id [] h = no_true h
times_has id (x ∷ ids) h = elim (cases_eq x id) as (λ _. 1 ≤ times id (x ∷ ids)) [
  | inl e ↦ omega (arith, times_same id x ids e)
  | inr n ↦ (let test : (x == id) ≡ false = grind (arith, nat_tests) in omega (arith, times_other id x ids n, times_has id ids (sym (ap (λ b. b || has ids id) test) ∙ h)))
]

pub has_false : (id : ℕ) (ids : List ℕ) → times id ids ≡ 0 → has ids id ≡ false
has_false id ids h = by (has ids id) refl
  where
    by : (b : Bool) → has ids id ≡ b → b ≡ false
    by true e = absurd (omega (arith, h, times_has id ids e))
    by false e = refl

pub has_times : (id : ℕ) (ids : List ℕ) → 1 ≤ times id ids → has ids id ≡ true
has_times id [] h = absurd (omega (arith, h))
has_times id (x ∷ ids) h = elim (cases_eq x id) as (λ _. has (x ∷ ids) id ≡ true) [
  | inl e ↦ (let test : (x == id) ≡ true = grind (arith, nat_tests) in ap (λ b. b || has ids id) test)
  | inr n ↦ (let test : (x == id) ≡ false = grind (arith, nat_tests) in ap (λ b. b || has ids id) test ∙ has_times id ids (omega (arith, h, times_other id x ids n)))
]

-- ---- no id in two groups

abbrev pub AreApart : List GroupData → Type 0
AreApart C = (id : ℕ) → times id (all_ids C) ≤ 1

times_all : (id : ℕ) (g : GroupData) (C : List GroupData) → times id (all_ids (g ∷ C)) ≡ times id g.ids + times id (all_ids C)
times_all id g C = sum_by-append (λ i. cond (i == id) 1 0) g.ids (all_ids C)

apart_rest : (g : GroupData) (C : List GroupData) → AreApart (g ∷ C) → AreApart C
apart_rest g C a id = omega (arith, a id, times_all id g C)

times_in : (id j : ℕ) (C : List GroupData) → j < length C → times id (get_or C j no_group).ids ≤ times id (all_ids C)
times_in id j [] l = absurd (omega (arith, l))
times_in id zero (g ∷ C) l = omega (arith, times_all id g C)
times_in id (suc j) (g ∷ C) l = omega (arith, times_all id g C, times_in id j C (omega (arith, l)))

owner_times : (C : List GroupData) (id k : ℕ) → owner_in C id ≡ Some k → 1 ≤ times id (all_ids C)
owner_times [] id k e = none_some e
owner_times (g ∷ C) id k e = by (λ j f. owner_times C id j f) (has g.ids id) refl (owner_in C id) refl
  where
    by : ((j : ℕ) → owner_in C id ≡ Some j → 1 ≤ times id (all_ids C)) → (b : Bool) → has g.ids id ≡ b → (o : Option ℕ) → owner_in C id ≡ o → 1 ≤ times id (all_ids (g ∷ C))
    by r true t o f = omega (arith, times_all id g C, times_has id g.ids t)
    by r false t None f = none_some (ap (option_map (λ n. suc n)) (sym f) ∙ sym (cond-false (has g.ids id) (Some 0) (option_map (λ n. suc n) (owner_in C id)) t) ∙ e)
    by r false t (Some j) f = omega (arith, times_all id g C, r j f)

pub owner_within : (C : List GroupData) (id k : ℕ) → owner_in C id ≡ Some k → k < length C
owner_within [] id k e = none_some e
owner_within (g ∷ C) id k e = by (λ j f. owner_within C id j f) (has g.ids id) refl (owner_in C id) refl
  where
    some_same : {x y : ℕ} → Some x ≡ Some y → x ≡ y
    some_same e = cc

    by : ((j : ℕ) → owner_in C id ≡ Some j → j < length C) → (b : Bool) → has g.ids id ≡ b → (o : Option ℕ) → owner_in C id ≡ o → k < length (g ∷ C)
    by r true t o f = let zero_is : 0 ≡ k = some_same (sym (cond-true (has g.ids id) (Some 0) (option_map (λ n. suc n) (owner_in C id)) t) ∙ e) in omega (arith, zero_is)
    by r false t None f = none_some (ap (option_map (λ n. suc n)) (sym f) ∙ sym (cond-false (has g.ids id) (Some 0) (option_map (λ n. suc n) (owner_in C id)) t) ∙ e)
    by r false t (Some j) f =
        let is : suc j ≡ k = some_same (ap (option_map (λ n. suc n)) (sym f) ∙ sym (cond-false (has g.ids id) (Some 0) (option_map (λ n. suc n) (owner_in C id)) t) ∙ e) in
        omega (arith, is, r j f)

-- ---- which group has an id

-- the place is that of the owner
abbrev pub owns : Option ℕ → ℕ → Bool
owns None j = false
owns (Some k) j = k == j

owns_first : (o : Option ℕ) → owns (option_map (λ n. suc n) o) 0 ≡ false
owns_first None = refl
owns_first (Some k) = grind (arith, nat_tests)

sucs : (j k : ℕ) → (suc j == suc k) ≡ (j == k)
sucs j k = elim (cases_eq j k) as (λ _. (suc j == suc k) ≡ (j == k)) [
  | inl e ↦ (let a : (suc j == suc k) ≡ true = grind (arith, nat_tests) in let b : (j == k) ≡ true = grind (arith, nat_tests) in a ∙ sym b)
  | inr n ↦ (let a : (suc j == suc k) ≡ false = grind (arith, nat_tests) in let b : (j == k) ≡ false = grind (arith, nat_tests) in a ∙ sym b)
]

owns_next : (o : Option ℕ) (j : ℕ) → owns (option_map (λ n. suc n) o) (suc j) ≡ owns o j
owns_next None j = refl
owns_next (Some k) j = sucs k j

owner_has : (g : GroupData) (C : List GroupData) (id j : ℕ) (b : Bool) → has g.ids id ≡ b → owns (owner_in (g ∷ C) id) j ≡ owns (cond b (Some 0) (option_map (λ n. suc n) (owner_in C id))) j
owner_has g C id j b e = ap (λ b. owns (cond b (Some 0) (option_map (λ n. suc n) (owner_in C id))) j) e

pub has_owner : (C : List GroupData) (id j : ℕ) → AreApart C → j < length C → has (get_or C j no_group).ids id ≡ owns (owner_in C id) j
has_owner [] id j a l = absurd (omega (arith, l))
has_owner (g ∷ C) id zero a l = by (has g.ids id) refl
  where
    by : (b : Bool) → has g.ids id ≡ b → b ≡ owns (owner_in (g ∷ C) id) 0
    by true t = sym (owner_has g C id 0 true t)
    by false t = sym (owner_has g C id 0 false t ∙ owns_first (owner_in C id))
has_owner (g ∷ C) id (suc j) a l = by (has_owner C id j (apart_rest g C a) (omega (arith, l))) (has g.ids id) refl
  where
    by : has (get_or C j no_group).ids id ≡ owns (owner_in C id) j → (b : Bool) → has g.ids id ≡ b → has (get_or C j no_group).ids id ≡ owns (owner_in (g ∷ C) id) (suc j)
    by r true t =
        let none : times id (get_or C j no_group).ids ≡ 0 = omega (arith, a id, times_all id g C, times_has id g.ids t, times_in id j C (omega (arith, l))) in
        let other : (0 == suc j) ≡ false = grind (arith, nat_tests) in
        has_false id (get_or C j no_group).ids none ∙ sym other ∙ sym (owner_has g C id (suc j) true t)
    by r false t = r ∙ sym (owner_has g C id (suc j) false t ∙ owns_next (owner_in C id) j)

owns_past : (C : List GroupData) (id j : ℕ) (o : Option ℕ) → owner_in C id ≡ o → length C ≤ j → owns o j ≡ false
owns_past C id j None e l = refl
owns_past C id j (Some k) e l = let within : k < length C = owner_within C id k e in let other : k ≢ j = (λ s. omega (arith, s, within, l)) in grind (arith, nat_tests)

-- ---- how many ids two groups share

times_option : (j : ℕ) (o : Option ℕ) (xs : List ℕ) → times j (cons_option o xs) ≡ cond (owns o j) 1 0 + times j xs
times_option j None xs = omega arith
times_option j (Some k) xs = sum_by-cons (λ i. cond (i == j) 1 0) k xs

pub times_found : (C : List GroupData) (j : ℕ) (ids : List ℕ) → AreApart C → j < length C → times j (filter_map (owner_in C) ids) ≡ count_by (has (get_or C j no_group).ids) ids
times_found C j [] a l = refl
times_found C j (id ∷ ids) a l =
    times_option j (owner_in C id) (filter_map (owner_in C) ids) ∙ ap (λ b. cond b 1 0 + times j (filter_map (owner_in C) ids)) (sym (has_owner C id j a l))
    ∙ ap (λ n. cond (has (get_or C j no_group).ids id) 1 0 + n) (times_found C j ids a l) ∙ sym (sum_by-cons (λ i. cond (has (get_or C j no_group).ids i) 1 0) id ids)

pub times_past : (C : List GroupData) (j : ℕ) (ids : List ℕ) → length C ≤ j → times j (filter_map (owner_in C) ids) ≡ 0
times_past C j [] l = refl
times_past C j (id ∷ ids) l =
    let none : cond (owns (owner_in C id) j) 1 0 ≡ 0 = ap {B = ℕ} (λ b. cond b 1 0) (owns_past C id j (owner_in C id) refl l) in
    omega (arith, times_option j (owner_in C id) (filter_map (owner_in C) ids), none, times_past C j ids l)

-- ---- entries

-- an entry is that of the owner of its id, among groups from a place on
record IsEntry (n : ℕ) (C : List GroupData) (o : Owner) : Type 0 where
  place : ℕ
  at : o.group ≡ n + place
  is : owner_in C o.id ≡ Some place

all_join : {X : Type 0} (P : X → Type 0) (xs ys : List X) → AllByRecursion P xs → AllByRecursion P ys → AllByRecursion P (xs ++ ys)
all_join P [] ys a b = b
all_join P (x ∷ xs) ys a b = (a.0, all_join P xs ys a.1 b)

all_each : {X : Type 0} (P Q : X → Type 0) → ((x : X) → P x → Q x) → (xs : List X) → AllByRecursion P xs → AllByRecursion Q xs
all_each P Q f [] a = a
all_each P Q f (x ∷ xs) a = (f x a.0, all_each P Q f xs a.1)

entries_here : (n : ℕ) (g : GroupData) (C : List GroupData) (ids : List ℕ) → ((id : ℕ) → 1 ≤ times id ids → has g.ids id ≡ true) → AllByRecursion (IsEntry n (g ∷ C)) (owned n ids)
entries_here n g C [] f = tt
entries_here n g C (id ∷ ids) f = (
  record { place = 0; at = omega arith; is = cond-true (has g.ids id) (Some 0) (option_map (λ n. suc n) (owner_in C id)) (f id (omega (arith, times_same id id ids refl))) },
  entries_here n g C ids (λ i h. f i (more i h)),
)
  where
    more : (i : ℕ) → 1 ≤ times i ids → 1 ≤ times i (id ∷ ids)
    more i h = elim (cases_eq id i) as (λ _. 1 ≤ times i (id ∷ ids)) [ inl e ↦ omega (arith, times_same i id ids e) | inr m ↦ omega (arith, h, times_other i id ids m) ]

entry_later : (n : ℕ) (g : GroupData) (C : List GroupData) → AreApart (g ∷ C) → (o : Owner) → IsEntry (n + 1) C o → IsEntry n (g ∷ C) o
entry_later n g C a o e =
    let not_here : has g.ids o.id ≡ false = has_false o.id g.ids (omega (arith, a o.id, times_all o.id g C, owner_times C o.id e.place e.is)) in
    record {
      place = suc e.place;
      at = omega (arith, e.at);
      is = cond-false (has g.ids o.id) (Some 0) (option_map (λ n. suc n) (owner_in C o.id)) not_here ∙ ap (option_map (λ n. suc n)) e.is;
    }

are_entries : (n : ℕ) (C : List GroupData) → AreApart C → AllByRecursion (IsEntry n C) (all_owned n C)
are_entries n [] a = tt
are_entries n (g ∷ C) a =
    all_join (IsEntry n (g ∷ C)) (owned n g.ids) (all_owned (n + 1) C) (entries_here n g C g.ids (λ id h. has_times id g.ids h))
    (all_each (IsEntry (n + 1) C) (IsEntry n (g ∷ C)) (entry_later n g C a) (all_owned (n + 1) C) (are_entries (n + 1) C (apart_rest g C a)))

count_owned : (id n : ℕ) (ids : List ℕ) → count_by (λ (o : Owner). o.id == id) (owned n ids) ≡ times id ids
count_owned id n [] = refl
count_owned id n (x ∷ ids) =
    sum_by-cons (λ (o : Owner). cond (o.id == id) 1 0) (record { id = x; group = n }) (owned n ids) ∙ ap (λ m. cond (x == id) 1 0 + m) (count_owned id n ids) ∙ sym (sum_by-cons (λ i. cond (i == id) 1 0) x ids)

count_all : (id n : ℕ) (C : List GroupData) → count_by (λ (o : Owner). o.id == id) (all_owned n C) ≡ times id (all_ids C)
count_all id n [] = refl
count_all id n (g ∷ C) = omega (arith, sum_by-append (λ (o : Owner). cond (o.id == id) 1 0) (owned n g.ids) (all_owned (n + 1) C), count_owned id n g.ids, count_all id (n + 1) C, times_all id g C)

none_counted : (owners : List Owner) (id : ℕ) → HasNone owners id → count_by (λ (o : Owner). o.id == id) owners ≡ 0
none_counted [] id h = refl
none_counted (o ∷ owners) id h =
    let other : o.id ≢ id = h 0 o (omega arith) in
    let test : (o.id == id) ≡ false = grind (arith, nat_tests) in
    let none : cond (o.id == id) 1 0 ≡ 0 = ap {B = ℕ} (λ b. cond b 1 0) test in
    omega (arith, sum_by-cons (λ (o : Owner). cond (o.id == id) 1 0) o owners, none, none_counted owners id (λ k d l. h (suc k) d (omega (arith, l))))

pub owner_is : (C : List GroupData) (owners : List Owner) (id : ℕ) (r : Option ℕ) → IsGood C → AreOwners C owners → IfNone r (HasNone owners id) → IfSome r (λ g. Contains owners (record { id = id; group = g })) → r ≡ owner_in C id
owner_is C owners id None good o n s = by (owner_in C id) refl
  where
    by : (p : Option ℕ) → owner_in C id ≡ p → None ≡ p
    by None e = refl
    by (Some k) e = absurd (omega (arith, owner_times C id k e, count_all id 0 C, sum_by-IsPermutation (λ (o : Owner). cond (o.id == id) 1 0) (all_owned 0 C) owners o.permuted, none_counted owners id n))
owner_is C owners id (Some g) good o n s =
    let entry : Owner = record { id = id; group = g } in
    let all : All (IsEntry 0 C) owners = All-permutation (IsEntry 0 C) (all_owned 0 C) owners o.permuted (All-from_recursion (IsEntry 0 C) (all_owned 0 C) (are_entries 0 C good.apart)) in
    let e : IsEntry 0 C entry = subst (IsEntry 0 C) s.2 (all s.0 entry s.1) in
    let same : g ≡ e.place = omega (arith, e.at) in
    ap (λ n. Some n) same ∙ sym e.is

-- ---- the search

pub none_before : (owners : List Owner) (id at : ℕ) → IsBound owners id at → length owners ≤ at → HasNone owners id
none_before owners id at b h k d l e = omega (arith, b.low k d (omega (arith, l, h)), e)

pub none_at : (owners : List Owner) (id at : ℕ) (d : Owner) → IsNonDecreasingBy (λ o. o.id) owners → IsBound owners id at → at < length owners → (get_or owners at d).id ≢ id → HasNone owners id
none_at owners id at d up b l n k e m same = elim (cases_lt k at) as (λ _. ⊥) [
  | inl lower ↦ omega (arith, b.low k e lower, same)
  | inr upper ↦ (
      let here : (get_or owners at e).id ≢ id = λ q. n (ap (λ (o : Owner). o.id) (get_or_default owners at d e l) ∙ q) in
      let high : id ≤ (get_or owners at e).id = b.high at e (omega arith) l in
      let far : (get_or owners at e).id ≤ (get_or owners k e).id = up at k e upper m in
      here (omega (arith, high, far, same)))
]

pub entry_at : (owners : List Owner) (id at g : ℕ) (d : Owner) → at < length owners → (get_or owners at d).id ≡ id → (get_or owners at d).group ≡ g → Contains owners (record { id = id; group = g })
entry_at owners id at g d l e f = (at, l, get_or_default owners at _ d l ∙ (λ i. record { id = e i; group = f i }))

-- ---- the loops

pub owned_more : (place : ℕ) (ids : List ℕ) (i : ℕ) (d : ℕ) → i < length ids → owned place (take (i + 1) ids) ≡ owned place (take i ids) ++ record { id = get_or ids i d; group = place } ∷ []
owned_more place ids i d l = map_more (λ id. record { id = id; group = place }) ids i d l

all_owned_push : (n : ℕ) (C : List GroupData) (g : GroupData) → all_owned n (C ++ g ∷ []) ≡ all_owned n C ++ owned (n + length C) g.ids
all_owned_push n [] g = append-nil (owned n g.ids) ∙ (let same : n ≡ n + 0 = omega arith in ap (λ m. owned m g.ids) same)
all_owned_push n (h ∷ C) g =
    let same : n + 1 + length C ≡ n + length (h ∷ C) = omega arith in
    ap (λ xs. owned n h.ids ++ xs) (all_owned_push (n + 1) C g ∙ ap (λ m. all_owned (n + 1) C ++ owned m g.ids) same) ∙ sym (append_assoc (owned n h.ids) (all_owned (n + 1) C) (owned (n + length (h ∷ C)) g.ids))

pub owned_next : (C : List GroupData) (i : ℕ) (g : GroupData) (owners more : List Owner) → i < length C → get_or C i g ≡ g → owners ≡ all_owned 0 (take i C) → more ≡ owners ++ owned i g.ids → more ≡ all_owned 0 (take (i + 1) C)
owned_next C i g owners more l e o m =
    let len : length (take i C) ≡ i = length-take-le i C (omega (arith, l)) in
    let long : 0 + length (take i C) ≡ i = omega (arith, len) in
    m ∙ ap (λ xs. xs ++ owned i g.ids) o ∙ ap (λ n. all_owned 0 (take i C) ++ owned n g.ids) (sym long) ∙ sym (all_owned_push 0 (take i C) g)
    ∙ ap (λ x. all_owned 0 (take i C ++ x ∷ [])) (sym e) ∙ ap (all_owned 0) (sym (take_more C i g l))

pub found_more : (D : List GroupData) (ids : List ℕ) (i d : ℕ) (o : Option ℕ) (old found : List ℕ) → i < length ids → o ≡ owner_in D (get_or ids i d) → found ≡ old ++ filter_map (owner_in D) (take i ids) → found ++ cons_option o [] ≡ old ++ filter_map (owner_in D) (take (i + 1) ids)
found_more D ids i d o old found l e f =
    ap (λ xs. xs ++ cons_option o []) f ∙ append_assoc old (filter_map (owner_in D) (take i ids)) (cons_option o [])
    ∙ ap (λ p. old ++ (filter_map (owner_in D) (take i ids) ++ cons_option p [])) e
    ∙ ap (λ xs. old ++ xs) (sym (filter_map-append (owner_in D) (take i ids) (get_or ids i d ∷ [])) ∙ ap (filter_map (owner_in D)) (sym (take_more ids i d l)))

pub low_more : (owners : List Owner) (id middle : ℕ) (d : Owner) → IsNonDecreasingBy (λ o. o.id) owners → middle < length owners → (get_or owners middle d).id < id → (k : ℕ) (e : Owner) → k < middle + 1 → (get_or owners k e).id < id
low_more owners id middle d up l h k e m = omega (arith, up k middle e (omega (arith, m)) l, h, ap (λ (o : Owner). o.id) (get_or_default owners middle d e l))

pub high_more : (owners : List Owner) (id middle : ℕ) (d : Owner) → IsNonDecreasingBy (λ o. o.id) owners → middle < length owners → id ≤ (get_or owners middle d).id → (k : ℕ) (e : Owner) → middle ≤ k → k < length owners → id ≤ (get_or owners k e).id
high_more owners id middle d up l h k e m n = omega (arith, up middle k e m n, h, ap (λ (o : Owner). o.id) (get_or_default owners middle d e l))

pub between_all : (owners : List Owner) (id high : ℕ) → high ≡ length owners → IsBetween owners id 0 high
between_all owners id high e = record { order = omega arith; within = omega (arith, e); below = λ k d l. absurd (omega (arith, l)); above = λ k d l m. absurd (omega (arith, l, m, e)) }

pub upper_half : (owners : List Owner) (id low high middle : ℕ) (d : Owner) → IsNonDecreasingBy (λ o. o.id) owners → IsBetween owners id low high → middle < high → (get_or owners middle d).id < id → IsBetween owners id (middle + 1) high
upper_half owners id low high middle d up b l h = record { order = omega (arith, l); within = b.within; below = low_more owners id middle d up (omega (arith, l, b.within)) h; above = b.above }

pub lower_half : (owners : List Owner) (id low high middle : ℕ) (d : Owner) → IsNonDecreasingBy (λ o. o.id) owners → IsBetween owners id low high → low ≤ middle → middle < high → id ≤ (get_or owners middle d).id → IsBetween owners id low middle
lower_half owners id low high middle d up b m l h = record { order = m; within = omega (arith, l, b.within); below = b.below; above = high_more owners id middle d up (omega (arith, l, b.within)) h }

pub bound_is : (owners : List Owner) (id low high : ℕ) → IsBetween owners id low high → high ≤ low → IsBound owners id low
bound_is owners id low high b h = record { within = omega (arith, b.order, b.within); low = b.below; high = λ k d l m. b.above k d (omega (arith, l, h)) m }

pub found_next : (D : List GroupData) (ids : List ℕ) (i d : ℕ) (old found more : List ℕ) → i < length ids → found ≡ old ++ filter_map (owner_in D) (take i ids) → more ≡ found ++ cons_option (owner_in D (get_or ids i d)) [] → more ≡ old ++ filter_map (owner_in D) (take (i + 1) ids)
found_next D ids i d old found more l f m = m ∙ found_more D ids i d (owner_in D (get_or ids i d)) old found l refl f
