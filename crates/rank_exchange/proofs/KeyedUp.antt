-- Vectors with keys that are added up one by one.
use Rattle.std.proofs.Common.{◌≡◌, ℕ, ◌+◌, ◌^◌, ◌<◌, ◌≤◌, Bool, true, false, cond, eqb, ◌||◌, List, [], ◌∷◌, ◌++◌, sum_by, take, drop, get_or, length, refl, ap, ◌∙◌, sym, subst, arith, inl, inr}
use Rattle.std.specs.List.{filter, list_any, AllByRecursion}
use Rattle.std.specs.List.Sorted.{IsPermutation}
use Rattle.std.proofs.lemmas.Bool.{cond-true, cond-false}
use Rattle.std.proofs.lemmas.List.{map_push, take_more, take-append-drop, get_or-take, get_or_read, length-take}
use Rattle.std.proofs.lemmas.List.Elements.{filter-append, recursion_from_All}
use Rattle.std.proofs.lemmas.List.Sorted.{IsPermutation-map, IsPermutation-sym, sum_by-IsPermutation, list_any-IsPermutation}
use Rattle.std.proofs.lemmas.List.Sums.{sum_by-append, sum_by-cons}
use Rattle.fixed_point.specs.Vectors.{FitsEach, plus, sum_of}
use Rattle.fixed_point.proofs.VectorLemmas.{FitsEach-from_bound}
use Rattle.model_laws.proofs.Among.{Among, Witness, any-append, any-witness, each-among, each-append}
use Rattle.model_laws.proofs.Walk.{filter_sum}
use Rattle.rank_laws.proofs.KeptOnce.{number-exact}
use Rattle.rank_exchange.specs.declared.keyed.Keyed.{Keyed}
use Rattle.rank_exchange.specs.Sums.{extent}
use Rattle.rank_exchange.specs.Keyed.{keys_in, has_key, sum_at, extent_at, Climbs, AreSums, IsAdded, IsLight, IsRising, joined}
use Rattle.rank_exchange.proofs.AddedUp.{append_none, plus_assoc, extent_plus, sum_of-snoc, or_false}
use Rattle.rank_exchange.proofs.Totals.{sum_of-permuted}

-- ---- one vector more

pub sum_at-snoc : (k : ℕ) (es : List Keyed) (e : Keyed) → sum_at k (es ++ e ∷ []) ≡ cond (eqb k e.key) (plus (sum_at k es) e.sum) (sum_at k es)
sum_at-snoc k es e = ap (sum_of (λ (e : Keyed). e.sum)) (filter-append (λ (e : Keyed). eqb k e.key) es (e ∷ [])) ∙ by (eqb k e.key)
  where
    by : (b : Bool) → sum_of (λ (e : Keyed). e.sum) (filter (λ (e : Keyed). eqb k e.key) es ++ cond b (e ∷ []) []) ≡ cond b (plus (sum_at k es) e.sum) (sum_at k es)
    by true = sum_of-snoc (λ (e : Keyed). e.sum) (filter (λ (e : Keyed). eqb k e.key) es) e
    by false = ap (sum_of (λ (e : Keyed). e.sum)) (append_none (filter (λ (e : Keyed). eqb k e.key) es))

pub extent_at-snoc : (k : ℕ) (es : List Keyed) (e : Keyed) → extent_at k (es ++ e ∷ []) ≡ extent_at k es + cond (eqb k e.key) (extent e.sum) 0
extent_at-snoc k es e = ap (sum_by (λ (e : Keyed). extent e.sum)) (filter-append (λ (e : Keyed). eqb k e.key) es (e ∷ [])) ∙ sum_by-append (λ (e : Keyed). extent e.sum) (filter (λ (e : Keyed). eqb k e.key) es) (filter (λ (e : Keyed). eqb k e.key) (e ∷ [])) ∙ ap (λ t. extent_at k es + t) (by (eqb k e.key))
  where
    by : (b : Bool) → sum_by (λ (e : Keyed). extent e.sum) (cond b (e ∷ []) []) ≡ cond b (extent e.sum) 0
    by true = omega (arith, sum_by-cons (λ (e : Keyed). extent e.sum) e [])
    by false = refl

keys_in-snoc : (es : List Keyed) (e : Keyed) → keys_in (es ++ e ∷ []) ≡ keys_in es ++ e.key ∷ []
keys_in-snoc es e = map_push (λ (e : Keyed). e.key) es e

has_key-snoc : (k : ℕ) (es : List Keyed) (e : Keyed) → has_key k (es ++ e ∷ []) ≡ (has_key k es || eqb k e.key)
has_key-snoc k es e = ap (list_any (λ j. eqb k j)) (keys_in-snoc es e) ∙ any-append (λ j. eqb k j) (keys_in es) (e.key ∷ []) ∙ ap (λ t. has_key k es || t) (or_false (eqb k e.key))

or_true : (a b : Bool) → b ≡ true → (a || b) ≡ true
or_true true b u = refl
or_true false b u = u

-- ---- a vector of the key that stood last

pub add_same : (es out : List Keyed) (l e : Keyed) → l.key ≡ e.key → IsAdded es (out ++ l ∷ []) → IsAdded (es ++ e ∷ []) (out ++ joined l e ∷ [])
add_same es out l e k h = record {
  are = record {
    climbs = subst Climbs same h.are.climbs;
    keys = λ c. ap (list_any (λ j. eqb c j)) (sym same) ∙ h.are.keys c ∙ again c ∙ sym (has_key-snoc c es e);
    sums = λ c. sum_at-snoc c out (joined l e) ∙ sums c (eqb c l.key) refl ∙ sym (sum_at-snoc c es e);
  };
  light = λ c. light c (eqb c l.key) refl;
}
  where
    same : keys_in (out ++ l ∷ []) ≡ keys_in (out ++ joined l e ∷ [])
    same = keys_in-snoc out l ∙ sym (keys_in-snoc out (joined l e))

    there : (c : ℕ) → eqb c l.key ≡ true → has_key c es ≡ true
    there c u = sym (h.are.keys c) ∙ has_key-snoc c out l ∙ or_true (has_key c out) (eqb c l.key) u

    again : (c : ℕ) → has_key c es ≡ (has_key c es || eqb c e.key)
    again c = by (eqb c l.key) refl
      where
        by : (b : Bool) → eqb c l.key ≡ b → has_key c es ≡ (has_key c es || eqb c e.key)
        by true u = there c u ∙ ap (λ t. t || eqb c e.key) (sym (there c u))
        by false u = sym (ap (λ t. has_key c es || eqb c t) (sym k) ∙ ap (λ t. has_key c es || t) u ∙ or_false (has_key c es))

    sums : (c : ℕ) (b : Bool) → eqb c l.key ≡ b → cond (eqb c l.key) (plus (sum_at c out) (plus l.sum e.sum)) (sum_at c out) ≡ cond (eqb c e.key) (plus (sum_at c es) e.sum) (sum_at c es)
    sums c true u =
        let v : eqb c e.key ≡ true = ap (eqb c) (sym k) ∙ u in
        let f : plus (sum_at c out) l.sum ≡ sum_at c es = sym (cond-true (eqb c l.key) (plus (sum_at c out) l.sum) (sum_at c out) u) ∙ sym (sum_at-snoc c out l) ∙ h.are.sums c in
        cond-true (eqb c l.key) (plus (sum_at c out) (plus l.sum e.sum)) (sum_at c out) u ∙ plus_assoc (sum_at c out) l.sum e.sum ∙ ap (λ t. plus t e.sum) f ∙ sym (cond-true (eqb c e.key) (plus (sum_at c es) e.sum) (sum_at c es) v)
    sums c false u =
        let v : eqb c e.key ≡ false = ap (eqb c) (sym k) ∙ u in
        let f : sum_at c out ≡ sum_at c es = sym (cond-false (eqb c l.key) (plus (sum_at c out) l.sum) (sum_at c out) u) ∙ sym (sum_at-snoc c out l) ∙ h.are.sums c in
        cond-false (eqb c l.key) (plus (sum_at c out) (plus l.sum e.sum)) (sum_at c out) u ∙ f ∙ sym (cond-false (eqb c e.key) (plus (sum_at c es) e.sum) (sum_at c es) v)

    light : (c : ℕ) (b : Bool) → eqb c l.key ≡ b → extent_at c (out ++ joined l e ∷ []) ≤ extent_at c (es ++ e ∷ [])
    light c true u =
        let v : eqb c e.key ≡ true = ap (eqb c) (sym k) ∙ u in
        omega (arith, extent_at-snoc c out (joined l e), extent_at-snoc c out l, extent_at-snoc c es e, h.light c, extent_plus l.sum e.sum, cond-true {A = ℕ} (eqb c l.key) (extent (plus l.sum e.sum)) 0 u, cond-true {A = ℕ} (eqb c l.key) (extent l.sum) 0 u, cond-true {A = ℕ} (eqb c e.key) (extent e.sum) 0 v)
    light c false u =
        let v : eqb c e.key ≡ false = ap (eqb c) (sym k) ∙ u in
        omega (arith, extent_at-snoc c out (joined l e), extent_at-snoc c out l, extent_at-snoc c es e, h.light c, cond-false {A = ℕ} (eqb c l.key) (extent (plus l.sum e.sum)) 0 u, cond-false {A = ℕ} (eqb c l.key) (extent l.sum) 0 u, cond-false {A = ℕ} (eqb c e.key) (extent e.sum) 0 v)

-- what stood last and one more of its key fit
pub last_light : (es out : List Keyed) (l e : Keyed) → l.key ≡ e.key → IsAdded es (out ++ l ∷ []) → extent_at e.key (es ++ e ∷ []) ≤ 2 ^ 126 → FitsEach (plus l.sum e.sum)
last_light es out l e k h m =
    let u : eqb e.key l.key ≡ true = (number-exact e.key l.key).1 (sym k) in
    let v : eqb e.key e.key ≡ true = (number-exact e.key e.key).1 refl in
    let g : extent (plus l.sum e.sum) ≤ 2 ^ 126 = omega (arith, m, extent_plus l.sum e.sum, extent_at-snoc e.key out l, extent_at-snoc e.key es e, h.light e.key, cond-true {A = ℕ} (eqb e.key l.key) (extent l.sum) 0 u, cond-true {A = ℕ} (eqb e.key e.key) (extent e.sum) 0 v) in
    FitsEach-from_bound (2 ^ 126) (plus l.sum e.sum) (omega arith) (record { on_x = omega (arith, g); on_y = omega (arith, g); on_z = omega (arith, g) })

-- ---- a vector of a key that comes behind

climbs_behind : (ks : List ℕ) (j : ℕ) → Climbs ks → AllByRecursion (λ k. k < j) ks → Climbs (ks ++ j ∷ [])
climbs_behind [] j u v = (tt, tt)
climbs_behind (k ∷ ks) j u v = (each-append (λ x. k < x) ks (j ∷ []) u.0 (v.0, tt), climbs_behind ks j u.1 v.1)

last_among : (l : ℕ) (xs : List ℕ) → Among l (xs ++ l ∷ [])
last_among l [] = inl refl
last_among l (x ∷ xs) = inr (last_among l xs)

all_before : (ks : List ℕ) (l j : ℕ) → Climbs (ks ++ l ∷ []) → l < j → AllByRecursion (λ k. k < j) (ks ++ l ∷ [])
all_before [] l j u v = (v, tt)
all_before (k ∷ ks) l j u v =
    let a : k < l = each-among (λ x. k < x) l (ks ++ l ∷ []) u.0 (last_among l ks) in
    (omega (arith, a, v), all_before ks l j u.1 v)

fresh : (es out : List Keyed) (e : Keyed) → IsAdded es out → AllByRecursion (λ k. k < e.key) (keys_in out) → IsAdded (es ++ e ∷ []) (out ++ e ∷ [])
fresh es out e h v = record {
  are = record {
    climbs = subst Climbs (sym (keys_in-snoc out e)) (climbs_behind (keys_in out) e.key h.are.climbs v);
    keys = λ c. has_key-snoc c out e ∙ ap (λ t. t || eqb c e.key) (h.are.keys c) ∙ sym (has_key-snoc c es e);
    sums = λ c. sum_at-snoc c out e ∙ ap (λ t. cond (eqb c e.key) (plus t e.sum) t) (h.are.sums c) ∙ sym (sum_at-snoc c es e);
  };
  light = λ c. omega (arith, extent_at-snoc c out e, extent_at-snoc c es e, h.light c);
}

none_added : IsAdded [] []
none_added = record { are = record { climbs = tt; keys = λ c. refl; sums = λ c. refl }; light = λ c. omega arith }

pub add_fresh : (es out : List Keyed) (l e : Keyed) → (l.key ≡ e.key → ⊥) → AllByRecursion (λ (f : Keyed). f.key ≤ e.key) es → IsAdded es (out ++ l ∷ []) → IsAdded (es ++ e ∷ []) ((out ++ l ∷ []) ++ e ∷ [])
add_fresh es out l e n next h =
    let w : Witness (λ j. eqb l.key j) (keys_in es) = any-witness (λ j. eqb l.key j) (keys_in es) (sym (h.are.keys l.key) ∙ has_key-snoc l.key out l ∙ or_true (has_key l.key out) (eqb l.key l.key) ((number-exact l.key l.key).1 refl)) in
    let at : l.key ≡ w.it = (number-exact l.key w.it).0 w.passes in
    let le : w.it ≤ e.key = each-among (λ k. k ≤ e.key) w.it (keys_in es) (over es next) w.«in» in
    let less : l.key < e.key = omega (arith, at, le, n) in
    fresh es (out ++ l ∷ []) e h (subst (AllByRecursion (λ k. k < e.key)) (sym (keys_in-snoc out l)) (all_before (keys_in out) l.key e.key (subst Climbs (keys_in-snoc out l) h.are.climbs) less))
  where
    over : (xs : List Keyed) → AllByRecursion (λ (f : Keyed). f.key ≤ e.key) xs → AllByRecursion (λ k. k ≤ e.key) (keys_in xs)
    over [] a = tt
    over (x ∷ xs) a = (a.0, over xs a.1)

-- ---- over a sorted list

pub next_taken : (es : List Keyed) (i : ℕ) (e : Keyed) → i < length es → e ≡ get_or es i e → take i es ++ e ∷ [] ≡ take (i + 1) es
next_taken es i e l k = ap (λ t. take i es ++ t ∷ []) k ∙ sym (take_more es i e l)

extent_part : (c : ℕ) (es : List Keyed) (i : ℕ) → extent_at c (take i es) ≤ extent_at c es
extent_part c es i =
    let e : extent_at c es ≡ extent_at c (take i es) + extent_at c (drop i es) = ap (extent_at c) (sym (take-append-drop i es)) ∙ ap (sum_by (λ (e : Keyed). extent e.sum)) (filter-append (λ (e : Keyed). eqb c e.key) (take i es) (drop i es)) ∙ sum_by-append (λ (e : Keyed). extent e.sum) (filter (λ (e : Keyed). eqb c e.key) (take i es)) (filter (λ (e : Keyed). eqb c e.key) (drop i es)) in
    omega (arith, e)

pub next_at : (es : List Keyed) (i : ℕ) (e : Keyed) → IsRising es → i < length es → e ≡ get_or es i e → AllByRecursion (λ (f : Keyed). f.key ≤ e.key) (take i es)
next_at es i e h l k = recursion_from_All (λ (f : Keyed). f.key ≤ e.key) (take i es) (λ j d m.
    let n : j < i = omega (arith, m, l, length-take i es) in
    let u : (get_or es j d).key ≤ (get_or es i d).key = h j i d (omega (arith, n)) l in
    let v : e ≡ get_or es i d = get_or_read es i e l k d in
    let x : (get_or (take i es) j d).key ≡ (get_or es j d).key = ap (λ (t : Keyed). t.key) (get_or-take i es j d n) in
    let y : e.key ≡ (get_or es i d).key = ap (λ (t : Keyed). t.key) v in
    omega (arith, u, x, y))

pub first_next : (es : List Keyed) (e : Keyed) → 0 < length es → e ≡ get_or es 0 e → IsAdded (take 1 es) ([] ++ e ∷ [])
first_next es e l k = subst (λ t. IsAdded t (e ∷ [])) (next_taken es 0 e l k) (fresh [] [] e none_added tt)

pub next_light : (es : List Keyed) (i : ℕ) (e : Keyed) → IsLight es → i < length es → e ≡ get_or es i e → extent_at e.key (take i es ++ e ∷ []) ≤ 2 ^ 126
next_light es i e h l k = omega (arith, h e.key, extent_part e.key es (i + 1), ap (extent_at e.key) (next_taken es i e l k))

pub light_sorted : (es fs : List Keyed) → IsPermutation es fs → IsLight es → IsLight fs
light_sorted es fs p h c = omega (arith, h c, filter_sum (λ (e : Keyed). eqb c e.key) (λ (e : Keyed). extent e.sum) es, filter_sum (λ (e : Keyed). eqb c e.key) (λ (e : Keyed). extent e.sum) fs, sum_by-IsPermutation (λ (e : Keyed). cond (eqb c e.key) (extent e.sum) 0) es fs p)

-- the sums of a list are those of the list in another order
pub sums_permuted : (es fs out : List Keyed) → IsPermutation es fs → IsAdded fs out → AreSums es out
sums_permuted es fs out p h = record {
  climbs = h.are.climbs;
  keys = λ c. h.are.keys c ∙ list_any-IsPermutation (λ j. eqb c j) (keys_in fs) (keys_in es) (IsPermutation-map (λ (e : Keyed). e.key) fs es (IsPermutation-sym es fs p));
  sums = λ c. h.are.sums c ∙ sum_of-permuted (λ (e : Keyed). eqb c e.key) (λ (e : Keyed). e.sum) es fs p;
}
