-- Entries that are sorted and added up are the totals of each cell.
use Rattle.std.proofs.Common.{◌≡◌, ℕ, ◌+◌, ◌^◌, ◌<◌, ◌≤◌, Bool, true, false, cond, ◌||◌, List, [], ◌∷◌, ◌++◌, map, sum_by, length, take, drop, get_or, refl, ap, ◌∙◌, sym, subst, arith, inl, inr, ℤ, pos, negsuc, suc, ◌-ℤ◌}
use Rattle.std.specs.List.{All, filter, AllByRecursion}
use Rattle.std.specs.List.Sorted.{IsPermutation, IsNonDecreasingBy}
use Rattle.std.proofs.lemmas.Bool.{cond-true, cond-false}
use Rattle.std.proofs.lemmas.Int.{ints}
use Rattle.std.proofs.lemmas.List.Sorted.{All-permutation, IsPermutation-map, IsPermutation-sym, sum_by-IsPermutation, list_any-IsPermutation}
use Rattle.std.proofs.lemmas.List.{take_more, take-append-drop, get_or-map, get_or-take, get_or_read, length-map, length-take}
use Rattle.std.proofs.lemmas.List.Elements.{All-from_recursion, recursion_from_All, filter-append}
use Rattle.std.proofs.lemmas.List.Sums.{sum_by-cons, sum_by-append}
use Rattle.fixed_point.specs.declared.V3.{V3}
use Rattle.fixed_point.specs.Vectors.{sum_of}
use Rattle.cell_space.specs.Cells.{CellData, same_cell}
use Rattle.cell_space.proofs.Cells.{same_cell-exact}
use Rattle.hilbert_keys.specs.Curve.{IsCell}
use Rattle.model_laws.proofs.Among.{Among, each-among}
use Rattle.model_laws.proofs.Signed.{total_by, total-filter}
use Rattle.model_laws.proofs.Walk.{filter_sum}
use Rattle.rank_laws.specs.Machine.{is_one}
use Rattle.rank_laws.specs.Whole.{in_order, goes_first, IsInOrder}
use Rattle.rank_laws.specs.Contents.{Summed, sum_at}
use Rattle.rank_laws.proofs.Axes.{on, on_each, on_sum}
use Rattle.rank_laws.proofs.Fairness.{in_order-same, in_order-times}
use Rattle.rank_laws.proofs.Order.{ascends, one_order}
use Rattle.rank_laws.proofs.Machine.{one_among, among_one}
use Rattle.rank_curve_laws.specs.Along.{keys_along}
use Rattle.rank_curve_laws.proofs.Keys.{are_told}
use Rattle.rank_exchange.specs.Sums.{cells_in, extent, extent_at, place_of, ArePlaced, AreInOrder, Climbs, IsAdded, IsLight, IsNext, entries_in, placed, totals_of}
use Rattle.rank_exchange.specs.declared.sums.Placed.{Placed}
use Rattle.rank_exchange.proofs.Places.{place_orders}
use Rattle.rank_exchange.proofs.AddedUp.{add_first, plus_origin}

-- ---- a signed sum over a list in another order

abbrev above : ℤ → ℕ
above (pos n) = n
above (negsuc n) = 0

abbrev beneath : ℤ → ℕ
beneath (pos n) = 0
beneath (negsuc n) = suc n

apart : (z : ℤ) → z ≡ pos (above z) -ℤ pos (beneath z)
apart (pos n) = omega (arith, ints)
apart (negsuc n) = omega (arith, ints)

total_apart : {X : Type 0} (f : X → ℤ) (xs : List X) → total_by f xs ≡ pos (sum_by (λ x. above (f x)) xs) -ℤ pos (sum_by (λ x. beneath (f x)) xs)
total_apart f [] = refl
total_apart f (x ∷ xs) = omega (arith, ints, total_apart f xs, apart (f x), sum_by-cons (λ x. above (f x)) x xs, sum_by-cons (λ x. beneath (f x)) x xs)

pub total-permuted : {X : Type 0} (f : X → ℤ) (xs ys : List X) → IsPermutation xs ys → total_by f ys ≡ total_by f xs
total-permuted f xs ys p = total_apart f ys ∙ ap (λ t. pos t -ℤ pos (sum_by (λ x. beneath (f x)) ys)) (sum_by-IsPermutation (λ x. above (f x)) xs ys p) ∙ ap (λ t. pos (sum_by (λ x. above (f x)) xs) -ℤ pos t) (sum_by-IsPermutation (λ x. beneath (f x)) xs ys p) ∙ sym (total_apart f xs)

-- a sum of vectors over those that pass a test
pub sum_of-permuted : {X : Type 0} (t : X → Bool) (f : X → V3) (xs ys : List X) → IsPermutation xs ys → sum_of f (filter t ys) ≡ sum_of f (filter t xs)
sum_of-permuted t f xs ys p = on_each (sum_of f (filter t ys)) (sum_of f (filter t xs)) (λ a.
    on_sum a f (filter t ys) ∙ total-filter t (λ x. on a (f x)) ys ∙ total-permuted (λ x. cond (t x) (on a (f x)) (pos 0)) xs ys p ∙ sym (total-filter t (λ x. on a (f x)) xs) ∙ sym (on_sum a f (filter t xs)))

pub extent-permuted : (c : CellData) (xs ys : List Summed) → IsPermutation xs ys → extent_at c ys ≡ extent_at c xs
extent-permuted c xs ys p = filter_sum (λ (e : Summed). same_cell c e.cell) (λ (e : Summed). extent e.sum) ys ∙ sum_by-IsPermutation (λ (e : Summed). cond (same_cell c e.cell) (extent e.sum) 0) xs ys p ∙ sym (filter_sum (λ (e : Summed). same_cell c e.cell) (λ (e : Summed). extent e.sum) xs)

-- ---- ascending cells are in order, each once

abbrev often : CellData → List CellData → ℕ
often c cs = sum_by (λ d. cond {A = ℕ} (same_cell c d) 1 0) cs

pub less_than_self : (c d : CellData) → place_of c < place_of d → same_cell c d ≡ false
less_than_self c d h = by (same_cell c d) refl
  where
    by : (b : Bool) → same_cell c d ≡ b → b ≡ false
    by true e = let u : place_of c ≡ place_of d = ap place_of ((same_cell-exact c d).0 e) in absurd (omega (arith, h, u))
    by false e = refl

none_behind : (c : CellData) (cs : List CellData) → AllByRecursion (λ d. place_of c < place_of d) cs → often c cs ≡ 0
none_behind c [] a = refl
none_behind c (d ∷ cs) a = omega (arith, sum_by-cons (λ d. cond {A = ℕ} (same_cell c d) 1 0) d cs, cond-false {A = ℕ} (same_cell c d) 1 0 (less_than_self c d a.0), none_behind c cs a.1)

pub once_each : (c : CellData) (cs : List CellData) → Climbs cs → often c cs ≡ cond (is_one c cs) 1 0
once_each c [] a = refl
once_each c (d ∷ cs) a = by (same_cell c d) refl (once_each c cs a.1)
  where
    by : (b : Bool) → same_cell c d ≡ b → often c cs ≡ cond (is_one c cs) 1 0 → often c (d ∷ cs) ≡ cond (b || is_one c cs) 1 0
    by true e rest =
        let u : often c cs ≡ 0 = ap (λ t. often t cs) ((same_cell-exact c d).0 e) ∙ none_behind d cs a.0 in
        omega (arith, sum_by-cons (λ d. cond {A = ℕ} (same_cell c d) 1 0) d cs, cond-true {A = ℕ} (same_cell c d) 1 0 e, u)
    by false e rest = omega (arith, sum_by-cons (λ d. cond {A = ℕ} (same_cell c d) 1 0) d cs, cond-false {A = ℕ} (same_cell c d) 1 0 e, rest)

in_order_each : (bounds : List ℕ) (cs : List CellData) → AllByRecursion IsCell cs → Climbs cs → IsInOrder (keys_along bounds) cs
in_order_each bounds [] a u = tt
in_order_each bounds (c ∷ cs) a u = (behind cs a.1 u.0, in_order_each bounds cs a.1 u.1)
  where
    behind : (ds : List CellData) → AllByRecursion IsCell ds → AllByRecursion (λ d. place_of c < place_of d) ds → AllByRecursion (λ d. goes_first (keys_along bounds) d c ≡ false) ds
    behind [] x y = tt
    behind (d ∷ ds) x y = (place_orders bounds c d a.0 x.0 y.0, behind ds x.1 y.1)

-- a list of ascending cells that has the cells of another is that list in order
pub climbs_in_order : (bounds : List ℕ) (cs ds : List CellData) → AllByRecursion IsCell cs → Climbs cs → ((c : CellData) → is_one c cs ≡ is_one c ds) → cs ≡ in_order (keys_along bounds) ds
climbs_in_order bounds cs ds a u e = one_order (keys_along bounds) cs (in_order (keys_along bounds) ds) (in_order_each bounds cs a u) (ascends (keys_along bounds) ds)
    (λ c d i j x y. are_told bounds c d (each-among IsCell c cs a i) (each-among IsCell d cs a (one_among d cs (e d ∙ sym (in_order-same (keys_along bounds) d ds) ∙ among_one d (in_order (keys_along bounds) ds) j))) x y)
    (λ c. omega (arith, once_each c cs u, in_order-times (keys_along bounds) c ds, ap {B = ℕ} (λ b. cond b 1 0) (e c)))

-- ---- what stands at each cell

nothing_at : (c : CellData) (es : List Summed) → AllByRecursion (λ d. place_of c < place_of d) (cells_in es) → filter (λ (e : Summed). same_cell c e.cell) es ≡ []
nothing_at c [] a = refl
nothing_at c (e ∷ es) a = ap (λ b. cond b (e ∷ filter (λ (e : Summed). same_cell c e.cell) es) (filter (λ (e : Summed). same_cell c e.cell) es)) (less_than_self c e.cell a.0) ∙ nothing_at c es a.1

pub first_at : (e : Summed) (es : List Summed) → AllByRecursion (λ d. place_of e.cell < place_of d) (cells_in es) → sum_at e.cell (e ∷ es) ≡ e.sum
first_at e es a =
    ap (λ b. sum_of (λ (e : Summed). e.sum) (cond b (e ∷ filter (λ (f : Summed). same_cell e.cell f.cell) es) (filter (λ (f : Summed). same_cell e.cell f.cell) es))) ((same_cell-exact e.cell e.cell).1 refl)
    ∙ ap (λ t. sum_of (λ (e : Summed). e.sum) (e ∷ t)) (nothing_at e.cell es a)
    ∙ plus_origin e.sum

pub behind_at : (e f : Summed) (es : List Summed) → place_of e.cell < place_of f.cell → sum_at f.cell (e ∷ es) ≡ sum_at f.cell es
behind_at e f es h = ap (λ b. sum_of (λ (e : Summed). e.sum) (cond b (e ∷ filter (λ (g : Summed). same_cell f.cell g.cell) es) (filter (λ (g : Summed). same_cell f.cell g.cell) es))) (by (same_cell f.cell e.cell) refl)
  where
    by : (b : Bool) → same_cell f.cell e.cell ≡ b → b ≡ false
    by true u = let v : place_of f.cell ≡ place_of e.cell = ap place_of ((same_cell-exact f.cell e.cell).0 u) in absurd (omega (arith, h, v))
    by false u = refl

-- a list with ascending cells is made of its cells and of what stands at each
pub made_of : (g : CellData → V3) (es : List Summed) → Climbs (cells_in es) → ((f : Summed) → Among f es → sum_at f.cell es ≡ g f.cell) → es ≡ map (λ c. record { cell = c; sum = g c }) (cells_in es)
made_of g [] a e = refl
made_of g (x ∷ es) a e =
    let s : x.sum ≡ g x.cell = sym (first_at x es a.0) ∙ e x (inl refl) in
    let rest : es ≡ map (λ c. record { cell = c; sum = g c }) (cells_in es) = made_of g es a.1 (λ f i. sym (behind_at x f es (each-among (λ d. place_of x.cell < place_of d) f.cell (cells_in es) a.0 (cell_among f es i))) ∙ e f (inr i)) in
    λ i. record { cell = x.cell; sum = s i } ∷ rest i
  where
    cell_among : (f : Summed) (xs : List Summed) → Among f xs → Among f.cell (cells_in xs)
    cell_among f [] h = absurd h
    cell_among f (y ∷ ys) (inl u) = inl (ap (λ (t : Summed). t.cell) u)
    cell_among f (y ∷ ys) (inr u) = inr (cell_among f ys u)

pub added_totals : (bounds : List ℕ) (es fs out : List Summed) → IsPermutation es fs → IsAdded fs out → out ≡ totals_of (keys_along bounds) es
unfolding totals_of
added_totals bounds es fs out p h =
    made_of (λ c. sum_at c es) out h.climbs (λ f i. h.sums f.cell ∙ sum_of-permuted (λ (e : Summed). same_cell f.cell e.cell) (λ (e : Summed). e.sum) es fs p)
    ∙ ap (map (λ c. record { cell = c; sum = sum_at c es })) (climbs_in_order bounds (cells_in out) (cells_in es) h.boxed h.climbs (λ c. h.cells c ∙ list_any-IsPermutation (same_cell c) (cells_in fs) (cells_in es) (IsPermutation-map (λ (e : Summed). e.cell) fs es (IsPermutation-sym es fs p))))

-- ---- sorted entries

pub next_taken : (es : List Summed) (i : ℕ) (e : Summed) → i < length es → e ≡ get_or es i e → take i es ++ e ∷ [] ≡ take (i + 1) es
next_taken es i e l k = ap (λ t. take i es ++ t ∷ []) k ∙ sym (take_more es i e l)

extent_part : (c : CellData) (es : List Summed) (i : ℕ) → extent_at c (take i es) ≤ extent_at c es
extent_part c es i =
    let e : extent_at c es ≡ extent_at c (take i es) + extent_at c (drop i es) = ap (extent_at c) (sym (take-append-drop i es)) ∙ ap (sum_by (λ (e : Summed). extent e.sum)) (filter-append (λ (e : Summed). same_cell c e.cell) (take i es) (drop i es)) ∙ sum_by-append (λ (e : Summed). extent e.sum) (filter (λ (e : Summed). same_cell c e.cell) (take i es)) (filter (λ (e : Summed). same_cell c e.cell) (drop i es)) in
    omega (arith, e)

boxed_at : (es : List Summed) (i : ℕ) (e : Summed) → AllByRecursion IsCell (cells_in es) → i < length es → e ≡ get_or es i e → IsCell e.cell
boxed_at es i e a l k =
    let c : e.cell ≡ get_or (cells_in es) i e.cell = ap (λ (t : Summed). t.cell) k ∙ sym (get_or-map (λ (e : Summed). e.cell) es i e e.cell l) in
    subst IsCell (sym c) (All-from_recursion IsCell (cells_in es) a i e.cell (omega (arith, l, length-map es (λ (e : Summed). e.cell))))

pub next_at : (es : List Summed) (i : ℕ) (e : Summed) → AreInOrder es → i < length es → e ≡ get_or es i e → IsNext (take i es) e
next_at es i e h l k = record {
  behind = recursion_from_All (λ (f : Summed). place_of f.cell ≤ place_of e.cell) (take i es) (λ j d m.
      let n : j < i = omega (arith, m, l, length-take i es) in
      let u : place_of (get_or es j d).cell ≤ place_of (get_or es i d).cell = h.rises j i d (omega (arith, n)) l in
      let v : e ≡ get_or es i d = get_or_read es i e l k d in
      let t : get_or (take i es) j d ≡ get_or es j d = get_or-take i es j d n in
      let x : place_of (get_or (take i es) j d).cell ≡ place_of (get_or es j d).cell = ap (λ (t : Summed). place_of t.cell) t in
      let y : place_of e.cell ≡ place_of (get_or es i d).cell = ap (λ (t : Summed). place_of t.cell) v in
      omega (arith, u, x, y));
  boxed = boxed_at es i e h.boxed l k;
}

pub first_next : (es : List Summed) (e : Summed) → AreInOrder es → 0 < length es → e ≡ get_or es 0 e → IsAdded (take 1 es) ([] ++ e ∷ [])
first_next es e h l k = subst (λ t. IsAdded t (e ∷ [])) (next_taken es 0 e l k) (add_first e (boxed_at es 0 e h.boxed l k))

pub next_light : (es : List Summed) (i : ℕ) (e : Summed) → IsLight es → i < length es → e ≡ get_or es i e → extent_at e.cell (take i es ++ e ∷ []) ≤ 2 ^ 126
next_light es i e h l k = omega (arith, h e.cell, extent_part e.cell es (i + 1), ap (extent_at e.cell) (next_taken es i e l k))

entries_back : (es : List Summed) → entries_in (map placed es) ≡ es
entries_back [] = refl
entries_back (e ∷ es) = ap (λ t. e ∷ t) (entries_back es)

all_placed : (es : List Summed) → AllByRecursion (λ (p : Placed). p.place ≡ place_of p.entry.cell) (map placed es)
all_placed [] = tt
all_placed (e ∷ es) = (refl, all_placed es)

pub sorted_entries : (es : List Summed) (ps qs : List Placed) → ArePlaced es ps → IsPermutation ps qs → IsNonDecreasingBy (λ (p : Placed). p.place) qs → AreInOrder (entries_in qs) × IsPermutation es (entries_in qs)
sorted_entries es ps qs h p r =
    let same : entries_in ps ≡ es = ap entries_in h.are ∙ entries_back es in
    let moved : IsPermutation es (entries_in qs) = subst (λ t. IsPermutation t (entries_in qs)) same (IsPermutation-map (λ (p : Placed). p.entry) ps qs p) in
    let told : All (λ (p : Placed). p.place ≡ place_of p.entry.cell) qs = All-permutation (λ (p : Placed). p.place ≡ place_of p.entry.cell) ps qs p (All-from_recursion (λ (p : Placed). p.place ≡ place_of p.entry.cell) ps (subst (AllByRecursion (λ (p : Placed). p.place ≡ place_of p.entry.cell)) (sym h.are) (all_placed es))) in (
      record {
        rises = λ i j d u v.
            let w : j < length qs = omega (arith, v, length-map qs (λ (p : Placed). p.entry)) in
            let a : place_of (get_or (entries_in qs) i d).cell ≡ (get_or qs i (placed d)).place = ap (λ (t : Summed). place_of t.cell) (get_or-map (λ (p : Placed). p.entry) qs i (placed d) d (omega (arith, u, w))) ∙ sym (told i (placed d) (omega (arith, u, w))) in
            let b : place_of (get_or (entries_in qs) j d).cell ≡ (get_or qs j (placed d)).place = ap (λ (t : Summed). place_of t.cell) (get_or-map (λ (p : Placed). p.entry) qs j (placed d) d w) ∙ sym (told j (placed d) w) in
            omega (arith, a, b, r i j (placed d) u w);
        boxed = recursion_from_All IsCell (cells_in (entries_in qs)) (All-permutation IsCell (cells_in es) (cells_in (entries_in qs)) (IsPermutation-map (λ (e : Summed). e.cell) es (entries_in qs) moved) (All-from_recursion IsCell (cells_in es) h.boxed));
      },
      moved,
    )

pub light_sorted : (es fs : List Summed) → IsPermutation es fs → IsLight es → IsLight fs
light_sorted es fs p h c = omega (arith, h c, extent-permuted c es fs p)
