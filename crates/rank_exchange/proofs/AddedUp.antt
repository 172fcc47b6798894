-- Entries that are added up one by one.
use Rattle.std.proofs.Common.{◌≡◌, ℕ, ◌+◌, ◌^◌, ◌<◌, ◌≤◌, Bool, true, false, cond, ◌||◌, List, [], ◌∷◌, ◌++◌, sum_by, refl, ap, ◌∙◌, sym, subst, arith, inl, inr, ℤ, ◌+ℤ◌, unsigned_abs}
use Rattle.std.specs.List.{filter, AllByRecursion}
use Rattle.std.proofs.lemmas.Bool.{cond-true, cond-false}
use Rattle.std.proofs.lemmas.Int.{ints}
use Rattle.std.proofs.lemmas.List.{map_push}
use Rattle.std.proofs.lemmas.List.Elements.{filter-append}
use Rattle.std.proofs.lemmas.List.Sums.{fold-append, sum_by-append, sum_by-cons}
use Rattle.fixed_point.specs.declared.V3.{V3}
use Rattle.fixed_point.specs.Vectors.{FitsEach, origin, plus, sum_of}
use Rattle.fixed_point.proofs.VectorLemmas.{FitsEach-from_bound}
use Rattle.cell_space.specs.Cells.{CellData, same_cell}
use Rattle.cell_space.proofs.Cells.{same_cell-exact}
use Rattle.hilbert_keys.specs.Curve.{IsCell}
use Rattle.model_laws.proofs.Among.{Among, Witness, any-append, any-witness, each-among, each-append}
use Rattle.rank_laws.specs.Machine.{is_one}
use Rattle.rank_laws.specs.Contents.{Summed, sum_at}
use Rattle.rank_laws.proofs.Axes.{Axis, OnX, OnY, OnZ, on, on_each}
use Rattle.rank_exchange.specs.Sums.{cells_in, extent, extent_at, joined, place_of, Climbs, IsAdded, IsNext}
use Rattle.rank_exchange.proofs.Places.{place_tells}

pub append_none : {X : Type 0} (xs : List X) → xs ++ [] ≡ xs
append_none [] = refl
append_none (x ∷ xs) = ap (λ t. x ∷ t) (append_none xs)

pub plus_assoc : (u v w : V3) → plus u (plus v w) ≡ plus (plus u v) w
plus_assoc u v w = on_each (plus u (plus v w)) (plus (plus u v) w) (λ a. by a)
  where
    by : (a : Axis) → on a (plus u (plus v w)) ≡ on a (plus (plus u v) w)
    by OnX = omega (arith, ints)
    by OnY = omega (arith, ints)
    by OnZ = omega (arith, ints)

pub plus_origin : (v : V3) → plus origin v ≡ v
plus_origin v = on_each (plus origin v) v (λ a. by a)
  where
    by : (a : Axis) → on a (plus origin v) ≡ on a v
    by OnX = omega (arith, ints)
    by OnY = omega (arith, ints)
    by OnZ = omega (arith, ints)

abs_sum : (a b : ℤ) → unsigned_abs (a +ℤ b) ≤ unsigned_abs a + unsigned_abs b
abs_sum a b = omega (arith, ints)

pub extent_plus : (u v : V3) → extent (plus u v) ≤ extent u + extent v
extent_plus u v = omega (arith, abs_sum u.x v.x, abs_sum u.y v.y, abs_sum u.z v.z)

-- ---- one entry more

pub sum_of-snoc : {X : Type 0} (f : X → V3) (xs : List X) (x : X) → sum_of f (xs ++ x ∷ []) ≡ plus (sum_of f xs) (f x)
sum_of-snoc f xs x = fold-append (λ total x. plus total (f x)) origin xs (x ∷ [])

pub sum_at-snoc : (c : CellData) (es : List Summed) (e : Summed) → sum_at c (es ++ e ∷ []) ≡ cond (same_cell c e.cell) (plus (sum_at c es) e.sum) (sum_at c es)
sum_at-snoc c es e = ap (sum_of (λ (e : Summed). e.sum)) (filter-append (λ (e : Summed). same_cell c e.cell) es (e ∷ [])) ∙ by (same_cell c e.cell)
  where
    by : (b : Bool) → sum_of (λ (e : Summed). e.sum) (filter (λ (e : Summed). same_cell c e.cell) es ++ cond b (e ∷ []) []) ≡ cond b (plus (sum_at c es) e.sum) (sum_at c es)
    by true = sum_of-snoc (λ (e : Summed). e.sum) (filter (λ (e : Summed). same_cell c e.cell) es) e
    by false = ap (sum_of (λ (e : Summed). e.sum)) (append_none (filter (λ (e : Summed). same_cell c e.cell) es))

pub extent_at-snoc : (c : CellData) (es : List Summed) (e : Summed) → extent_at c (es ++ e ∷ []) ≡ extent_at c es + cond (same_cell c e.cell) (extent e.sum) 0
extent_at-snoc c es e = ap (sum_by (λ (e : Summed). extent e.sum)) (filter-append (λ (e : Summed). same_cell c e.cell) es (e ∷ [])) ∙ sum_by-append (λ (e : Summed). extent e.sum) (filter (λ (e : Summed). same_cell c e.cell) es) (filter (λ (e : Summed). same_cell c e.cell) (e ∷ [])) ∙ ap (λ t. extent_at c es + t) (by (same_cell c e.cell))
  where
    by : (b : Bool) → sum_by (λ (e : Summed). extent e.sum) (cond b (e ∷ []) []) ≡ cond b (extent e.sum) 0
    by true = omega (arith, sum_by-cons (λ (e : Summed). extent e.sum) e [])
    by false = refl

pub cells_in-snoc : (es : List Summed) (e : Summed) → cells_in (es ++ e ∷ []) ≡ cells_in es ++ e.cell ∷ []
cells_in-snoc es e = map_push (λ (e : Summed). e.cell) es e

pub or_false : (b : Bool) → (b || false) ≡ b
or_false true = refl
or_false false = refl

is_one-snoc : (c : CellData) (es : List Summed) (e : Summed) → is_one c (cells_in (es ++ e ∷ [])) ≡ (is_one c (cells_in es) || same_cell c e.cell)
is_one-snoc c es e = ap (is_one c) (cells_in-snoc es e) ∙ any-append (same_cell c) (cells_in es) (e.cell ∷ []) ∙ ap (λ t. is_one c (cells_in es) || t) (or_false (same_cell c e.cell))

-- ---- an entry of the cell that stood last

pub add_same : (es out : List Summed) (l e : Summed) → l.cell ≡ e.cell → IsAdded es (out ++ l ∷ []) → IsAdded (es ++ e ∷ []) (out ++ joined l e ∷ [])
add_same es out l e k h = record {
  climbs = subst Climbs same h.climbs;
  boxed = subst (AllByRecursion IsCell) same h.boxed;
  cells = λ c. ap (is_one c) (sym same) ∙ h.cells c ∙ again c ∙ sym (is_one-snoc c es e);
  sums = λ c. sum_at-snoc c out (joined l e) ∙ sums c (same_cell c l.cell) refl ∙ sym (sum_at-snoc c es e);
  light = λ c. light c (same_cell c l.cell) refl;
}
  where
    same : cells_in (out ++ l ∷ []) ≡ cells_in (out ++ joined l e ∷ [])
    same = cells_in-snoc out l ∙ sym (cells_in-snoc out (joined l e))

    there : (c : CellData) → same_cell c l.cell ≡ true → is_one c (cells_in es) ≡ true
    there c u = sym (h.cells c) ∙ is_one-snoc c out l ∙ ap (λ t. is_one c (cells_in out) || t) u ∙ right (is_one c (cells_in out))
      where
        right : (b : Bool) → (b || true) ≡ true
        right true = refl
        right false = refl

    again : (c : CellData) → is_one c (cells_in es) ≡ (is_one c (cells_in es) || same_cell c e.cell)
    again c = by (same_cell c l.cell) refl
      where
        by : (b : Bool) → same_cell c l.cell ≡ b → is_one c (cells_in es) ≡ (is_one c (cells_in es) || same_cell c e.cell)
        by true u = there c u ∙ ap (λ t. t || same_cell c e.cell) (sym (there c u))
        by false u = sym (ap (λ t. is_one c (cells_in es) || same_cell c t) (sym k) ∙ ap (λ t. is_one c (cells_in es) || t) u ∙ or_false (is_one c (cells_in es)))

    sums : (c : CellData) (b : Bool) → same_cell c l.cell ≡ b → cond (same_cell c l.cell) (plus (sum_at c out) (plus l.sum e.sum)) (sum_at c out) ≡ cond (same_cell c e.cell) (plus (sum_at c es) e.sum) (sum_at c es)
    sums c true u =
        let v : same_cell c e.cell ≡ true = ap (same_cell c) (sym k) ∙ u in
        let f : plus (sum_at c out) l.sum ≡ sum_at c es = sym (cond-true (same_cell c l.cell) (plus (sum_at c out) l.sum) (sum_at c out) u) ∙ sym (sum_at-snoc c out l) ∙ h.sums c in
        cond-true (same_cell c l.cell) (plus (sum_at c out) (plus l.sum e.sum)) (sum_at c out) u ∙ plus_assoc (sum_at c out) l.sum e.sum ∙ ap (λ t. plus t e.sum) f ∙ sym (cond-true (same_cell c e.cell) (plus (sum_at c es) e.sum) (sum_at c es) v)
    sums c false u =
        let v : same_cell c e.cell ≡ false = ap (same_cell c) (sym k) ∙ u in
        let f : sum_at c out ≡ sum_at c es = sym (cond-false (same_cell c l.cell) (plus (sum_at c out) l.sum) (sum_at c out) u) ∙ sym (sum_at-snoc c out l) ∙ h.sums c in
        cond-false (same_cell c l.cell) (plus (sum_at c out) (plus l.sum e.sum)) (sum_at c out) u ∙ f ∙ sym (cond-false (same_cell c e.cell) (plus (sum_at c es) e.sum) (sum_at c es) v)

    light : (c : CellData) (b : Bool) → same_cell c l.cell ≡ b → extent_at c (out ++ joined l e ∷ []) ≤ extent_at c (es ++ e ∷ [])
    light c true u =
        let v : same_cell c e.cell ≡ true = ap (same_cell c) (sym k) ∙ u in
        omega (arith, extent_at-snoc c out (joined l e), extent_at-snoc c out l, extent_at-snoc c es e, h.light c, extent_plus l.sum e.sum, cond-true {A = ℕ} (same_cell c l.cell) (extent (plus l.sum e.sum)) 0 u, cond-true {A = ℕ} (same_cell c l.cell) (extent l.sum) 0 u, cond-true {A = ℕ} (same_cell c e.cell) (extent e.sum) 0 v)
    light c false u =
        let v : same_cell c e.cell ≡ false = ap (same_cell c) (sym k) ∙ u in
        omega (arith, extent_at-snoc c out (joined l e), extent_at-snoc c out l, extent_at-snoc c es e, h.light c, cond-false {A = ℕ} (same_cell c l.cell) (extent (plus l.sum e.sum)) 0 u, cond-false {A = ℕ} (same_cell c l.cell) (extent l.sum) 0 u, cond-false {A = ℕ} (same_cell c e.cell) (extent e.sum) 0 v)

-- what stood last is no more in size than all at its cell
last_fits : (es out : List Summed) (l e : Summed) → l.cell ≡ e.cell → IsAdded es (out ++ l ∷ []) → extent l.sum + extent e.sum ≤ extent_at l.cell (es ++ e ∷ [])
last_fits es out l e k h =
    let u : same_cell l.cell l.cell ≡ true = (same_cell-exact l.cell l.cell).1 refl in
    let v : same_cell l.cell e.cell ≡ true = (same_cell-exact l.cell e.cell).1 k in
    omega (arith, extent_at-snoc l.cell out l, extent_at-snoc l.cell es e, h.light l.cell, cond-true {A = ℕ} (same_cell l.cell l.cell) (extent l.sum) 0 u, cond-true {A = ℕ} (same_cell l.cell e.cell) (extent e.sum) 0 v)

pub last_light : (es out : List Summed) (l e : Summed) → l.cell ≡ e.cell → IsAdded es (out ++ l ∷ []) → extent_at e.cell (es ++ e ∷ []) ≤ 2 ^ 126 → FitsEach (plus l.sum e.sum)
last_light es out l e k h m =
    let f : extent l.sum + extent e.sum ≤ 2 ^ 126 = subst (λ c. extent_at c (es ++ e ∷ []) ≤ 2 ^ 126 → extent l.sum + extent e.sum ≤ 2 ^ 126) k (λ n. omega (arith, n, last_fits es out l e k h)) m in
    let g : extent (plus l.sum e.sum) ≤ 2 ^ 126 = omega (arith, f, extent_plus l.sum e.sum) in
    FitsEach-from_bound (2 ^ 126) (plus l.sum e.sum) (omega arith) (record { on_x = omega (arith, g); on_y = omega (arith, g); on_z = omega (arith, g) })

-- ---- an entry of a cell that comes behind

climbs_behind : (cs : List CellData) (d : CellData) → Climbs cs → AllByRecursion (λ c. place_of c < place_of d) cs → Climbs (cs ++ d ∷ [])
climbs_behind [] d u v = (tt, tt)
climbs_behind (c ∷ cs) d u v = (each-append (λ x. place_of c < place_of x) cs (d ∷ []) u.0 (v.0, tt), climbs_behind cs d u.1 v.1)

-- of ascending cells all come before whatever comes behind the last
all_before : (cs : List CellData) (l d : CellData) → Climbs (cs ++ l ∷ []) → place_of l < place_of d → AllByRecursion (λ c. place_of c < place_of d) (cs ++ l ∷ [])
all_before [] l d u v = (v, tt)
all_before (c ∷ cs) l d u v =
    let a : place_of c < place_of l = each-among (λ x. place_of c < place_of x) l (cs ++ l ∷ []) u.0 (last_among cs) in
    (omega (arith, a, v), all_before cs l d u.1 v)
  where
    last_among : (xs : List CellData) → Among l (xs ++ l ∷ [])
    last_among [] = inl refl
    last_among (x ∷ xs) = inr (last_among xs)

fresh : (es out : List Summed) (e : Summed) → IsCell e.cell → IsAdded es out → AllByRecursion (λ c. place_of c < place_of e.cell) (cells_in out) → IsAdded (es ++ e ∷ []) (out ++ e ∷ [])
fresh es out e i h v = record {
  climbs = subst Climbs (sym (cells_in-snoc out e)) (climbs_behind (cells_in out) e.cell h.climbs v);
  boxed = subst (AllByRecursion IsCell) (sym (cells_in-snoc out e)) (each-append IsCell (cells_in out) (e.cell ∷ []) h.boxed (i, tt));
  cells = λ c. is_one-snoc c out e ∙ ap (λ t. t || same_cell c e.cell) (h.cells c) ∙ sym (is_one-snoc c es e);
  sums = λ c. sum_at-snoc c out e ∙ ap (λ t. cond (same_cell c e.cell) (plus t e.sum) t) (h.sums c) ∙ sym (sum_at-snoc c es e);
  light = λ c. omega (arith, extent_at-snoc c out e, extent_at-snoc c es e, h.light c);
}

pub add_first : (e : Summed) → IsCell e.cell → IsAdded (e ∷ []) (e ∷ [])
add_first e i = fresh [] [] e i (record { climbs = tt; boxed = tt; cells = λ c. refl; sums = λ c. refl; light = λ c. omega arith }) tt

pub add_fresh : (es out : List Summed) (l e : Summed) → (l.cell ≡ e.cell → ⊥) → IsNext es e → IsAdded es (out ++ l ∷ []) → IsAdded (es ++ e ∷ []) ((out ++ l ∷ []) ++ e ∷ [])
add_fresh es out l e n next h =
    let i : IsCell l.cell = each-among IsCell l.cell (cells_in out ++ l.cell ∷ []) (subst (AllByRecursion IsCell) (cells_in-snoc out l) h.boxed) (last_among (cells_in out)) in
    let w : Witness (same_cell l.cell) (cells_in es) = any-witness (same_cell l.cell) (cells_in es) (sym (h.cells l.cell) ∙ is_one-snoc l.cell out l ∙ right (is_one l.cell (cells_in out)) (same_cell l.cell l.cell) ((same_cell-exact l.cell l.cell).1 refl)) in
    let at : l.cell ≡ w.it = (same_cell-exact l.cell w.it).0 w.passes in
    let le : place_of w.it ≤ place_of e.cell = each-among (λ c. place_of c ≤ place_of e.cell) w.it (cells_in es) (over es next.behind) w.«in» in
    let less : place_of l.cell < place_of e.cell = strictly (place_of l.cell) (place_of e.cell) (subst (λ t. place_of t ≤ place_of e.cell) (sym at) le) (λ q. n (place_tells l.cell e.cell i next.boxed q)) in
    fresh es (out ++ l ∷ []) e next.boxed h (subst (AllByRecursion (λ c. place_of c < place_of e.cell)) (sym (cells_in-snoc out l)) (all_before (cells_in out) l.cell e.cell (subst Climbs (cells_in-snoc out l) h.climbs) less))
  where
    last_among : (xs : List CellData) → Among l.cell (xs ++ l.cell ∷ [])
    last_among [] = inl refl
    last_among (x ∷ xs) = inr (last_among xs)

    right : (a b : Bool) → b ≡ true → (a || b) ≡ true
    right true b u = refl
    right false b u = u

    over : (xs : List Summed) → AllByRecursion (λ (f : Summed). place_of f.cell ≤ place_of e.cell) xs → AllByRecursion (λ c. place_of c ≤ place_of e.cell) (cells_in xs)
    over [] a = tt
    over (x ∷ xs) a = (a.0, over xs a.1)

    strictly : (a b : ℕ) → a ≤ b → (a ≡ b → ⊥) → a < b
    strictly a b u v = omega (arith, u, v)
