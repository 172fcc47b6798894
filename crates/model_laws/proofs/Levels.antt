-- The cells around a position, and the nodes of a list of positions, each once.
use Rattle.std.proofs.Common.{◌≡◌, ℕ, zero, suc, ◌+◌, ◌<◌, ◌≤◌, Bool, true, false, cond, eqb, ltb, ◌&&◌, ◌||◌, List, [], ◌∷◌, ◌++◌, map, refl, ap, sym, ◌∙◌, arith, ◌⊎◌, inl, inr, zero-add, add-one, ℤ, pos, ◌+ℤ◌}
use Rattle.std.specs.List.{filter, flat_map, list_any, range_with_len}
use Rattle.std.proofs.lemmas.Int.{ints}
use Rattle.std.proofs.lemmas.List.FromFn.{map-range_with_len_more}
use Rattle.std.proofs.lemmas.List.Sums.{sum_by-cons}
use Rattle.std.proofs.lemmas.Bool.{and_parts, and_from, and_right, cond-true, cond-false, false≢true, eq-eqb, ne_eqb, eqb-true, lt-ltb, le-ltb, ltb-true, cases_eq, cases_order, or_cases, or_left, or_right}
use Rattle.cell_space.specs.Cells.{Position, CellData, cell_at, contains, same_cell, below}
use Rattle.cell_space.proofs.Cells.{same_cell-exact, contains-exact, cell_at-contains, both_equal}
use Rattle.nbody_model.specs.Covers.{distinct}
use Rattle.nbody_model.specs.Force.{cells_around}
use Rattle.model_laws.proofs.Among.{Among, Witness, any-witness, any-among, any-flat_map, among-map}
use Rattle.model_laws.proofs.Signed.{total_by, total-on, total-exchange, total-filter}
use Rattle.model_laws.proofs.Counts.{times, times-distinct, same_total, among-distinct}

-- the cells that contain a position, of the levels below 33
abbrev pub levels : Position → ℕ → List CellData
levels p n = map (λ l. cell_at l p) (below n)

unfoldable pub ancestors : Position → List CellData
ancestors p = levels p 33

total-append : {X : Type 0} (f : X → ℤ) (xs : List X) (x : X) → total_by f (xs ++ x ∷ []) ≡ f x +ℤ total_by f xs
total-append f [] x = refl
total-append f (y ∷ ys) x = omega (arith, ints, total-append f ys x)

total_levels : (f : CellData → ℤ) (p : Position) (n : ℕ) → total_by f (map (λ l. cell_at l p) (range_with_len 0 n)) ≡ total_by f (levels p n)
total_levels f p zero = refl
total_levels f p (suc n) =
    ap (λ k. total_by f (map (λ l. cell_at l p) (range_with_len 0 k))) (sym (add-one n))
    ∙ ap (total_by f) (map-range_with_len_more (λ l. cell_at l p) 0 n n (omega arith))
    ∙ total-append f (map (λ l. cell_at l p) (range_with_len 0 n)) (cell_at n p)
    ∙ ap (λ t. f (cell_at n p) +ℤ t) (total_levels f p n)

pub total_around : (f : CellData → ℤ) (p : Position) → total_by f (cells_around p) ≡ total_by f (ancestors p)
unfolding ancestors
total_around f p = total_levels f p 33

-- whether p's cell of level n is z
is_cell_at : (p : Position) (n : ℕ) (z : CellData) → same_cell (cell_at n p) z ≡ (contains z p && eqb z.level n)
is_cell_at p n z = both_equal (same_cell (cell_at n p) z) (contains z p && eqb z.level n)
    (λ e. let h : cell_at n p ≡ z = (same_cell-exact (cell_at n p) z).0 e in
    and_from (contains z p) (eqb z.level n) (ap (λ t. contains t p) (sym h) ∙ cell_at-contains n p) (eq-eqb z.level n (ap (λ t. t.level) (sym h))))
    (λ e. let u : (contains z p ≡ true) × (eqb z.level n ≡ true) = and_parts (contains z p) (eqb z.level n) e in
    (same_cell-exact (cell_at n p) z).1 (ap (λ l. cell_at l p) (sym (eqb-true z.level n u.1)) ∙ (contains-exact z p).0 u.0))

one_more : (c : Bool) (l n : ℕ) → cond (c && eqb l n) 1 0 + cond (c && ltb l n) 1 0 ≡ cond (c && ltb l (suc n)) 1 0
one_more true l n = step (cases_order l n)
  where
    step : (l ≡ n) ⊎ ((l < n) ⊎ (n < l)) → ◌≡◌ {A = ℕ} (cond (eqb l n) 1 0 + cond (ltb l n) 1 0) (cond (ltb l (suc n)) 1 0)
    step (inl e) = omega (arith, cond-true {A = ℕ} (eqb l n) 1 0 (eq-eqb l n e), cond-false {A = ℕ} (ltb l n) 1 0 (le-ltb l n (omega arith)), cond-true {A = ℕ} (ltb l (suc n)) 1 0 (lt-ltb l (suc n) (omega arith)))
    step (inr (inl h)) = omega (arith, cond-false {A = ℕ} (eqb l n) 1 0 (ne_eqb l n (λ e. omega arith)), cond-true {A = ℕ} (ltb l n) 1 0 (lt-ltb l n h), cond-true {A = ℕ} (ltb l (suc n)) 1 0 (lt-ltb l (suc n) (omega arith)))
    step (inr (inr h)) = omega (arith, cond-false {A = ℕ} (eqb l n) 1 0 (ne_eqb l n (λ e. omega arith)), cond-false {A = ℕ} (ltb l n) 1 0 (le-ltb l n (omega arith)), cond-false {A = ℕ} (ltb l (suc n)) 1 0 (le-ltb l (suc n) (omega arith)))
one_more false l n = refl

-- how often z stands among p's cells of the levels below n
times_levels : (p : Position) (z : CellData) (n : ℕ) → times same_cell same_cell-exact z (levels p n) ≡ cond (contains z p && ltb z.level n) 1 0
times_levels p z zero = sym (cond-false {A = ℕ} (contains z p && ltb z.level 0) 1 0 (and_right (contains z p) (ltb z.level 0) (le-ltb z.level 0 (omega arith))))
times_levels p z (suc n) =
    sum_by-cons (λ x. cond (same_cell x z) 1 0) (cell_at n p) (levels p n)
    ∙ omega (arith, ap {B = ℕ} (λ b. cond b 1 0) (is_cell_at p n z), times_levels p z n, one_more (contains z p) z.level n)

times_filter_step : (t : CellData → Bool) (z x : CellData) (ys : List CellData) (b : Bool) → t x ≡ b → (n : ℕ) → times same_cell same_cell-exact z ys ≡ cond (t z) n 0 → times same_cell same_cell-exact z (cond b (x ∷ ys) ys) ≡ cond (t z) (cond (same_cell x z) 1 0 + n) 0
times_filter_step t z x ys true e n h = sum_by-cons (λ y. cond (same_cell y z) 1 0) x ys ∙ inside (same_cell x z) refl
  where
    inside : (c : Bool) → same_cell x z ≡ c → cond c 1 0 + times same_cell same_cell-exact z ys ≡ cond (t z) (cond c 1 0 + n) 0
    inside true k = let u : t z ≡ true = ap t (sym ((same_cell-exact x z).0 k)) ∙ e in omega (arith, h, cond-true {A = ℕ} (t z) n 0 u, cond-true {A = ℕ} (t z) (1 + n) 0 u)
    inside false k = zero-add (times same_cell same_cell-exact z ys) ∙ h ∙ ap (λ m. cond (t z) m 0) (sym (zero-add n))
times_filter_step t z x ys false e n h = inside (same_cell x z) refl
  where
    inside : (c : Bool) → same_cell x z ≡ c → times same_cell same_cell-exact z ys ≡ cond (t z) (cond c 1 0 + n) 0
    inside true k = let u : t z ≡ false = ap t (sym ((same_cell-exact x z).0 k)) ∙ e in h ∙ cond-false {A = ℕ} (t z) n 0 u ∙ sym (cond-false {A = ℕ} (t z) (1 + n) 0 u)
    inside false k = h ∙ ap (λ m. cond (t z) m 0) (sym (zero-add n))

pub times-filter : (t : CellData → Bool) (z : CellData) (xs : List CellData) → times same_cell same_cell-exact z (filter t xs) ≡ cond (t z) (times same_cell same_cell-exact z xs) 0
times-filter t z [] = nothing (t z)
  where
    nothing : (b : Bool) → ◌≡◌ {A = ℕ} 0 (cond b 0 0)
    nothing true = refl
    nothing false = refl
times-filter t z (x ∷ xs) =
    times_filter_step t z x (filter t xs) (t x) refl (times same_cell same_cell-exact z xs) (times-filter t z xs)
    ∙ ap (λ m. cond (t z) m 0) (sym (sum_by-cons (λ y. cond (same_cell y z) 1 0) x xs))

-- z stands among the cells of the levels below n
any_step : (p : Position) (z : CellData) (n : ℕ) → (list_any (same_cell z) (levels p n) ≡ true → (contains z p ≡ true) × (z.level < n)) →
    (same_cell z (cell_at n p) ≡ true) ⊎ (list_any (same_cell z) (levels p n) ≡ true) → (contains z p ≡ true) × (z.level < suc n)
any_step p z n rest (inl e) = let u : z ≡ cell_at n p = (same_cell-exact z (cell_at n p)).0 e in let l : z.level ≡ n = ap (λ t. t.level) u in (ap (λ t. contains t p) u ∙ cell_at-contains n p, omega arith)
any_step p z n rest (inr e) = let r : (contains z p ≡ true) × (z.level < n) = rest e in (r.0, omega (arith, r.1))

any_level : (p : Position) (z : CellData) (n : ℕ) → list_any (same_cell z) (levels p n) ≡ true → (contains z p ≡ true) × (z.level < n)
any_level p z zero h = absurd (false≢true h)
any_level p z (suc n) h = any_step p z n (λ e. any_level p z n e) (or_cases (same_cell z (cell_at n p)) (list_any (same_cell z) (levels p n)) h)

level_step : (p : Position) (z : CellData) (n : ℕ) → contains z p ≡ true → z.level < suc n → (z.level < n → list_any (same_cell z) (levels p n) ≡ true) → (z.level ≡ n) ⊎ (z.level ≡ n → ⊥) →
    (same_cell z (cell_at n p) || list_any (same_cell z) (levels p n)) ≡ true
level_step p z n h k rest (inl e) = or_left (same_cell z (cell_at n p)) (list_any (same_cell z) (levels p n)) ((same_cell-exact z (cell_at n p)).1 (sym ((contains-exact z p).0 h) ∙ ap (λ l. cell_at l p) e))
level_step p z n h k rest (inr ne) = or_right (same_cell z (cell_at n p)) (list_any (same_cell z) (levels p n)) (rest (omega arith))

level_any : (p : Position) (z : CellData) (n : ℕ) → contains z p ≡ true → z.level < n → list_any (same_cell z) (levels p n) ≡ true
level_any p z zero h k = absurd (omega arith)
level_any p z (suc n) h k = level_step p z n h k (λ u. level_any p z n h u) (cases_eq z.level n)

-- the nodes of a list of positions, each once
unfoldable pub nodes : List Position → List CellData
nodes ps = distinct same_cell (flat_map ancestors ps)

any_ancestor : (p : Position) (z : CellData) → list_any (same_cell z) (ancestors p) ≡ true → (contains z p ≡ true) × (z.level < 33)
unfolding ancestors
any_ancestor p z h = any_level p z 33 h

ancestor_any : (p : Position) (z : CellData) → contains z p ≡ true → z.level < 33 → list_any (same_cell z) (ancestors p) ≡ true
unfolding ancestors
ancestor_any p z h k = level_any p z 33 h k

times_ancestors : (p : Position) (z : CellData) → times same_cell same_cell-exact z (ancestors p) ≡ cond (contains z p && ltb z.level 33) 1 0
unfolding ancestors
times_ancestors p z = times_levels p z 33

-- the nodes that contain p are p's cells
node_or_not : (ps : List Position) (p : Position) → Among p ps → (z : CellData) (b : Bool) → contains z p ≡ b → ◌≡◌ {A = ℕ} (cond b (cond (list_any (same_cell z) (flat_map ancestors ps)) 1 0) 0) (cond (b && ltb z.level 33) 1 0)
node_or_not ps p h z true e = ap {B = ℕ} (λ c. cond c 1 0) (both_equal (list_any (same_cell z) (flat_map ancestors ps)) (ltb z.level 33)
    (λ k. let w : Witness (λ q. list_any (same_cell z) (ancestors q)) ps = any-witness (λ q. list_any (same_cell z) (ancestors q)) ps (sym (any-flat_map (same_cell z) ancestors ps) ∙ k) in
    lt-ltb z.level 33 (any_ancestor w.it z w.passes).1)
    (λ k. any-flat_map (same_cell z) ancestors ps ∙ any-among (λ q. list_any (same_cell z) (ancestors q)) p ps h (ancestor_any p z e (ltb-true z.level 33 k))))
node_or_not ps p h z false e = refl

times_nodes : (ps : List Position) (p : Position) → Among p ps → (z : CellData) → times same_cell same_cell-exact z (filter (λ c. contains c p) (nodes ps)) ≡ times same_cell same_cell-exact z (ancestors p)
unfolding nodes
times_nodes ps p h z =
    times-filter (λ c. contains c p) z (nodes ps)
    ∙ ap (λ m. cond (contains z p) m 0) (times-distinct same_cell same_cell-exact z (flat_map ancestors ps))
    ∙ node_or_not ps p h z (contains z p) refl
    ∙ sym (times_ancestors p z)

-- a cell of level at most 32 with a body is a node, once
pub node_once : (ps : List Position) (p : Position) (c : CellData) → Among p ps → contains c p ≡ true → c.level ≤ 32 → times same_cell same_cell-exact c (nodes ps) ≡ 1
unfolding nodes
node_once ps p c h k l =
    times-distinct same_cell same_cell-exact c (flat_map ancestors ps)
    ∙ cond-true {A = ℕ} (list_any (same_cell c) (flat_map ancestors ps)) 1 0
    (any-flat_map (same_cell c) ancestors ps ∙ any-among (λ q. list_any (same_cell c) (ancestors q)) p ps h (ancestor_any p c k (omega arith)))

-- a sum over the cells of a position is one over the nodes that contain it
pub over_nodes : (ps : List Position) (p : Position) → Among p ps → (f : CellData → ℤ) → total_by f (ancestors p) ≡ total_by (λ c. cond (contains c p) (f c) (pos 0)) (nodes ps)
over_nodes ps p h f =
    same_total same_cell same_cell-exact f (ancestors p) (filter (λ c. contains c p) (nodes ps)) (λ z. sym (times_nodes ps p h z))
    ∙ total-filter (λ c. contains c p) f (nodes ps)

-- the sums of what bodies get from their cells are the totals of all nodes, where the shares of each node add up to its total
pub shares_are_totals : {X : Type 0} (ps : List Position) (bodies : List X) (at : X → Position) → map at bodies ≡ ps → (share : CellData → X → ℤ) (total : CellData → ℤ) →
    ((c : CellData) → Among c (nodes ps) → total_by (share c) (filter (λ i. contains c (at i)) bodies) ≡ total c) →
    total_by (λ i. total_by (λ c. share c i) (ancestors (at i))) bodies ≡ total_by total (nodes ps)
shares_are_totals ps bodies at e share total adds =
    total-on (λ i. total_by (λ c. share c i) (ancestors (at i))) (λ i. total_by (λ c. cond (contains c (at i)) (share c i) (pos 0)) (nodes ps)) bodies (λ i h. over_nodes ps (at i) (rw (← e) (among-map at i bodies h)) (λ c. share c i))
    ∙ total-exchange (λ i c. cond (contains c (at i)) (share c i) (pos 0)) bodies (nodes ps)
    ∙ total-on (λ c. total_by (λ i. cond (contains c (at i)) (share c i) (pos 0)) bodies) total (nodes ps) (λ c h. sym (total-filter (λ i. contains c (at i)) (share c) bodies) ∙ adds c h)

-- a node contains one of the positions
pub node_member : (ps : List Position) (c : CellData) → Among c (nodes ps) → Witness (contains c) ps
unfolding nodes
node_member ps c h =
    let e : list_any (same_cell c) (flat_map ancestors ps) ≡ true = among-distinct same_cell same_cell-exact c (flat_map ancestors ps) h in
    let w : Witness (λ q. list_any (same_cell c) (ancestors q)) ps = any-witness (λ q. list_any (same_cell c) (ancestors q)) ps (sym (any-flat_map (same_cell c) ancestors ps) ∙ e) in
    record { it = w.it; «in» = w.«in»; passes = (any_ancestor w.it c w.passes).0 }
