-- How much the shares of a home come to in size.
use Rattle.std.proofs.Common.{◌≡◌, ℕ, ◌+◌, ◌*◌, ◌^◌, ◌<◌, ◌≤◌, Bool, true, false, cond, eqb, List, [], ◌∷◌, sum_by, count_by, refl, ap, ◌∙◌, sym, subst, arith, pos, inl, inr, length, unsigned_abs}
use Rattle.std.specs.List.{range_with_len, AllByRecursion}
use Rattle.std.proofs.lemmas.Bool.{eqb-true, ne_eqb}
use Rattle.std.proofs.lemmas.List.Sums.{sum_by-cons}
use Rattle.fixed_point.specs.declared.V3.{V3}
use Rattle.fixed_point.specs.Vectors.{IsAtMost}
use Rattle.cell_space.specs.Cells.{CellData, same_cell, cell_at, contains}
use Rattle.cell_space.specs.Cells.{Position}
use Rattle.nbody_model.specs.Bodies.{BodyData}
use Rattle.nbody_model.specs.Force.{share_of, node_total}
use Rattle.nbody_model.specs.Moments.{mass_of}
use Rattle.nbody_model.specs.Nodes.{members}
use Rattle.model_laws.proofs.Among.{Among, Witness, any-witness, among-filter, among-le, each-among}
use Rattle.model_laws.proofs.Bounds.{node_bounded, share_bounded}
use Rattle.model_laws.proofs.Exchange.{sum-exchange}
use Rattle.model_laws.proofs.Ranks.{sum_by-le-on}
use Rattle.model_laws.proofs.Counts.{any-times}
use Rattle.model_laws.proofs.Shares.{Ascending}
use Rattle.rank_laws.specs.Homes.{home}
use Rattle.rank_laws.specs.Machine.{is_one}
use Rattle.rank_laws.specs.Whole.{Whole, IsWhole}
use Rattle.rank_laws.specs.Contents.{share_at, total_at, wanted}
use Rattle.rank_laws.proofs.Axes.{Axis, OnX, OnY, OnZ, on}
use Rattle.rank_laws.proofs.Collecting.{shares_alike, times_wanted}
use Rattle.rank_laws.proofs.Homing.{homes_have}
use Rattle.rank_laws.proofs.KeptOnce.{number-exact, times_range}
use Rattle.rank_laws.proofs.Machine.{among_one}
use Rattle.rank_exchange.specs.Moments.{PairsAreSmall}
use Rattle.rank_exchange.specs.Sums.{extent}
use Rattle.rank_exchange.proofs.OwnMembers.{less_kept}
use Rattle.rank_exchange.proofs.HomeTotals.{counted_times, most_of, wanted_home}

pub true_total : (w : Whole) → IsWhole w → (r : ℕ) (c : CellData) → is_one c (wanted w r) ≡ true → total_at w r c ≡ node_total w.gravity w.bodies c
true_total w whole r c e = subst (λ t. total_at w t c ≡ node_total w.gravity w.bodies c) (wanted_home w r c e) (homes_have w whole c)

-- ---- sizes of shares

among_range : (q n : ℕ) → q < n → Among q (range_with_len 0 n)
among_range q n h =
    let v : Witness (eqb q) (range_with_len 0 n) = any-witness (eqb q) (range_with_len 0 n) (any-times eqb number-exact q (range_with_len 0 n) (omega (arith, times_range q n h))) in
    subst (λ x. Among x (range_with_len 0 n)) (sym (eqb-true q v.it v.passes)) v.«in»

at_most_one : (b : Bool) → cond {A = ℕ} b 1 0 ≤ 1
at_most_one true = omega arith
at_most_one false = omega arith

-- of the cells that a home wants no more than 33 contain a position, one a level
pub around_few : (w : Whole) (r : ℕ) (p : Position) → AllByRecursion (λ c. c.level ≤ 32) (wanted w r) → count_by (λ c. contains c p) (wanted w r) ≤ 33
around_few w r p low =
    let le : count_by (λ c. contains c p) (wanted w r) ≤ sum_by (λ c. sum_by (λ l. cond {A = ℕ} (same_cell (cell_at l p) c) 1 0) (range_with_len 0 33)) (wanted w r) =
    sum_by-le-on (λ c. cond {A = ℕ} (contains c p) 1 0) (λ c. sum_by (λ l. cond {A = ℕ} (same_cell (cell_at l p) c) 1 0) (range_with_len 0 33)) (wanted w r) (λ c i.
    let k : c.level ≤ 32 = each-among (λ (c : CellData). c.level ≤ 32) c (wanted w r) low i in
    among-le (λ l. cond {A = ℕ} (same_cell (cell_at l p) c) 1 0) c.level (range_with_len 0 33) (among_range c.level 33 (omega (arith, k)))) in
    let each : sum_by (λ l. sum_by (λ c. cond {A = ℕ} (same_cell (cell_at l p) c) 1 0) (wanted w r)) (range_with_len 0 33) ≤ sum_by (λ l. 1) (range_with_len 0 33) =
    sum_by-le-on (λ l. sum_by (λ c. cond {A = ℕ} (same_cell (cell_at l p) c) 1 0) (wanted w r)) (λ l. 1) (range_with_len 0 33) (λ l i. omega (arith, times_wanted w r (cell_at l p), at_most_one (is_one (cell_at l p) (wanted w r)))) in
    let all : sum_by (λ (l : ℕ). 1) (range_with_len 0 33) ≡ 33 = refl in
    omega (arith, le, each, all, sum-exchange (λ c l. cond {A = ℕ} (same_cell (cell_at l p) c) 1 0) (wanted w r) (range_with_len 0 33))

share_axes : (ms : List BodyData) (N : V3) (b : BodyData) (n : ℕ) → IsAtMost n N → 0 < mass_of ms → Among b ms → (a : Axis) → unsigned_abs (on a (share_of ms N b)) ≤ n + mass_of ms
share_axes ms N b n h some i OnX = omega (arith, share_bounded ms N.x b some i, h.on_x)
share_axes ms N b n h some i OnY = omega (arith, share_bounded ms N.y b some i, h.on_y)
share_axes ms N b n h some i OnZ = omega (arith, share_bounded ms N.z b some i, h.on_z)

share_small : (w : Whole) → IsWhole w → PairsAreSmall w → (r : ℕ) (c : CellData) (b : BodyData) → is_one c (wanted w r) ≡ true → Among b w.bodies → contains c b.motion.pos ≡ true → extent (share_at w r c b) ≤ 2 ^ 107
share_small w whole small r c b e i k =
    let same : share_at w r c b ≡ share_of (members w.bodies c) (node_total w.gravity w.bodies c) b = shares_alike w whole r c e (total_at w r c) b ∙ ap (λ t. share_of (members w.bodies c) t b) (true_total w whole r c e) in
    let there : Among b (members w.bodies c) = among-filter (λ (b : BodyData). contains c b.motion.pos) b w.bodies i k in
    let heavy : 1 ≤ b.mass = each-among (λ (b : BodyData). 1 ≤ b.mass) b w.bodies whole.bodies.heavy i in
    let some : 0 < mass_of (members w.bodies c) = omega (arith, heavy, among-le (λ (b : BodyData). b.mass) b (members w.bodies c) there) in
    let mass : mass_of (members w.bodies c) ≤ 2 ^ 32 = omega (arith, less_kept (λ b. b.mass) (λ b. contains c b.motion.pos) w.bodies, whole.bodies.valid.light) in
    let bound : IsAtMost (length w.bodies * 2 ^ 86) (node_total w.gravity w.bodies c) = node_bounded w.gravity w.bodies whole.bodies (2 ^ 86) small c in
    let le : extent (share_of (members w.bodies c) (node_total w.gravity w.bodies c) b) ≤ length w.bodies * 2 ^ 86 + mass_of (members w.bodies c) = most_of (length w.bodies * 2 ^ 86 + mass_of (members w.bodies c)) (share_of (members w.bodies c) (node_total w.gravity w.bodies c) b) (share_axes (members w.bodies c) (node_total w.gravity w.bodies c) b (length w.bodies * 2 ^ 86) bound some there) in
    omega (arith, le, mass, whole.bodies.valid.few, ap extent same)

-- what a body gets at a home in size, cell by cell
abbrev pub around : Whole → ℕ → BodyData → ℕ
around w r b = sum_by (λ c. cond (contains c b.motion.pos) (extent (share_at w r c b)) 0) (wanted w r)

pub around_small : (w : Whole) → IsWhole w → PairsAreSmall w → (r : ℕ) → AllByRecursion (λ c. c.level ≤ 32) (wanted w r) → (b : BodyData) → Among b w.bodies → around w r b ≤ 2 ^ 113
around_small w whole small r low b i =
    let le : around w r b ≤ sum_by (λ c. cond (contains c b.motion.pos) (2 ^ 107) 0) (wanted w r) = sum_by-le-on (λ c. cond (contains c b.motion.pos) (extent (share_at w r c b)) 0) (λ c. cond (contains c b.motion.pos) (2 ^ 107) 0) (wanted w r) (λ c j. by c j (contains c b.motion.pos) refl) in
    omega (arith, le, counted_times (λ c. contains c b.motion.pos) (2 ^ 107) (wanted w r), around_few w r b.motion.pos low)
  where
    by : (c : CellData) → Among c (wanted w r) → (t : Bool) → contains c b.motion.pos ≡ t → cond t (extent (share_at w r c b)) 0 ≤ cond t (2 ^ 107) 0
    by c j true e = share_small w whole small r c b (among_one c (wanted w r) j) i e
    by c j false e = omega arith

-- at one id stands at most one body
later_none : (id : ℕ) (f : BodyData → ℕ) (bs : List BodyData) → AllByRecursion (λ (d : BodyData). id < d.id) bs → sum_by (λ b. cond (eqb id b.id) (f b) 0) bs ≡ 0
later_none id f [] a = refl
later_none id f (b ∷ bs) a =
    let l : id < b.id = a.0 in
    let u : cond (eqb id b.id) (f b) 0 ≡ 0 = ap (λ t. cond t (f b) 0) (ne_eqb id b.id (λ e. omega (arith, l, e))) in
    omega (arith, sum_by-cons (λ b. cond (eqb id b.id) (f b) 0) b bs, u, later_none id f bs a.1)

pub one_at : (id n : ℕ) (f : BodyData → ℕ) (bs : List BodyData) → Ascending bs → ((b : BodyData) → Among b bs → f b ≤ n) → sum_by (λ b. cond (eqb id b.id) (f b) 0) bs ≤ n
one_at id n f [] a h = omega arith
one_at id n f (b ∷ bs) a h = by (eqb id b.id) refl (one_at id n f bs a.1 (λ d i. h d (inr i)))
  where
    by : (t : Bool) → eqb id b.id ≡ t → sum_by (λ b. cond (eqb id b.id) (f b) 0) bs ≤ n → sum_by (λ b. cond (eqb id b.id) (f b) 0) (b ∷ bs) ≤ n
    by true e r =
        let none : sum_by (λ b. cond (eqb id b.id) (f b) 0) bs ≡ 0 = later_none id f bs (subst (λ t. AllByRecursion (λ (d : BodyData). t < d.id) bs) (sym (eqb-true id b.id e)) a.0) in
        let le : f b ≤ n = h b (inl refl) in
        omega (arith, sum_by-cons (λ b. cond (eqb id b.id) (f b) 0) b bs, ap (λ t. cond t (f b) 0) e, none, le)
    by false e r = omega (arith, sum_by-cons (λ b. cond (eqb id b.id) (f b) 0) b bs, ap (λ t. cond t (f b) 0) e, r)

pub as_pos : (b : Bool) (n : ℕ) → cond b (pos n) (pos 0) ≡ pos (cond b n 0)
as_pos true n = refl
as_pos false n = refl
