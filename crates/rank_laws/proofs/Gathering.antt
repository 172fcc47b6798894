-- What the owners gather are the forces.
use Rattle.std.proofs.Common.{◌≡◌, ℕ, ◌-◌, ◌*◌, ◌/◌, ◌%◌, ◌<◌, ◌≤◌, Bool, true, false, cond, eqb, ◌||◌, List, [], ◌∷◌, ◌++◌, map, sum_by, count_by, refl, ap, sym, subst, ◌∙◌, arith, inl, inr, ℤ, pos, ◌+ℤ◌, ◌*ℤ◌, nat_lt}
use Rattle.std.proofs.Math.Nat.{zero-div, zero-mod}
use Rattle.std.specs.List.{filter, flat_map, list_any, AllByRecursion}
use Rattle.std.proofs.lemmas.Int.{ints}
use Rattle.std.proofs.lemmas.Bool.{cond-true, cond-false, false≢true, eqb-true, eq-eqb, ne_eqb, le-ltb}
use Rattle.fixed_point.specs.declared.V3.{V3}
use Rattle.cell_space.specs.Cells.{Position, CellData, same_cell, contains}
use Rattle.cell_space.proofs.Cells.{same_cell-exact}
use Rattle.nbody_model.specs.Bodies.{BodyData}
use Rattle.nbody_model.specs.Nodes.{members, positions_of}
use Rattle.nbody_model.specs.Moments.{mass_of}
use Rattle.nbody_model.specs.Covers.{same_pair, interactions}
use Rattle.nbody_model.specs.Force.{share, small_share, share_of, node_total, force_at, forces, cells_around, is_served_before}
use Rattle.model_laws.proofs.Among.{Among, Witness, any-witness, any-among, any-flat_map, among-kept, among-map, each-among, among-le}
use Rattle.model_laws.proofs.Sums.{sum_by-same}
use Rattle.model_laws.proofs.Signed.{total_by, total-same, total-on, total-zero, total-filter, total-mapped, total-exchange}
use Rattle.model_laws.proofs.Counts.{times, same_total, any-times}
use Rattle.model_laws.proofs.Turned.{same_pair-exact}
use Rattle.model_laws.proofs.InOrder.{turned_cells}
use Rattle.model_laws.proofs.Levels.{nodes, node_once, total_around, times-filter, over_nodes}
use Rattle.model_laws.proofs.Partners.{Acts, acts}
use Rattle.model_laws.proofs.Shares.{Ascending, ascending-from}
use Rattle.rank_laws.specs.Homes.{home}
use Rattle.rank_laws.specs.Machine.{Pair, is_one, cells_of}
use Rattle.rank_laws.specs.Whole.{ranks, Whole, IsWhole, opening, ranks_of, counted, own}
use Rattle.rank_laws.specs.Contents.{touched, total_at, wanted, share_at, shared_around, part_for, Given, parts_sent, given_to, gathered}
use Rattle.rank_laws.proofs.Homes.{rank_of_key-in}
use Rattle.rank_laws.proofs.Machine.{one_among, among_one}
use Rattle.rank_laws.proofs.Fairness.{in_order-same}
use Rattle.rank_laws.proofs.Counted.{together, sound}
use Rattle.rank_laws.proofs.Axes.{Axis, OnX, OnY, OnZ, on, on_sum, on_each, total-one_rank}
use Rattle.rank_laws.proofs.Homing.{one_touched, part_along, part_none, node_axis, homes_have}
use Rattle.rank_laws.proofs.Collecting.{times_wanted, shares_alike}

-- ---- a share in nothing is nothing

small_none : (ms : List BodyData) (b : BodyData) → small_share 0 ms b ≡ 0
unfolding small_share
small_none ms b =
    let M : ℕ = mass_of ms in
    let z : 0 * b.mass ≡ 0 = omega arith in
    let e : 0 * b.mass / M ≡ 0 = ap (λ t. t / mass_of ms) z ∙ zero-div (mass_of ms) in
    let n : nat_lt (count_by (is_served_before 0 M b) ms) (0 - sum_by (λ a. 0 * a.mass / M) ms) ≡ false = le-ltb (count_by (is_served_before 0 M b) ms) (0 - sum_by (λ a. 0 * a.mass / M) ms) (omega arith) in
    omega (arith, e, cond-false {A = ℕ} (nat_lt (count_by (is_served_before 0 M b) ms) (0 - sum_by (λ a. 0 * a.mass / M) ms)) 1 0 n)

share_none : (ms : List BodyData) (b : BodyData) → share ms (pos 0) b ≡ pos 0
unfolding share
share_none ms b =
    let M : ℕ = mass_of ms in
    let q : 0 / M ≡ 0 = zero-div M in
    let r : 0 % M ≡ 0 = zero-mod M in
    ap (λ t. pos t *ℤ pos b.mass +ℤ pos (small_share (0 % M) ms b)) q
    ∙ ap (λ t. pos 0 *ℤ pos b.mass +ℤ pos (small_share t ms b)) r
    ∙ ap (λ t. pos 0 *ℤ pos b.mass +ℤ pos t) (small_none ms b)
    ∙ (omega (arith, ints))

share_axis : (a : Axis) (ms : List BodyData) (N : V3) (b : BodyData) → on a (share_of ms N b) ≡ share ms (on a N) b
share_axis OnX ms N b = refl
share_axis OnY ms N b = refl
share_axis OnZ ms N b = refl

-- ---- wanted cells

touched_at : (w : Whole) (r h : ℕ) (c : CellData) → is_one c (touched w r h) ≡ true → (home w.keys c ≡ h) × (is_one c (flat_map cells_of (counted w r)) ≡ true)
unfolding touched
touched_at w r h c e =
    let k : Among c (flat_map cells_of (counted w r)) × (eqb (home w.keys c) h ≡ true) =
    among-kept (λ d. eqb (home w.keys d) h) c (flat_map cells_of (counted w r)) (one_among c (filter (λ d. eqb (home w.keys d) h) (flat_map cells_of (counted w r))) (sym (in_order-same w.keys c (filter (λ d. eqb (home w.keys d) h) (flat_map cells_of (counted w r)))) ∙ e)) in
    (eqb-true (home w.keys c) h k.1, among_one c (flat_map cells_of (counted w r)) k.0)

wanted_by : (w : Whole) (h : ℕ) (c : CellData) → is_one c (wanted w h) ≡ true → Witness (λ r. is_one c (touched w r h)) (ranks w)
unfolding wanted
wanted_by w h c e = any-witness (λ r. is_one c (touched w r h)) (ranks w) (sym (any-flat_map (same_cell c) (λ r. touched w r h) (ranks w)) ∙ sym (in_order-same w.keys c (flat_map (λ r. touched w r h) (ranks w))) ∙ e)

wanted_home : (w : Whole) (h : ℕ) (c : CellData) → is_one c (wanted w h) ≡ true → home w.keys c ≡ h
wanted_home w h c e = let v : Witness (λ r. is_one c (touched w r h)) (ranks w) = wanted_by w h c e in (touched_at w v.it h c v.passes).0

unwanted_untouched : (w : Whole) (h r : ℕ) (c : CellData) → is_one c (wanted w h) ≡ false → Among r (ranks w) → is_one c (touched w r h) ≡ false
unfolding wanted
unwanted_untouched w h r c e i = by (is_one c (touched w r h)) refl
  where
    by : (b : Bool) → is_one c (touched w r h) ≡ b → b ≡ false
    by true k = absurd (false≢true (sym e ∙ in_order-same w.keys c (flat_map (λ r. touched w r h) (ranks w)) ∙ any-flat_map (same_cell c) (λ r. touched w r h) (ranks w) ∙ any-among (λ r. is_one c (touched w r h)) r (ranks w) i k))
    by false k = refl

-- a cell that its home doesn't want has no force on it
unwanted : (w : Whole) → IsWhole w → (a : Axis) (c : CellData) → is_one c (wanted w (home w.keys c)) ≡ false → on a (node_total w.gravity w.bodies c) ≡ pos 0
unwanted w whole a c e =
    sym (node_axis w whole a c)
    ∙ total-on (part_along w a c) (λ r. pos 0) (ranks w) (λ r i. part_none w a c r (sym (one_touched w r (home w.keys c) c refl) ∙ unwanted_untouched w (home w.keys c) r c e i))
    ∙ total-zero (ranks w)

-- a wanted cell is a node, once
cell_acts : (w : Whole) (x : Pair) (c : CellData) → Acts (opening w) x → Among c (cells_of x) → times same_cell same_cell-exact c (nodes (positions_of w.bodies)) ≡ 1
cell_acts w x c t (inl e) = node_once (positions_of w.bodies) t.p c t.in_p (ap (λ d. contains d t.p) e ∙ t.on.first) (let l : x.0.level ≤ 32 = t.on.low_first in subst (λ (d : CellData). d.level ≤ 32) (sym e) l)
cell_acts w x c t (inr (inl e)) = node_once (positions_of w.bodies) t.q c t.in_q (ap (λ d. contains d t.q) e ∙ t.on.second) (let l : x.1.level ≤ 32 = t.on.low_second in subst (λ (d : CellData). d.level ≤ 32) (sym e) l)
cell_acts w x c t (inr (inr h)) = absurd h

pair_among : (z : Pair) (ys : List Pair) → list_any (same_pair z) ys ≡ true → Among z ys
pair_among z ys e = let v : Witness (same_pair z) ys = any-witness (same_pair z) ys e in subst (λ t. Among t ys) (sym ((same_pair-exact z v.it).0 v.passes)) v.«in»

pub among_flat : {X Y : Type 0} (f : X → List Y) (y : Y) (x : X) (xs : List X) → Among x xs → Among y (f x) → Among y (flat_map f xs)
among_flat f y x [] h k = absurd h
among_flat {Y = Y} f y x (z ∷ zs) (inl e) k = left (f z) (subst (λ t. Among y (f t)) e k)
  where
    left : (us : List Y) → Among y us → Among y (us ++ flat_map f zs)
    left [] h = absurd h
    left (u ∷ us) (inl h) = inl h
    left (u ∷ us) (inr h) = inr (left us h)
among_flat {Y = Y} f y x (z ∷ zs) (inr h) k = right (f z) (among_flat f y x zs h k)
  where
    right : (us : List Y) → Among y (flat_map f zs) → Among y (us ++ flat_map f zs)
    right [] h = h
    right (u ∷ us) h = inr (right us h)

counted_acts : (w : Whole) → IsWhole w → (r : ℕ) (x : Pair) → Among r (ranks w) → Among x (counted w r) → Acts (opening w) x
counted_acts w whole r x i h =
    let all : List Pair = flat_map (counted w) (ranks w) in
    let there : Among x (flat_map (counted w) (ranks w)) = among_flat (counted w) x r (ranks w) i h in
    let some : cond {A = ℕ} (same_pair x x) 1 0 ≤ sum_by (λ y. cond (same_pair y x) 1 0) (flat_map (counted w) (ranks w)) = among-le (λ y. cond (same_pair y x) 1 0) x (flat_map (counted w) (ranks w)) there in
    let e : cond {A = ℕ} (same_pair x x) 1 0 ≡ 1 = cond-true {A = ℕ} (same_pair x x) 1 0 ((same_pair-exact x x).1 refl) in
    let s : sum_by (λ y. cond (same_pair y x) 1 0) (flat_map (counted w) (ranks w)) ≡ sum_by (λ y. cond (same_pair y x) 1 0) (interactions (opening w)) = together w whole (λ y. cond (same_pair y x) 1 0) in
    acts (opening w) (sound w whole) x (pair_among x (interactions (opening w)) (any-times same_pair same_pair-exact x (interactions (opening w)) (omega (arith, some, e, s))))

record InPair (c : CellData) (xs : List Pair) : Type 0 where
  it : Pair
  «in» : Among it xs
  has : Among c (cells_of it)

in_pair : (c : CellData) (xs : List Pair) → is_one c (flat_map cells_of xs) ≡ true → InPair c xs
in_pair c xs e =
    let v : Witness (λ x. is_one c (cells_of x)) xs = any-witness (λ x. is_one c (cells_of x)) xs (sym (any-flat_map (same_cell c) cells_of xs) ∙ e) in
    record { it = v.it; «in» = v.«in»; has = one_among c (cells_of v.it) v.passes }

wanted_node : (w : Whole) → IsWhole w → (h : ℕ) (c : CellData) → is_one c (wanted w h) ≡ true → times same_cell same_cell-exact c (nodes (positions_of w.bodies)) ≡ 1
wanted_node w whole h c e =
    let v : Witness (λ r. is_one c (touched w r h)) (ranks w) = wanted_by w h c e in
    let p : InPair c (counted w v.it) = in_pair c (counted w v.it) (touched_at w v.it h c v.passes).1 in
    cell_acts w p.it c (counted_acts w whole v.it p.it v.«in» p.«in») p.has

-- ---- a sum over the wanted cells is one over the nodes

wanted_nodes : (w : Whole) → IsWhole w → (h : ℕ) (f : CellData → ℤ) → total_by f (wanted w h) ≡ total_by (λ c. cond (is_one c (wanted w h)) (f c) (pos 0)) (nodes (positions_of w.bodies))
wanted_nodes w whole h f =
    same_total same_cell same_cell-exact f (wanted w h) (filter (λ c. is_one c (wanted w h)) (nodes (positions_of w.bodies))) (λ z.
    sum_by-same (λ x. cond (same_cell x z) 1 0) (λ x. cond (same_cell z x) 1 0) (λ x. ap {B = ℕ} (λ b. cond b 1 0) (turned_cells x z)) (wanted w h)
    ∙ times_wanted w h z
    ∙ once z (is_one z (wanted w h)) refl
    ∙ sym (times-filter (λ c. is_one c (wanted w h)) z (nodes (positions_of w.bodies))))
    ∙ total-filter (λ c. is_one c (wanted w h)) f (nodes (positions_of w.bodies))
  where
    once : (z : CellData) (b : Bool) → is_one z (wanted w h) ≡ b → cond b 1 0 ≡ cond b (times same_cell same_cell-exact z (nodes (positions_of w.bodies))) 0
    once z true e = sym (wanted_node w whole h z e)
    once z false e = refl

-- over the homes: a cell is wanted at its home alone
over_homes : (w : Whole) → IsWhole w → (c : CellData) (v : ℤ) → (is_one c (wanted w (home w.keys c)) ≡ false → v ≡ pos 0) → total_by (λ h. cond (is_one c (wanted w h)) v (pos 0)) (ranks w) ≡ v
over_homes w whole c v none =
    total-same (λ h. cond (is_one c (wanted w h)) v (pos 0)) (λ h. cond (eqb h (home w.keys c)) v (pos 0)) (λ h. at h (is_one c (wanted w h)) (eqb h (home w.keys c)) refl refl) (ranks w)
    ∙ total-one_rank (home w.keys c) (ranks_of w) v (rank_of_key-in w.keys.bounds (w.keys.last c) whole.keys.some)
  where
    at : (h : ℕ) (p q : Bool) → is_one c (wanted w h) ≡ p → eqb h (home w.keys c) ≡ q → cond p v (pos 0) ≡ cond q v (pos 0)
    at h true true e f = refl
    at h false false e f = refl
    at h true false e f = absurd (false≢true (sym f ∙ eq-eqb h (home w.keys c) (sym (wanted_home w h c e))))
    at h false true e f = sym (none (ap (λ t. is_one c (wanted w t)) (sym (eqb-true h (home w.keys c) f)) ∙ e))

-- ---- what a body gets

-- its share in a cell, by the definition
abbrev due : Whole → Axis → BodyData → CellData → ℤ
due w a b c = on a (share_of (members w.bodies c) (node_total w.gravity w.bodies c) b)

abbrev due_around : Whole → Axis → BodyData → CellData → ℤ
due_around w a b c = cond (contains c b.motion.pos) (due w a b c) (pos 0)

unwanted_due : (w : Whole) → IsWhole w → (a : Axis) (b : BodyData) (c : CellData) → is_one c (wanted w (home w.keys c)) ≡ false → due_around w a b c ≡ pos 0
unwanted_due w whole a b c e = by (contains c b.motion.pos)
  where
    by : (t : Bool) → cond t (due w a b c) (pos 0) ≡ pos 0
    by true = share_axis a (members w.bodies c) (node_total w.gravity w.bodies c) b ∙ ap (λ t. share (members w.bodies c) t b) (unwanted w whole a c e) ∙ share_none (members w.bodies c) b
    by false = refl

shared_due : (w : Whole) → IsWhole w → (a : Axis) (h : ℕ) (b : BodyData) (c : CellData) → is_one c (wanted w h) ≡ true → on a (share_at w h c b) ≡ due w a b c
shared_due w whole a h b c e =
    ap (on a) (shares_alike w whole h c e (total_at w h c) b)
    ∙ ap (λ t. on a (share_of (members w.bodies c) t b)) (subst (λ t. total_at w t c ≡ node_total w.gravity w.bodies c) (wanted_home w h c e) (homes_have w whole c))

part_axis : (w : Whole) → IsWhole w → (a : Axis) (h : ℕ) (b : BodyData) → on a (part_for w h b) ≡ total_by (λ c. cond (is_one c (wanted w h)) (due_around w a b c) (pos 0)) (nodes (positions_of w.bodies))
unfolding part_for
part_axis w whole a h b =
    on_sum a (λ c. share_at w h c b) (shared_around w h b)
    ∙ total-filter (λ c. contains c b.motion.pos) (λ c. on a (share_at w h c b)) (wanted w h)
    ∙ total-on (λ c. cond (contains c b.motion.pos) (on a (share_at w h c b)) (pos 0)) (due_around w a b) (wanted w h) (λ c i. ap (λ t. cond (contains c b.motion.pos) t (pos 0)) (shared_due w whole a h b c (among_one c (wanted w h) i)))
    ∙ wanted_nodes w whole h (due_around w a b)

-- over the homes: the force
all_parts : (w : Whole) → IsWhole w → (a : Axis) (b : BodyData) → Among b w.bodies → total_by (λ h. on a (part_for w h b)) (ranks w) ≡ on a (force_at w.gravity w.bodies b)
unfolding force_at
all_parts w whole a b i =
    let ps : List Position = positions_of w.bodies in
    total-same (λ h. on a (part_for w h b)) (λ h. total_by (λ c. cond (is_one c (wanted w h)) (due_around w a b c) (pos 0)) (nodes (positions_of w.bodies))) (λ h. part_axis w whole a h b) (ranks w)
    ∙ total-exchange (λ h c. cond (is_one c (wanted w h)) (due_around w a b c) (pos 0)) (ranks w) (nodes (positions_of w.bodies))
    ∙ total-same (λ c. total_by (λ h. cond (is_one c (wanted w h)) (due_around w a b c) (pos 0)) (ranks w)) (due_around w a b) (λ c. over_homes w whole c (due_around w a b c) (unwanted_due w whole a b c)) (nodes (positions_of w.bodies))
    ∙ sym (over_nodes (positions_of w.bodies) b.motion.pos (among-map (λ (d : BodyData). d.motion.pos) b w.bodies i) (due w a b))
    ∙ sym (total_around (due w a b) b.motion.pos)
    ∙ sym (on_sum a (λ c. share_of (members w.bodies c) (node_total w.gravity w.bodies c) b) (cells_around b.motion.pos))

-- ---- what stands at the id of a body

later_none : (b : BodyData) (t : BodyData → ℤ) (ms : List BodyData) → AllByRecursion (λ k. b.id < k.id) ms → total_by (λ m. cond (eqb b.id m.id) (t m) (pos 0)) ms ≡ pos 0
later_none b t [] a = refl
later_none b t (m ∷ ms) a =
    let l : b.id < m.id = a.0 in
    let u : cond (eqb b.id m.id) (t m) (pos 0) ≡ pos 0 = ap (λ p. cond p (t m) (pos 0)) (ne_eqb b.id m.id (λ e. omega (arith, l, e))) in
    let r : total_by (λ m. cond (eqb b.id m.id) (t m) (pos 0)) ms ≡ pos 0 = later_none b t ms a.1 in
    omega (arith, ints, u, r)

by_id : (b : BodyData) (t : BodyData → ℤ) (ms : List BodyData) → Ascending ms → Among b ms → total_by (λ m. cond (eqb b.id m.id) (t m) (pos 0)) ms ≡ t b
by_id b t [] a h = absurd h
by_id b t (m ∷ ms) a (inl e) =
    let l : AllByRecursion (λ k. b.id < k.id) ms = subst (λ (d : BodyData). AllByRecursion (λ k. d.id < k.id) ms) (sym e) a.0 in
    let u : cond (eqb b.id m.id) (t m) (pos 0) ≡ t b = ap (λ p. cond p (t m) (pos 0)) (eq-eqb b.id m.id (ap (λ (d : BodyData). d.id) e)) ∙ ap t (sym e) in
    let r : total_by (λ m. cond (eqb b.id m.id) (t m) (pos 0)) ms ≡ pos 0 = later_none b t ms l in
    omega (arith, ints, u, r)
by_id b t (m ∷ ms) a (inr h) =
    let l : m.id < b.id = each-among (λ k. m.id < k.id) b ms a.0 h in
    let u : cond (eqb b.id m.id) (t m) (pos 0) ≡ pos 0 = ap (λ p. cond p (t m) (pos 0)) (ne_eqb b.id m.id (λ e. omega (arith, l, e))) in
    let r : total_by (λ m. cond (eqb b.id m.id) (t m) (pos 0)) ms ≡ t b = by_id b t ms a.1 h in
    omega (arith, ints, u, r)

swap_tests : (p q r : Bool) (v : ℤ) → cond p (cond q (cond r v (pos 0)) (pos 0)) (pos 0) ≡ cond r (cond p (cond q v (pos 0)) (pos 0)) (pos 0)
swap_tests true true true v = refl
swap_tests true true false v = refl
swap_tests true false true v = refl
swap_tests true false false v = refl
swap_tests false q true v = refl
swap_tests false q false v = refl

abbrev has_part : Whole → ℕ → BodyData → Bool
has_part w h m = list_any (λ c. contains c m.motion.pos) (wanted w h)

none_left : {X : Type 0} (t : X → Bool) (xs : List X) → list_any t xs ≡ false → filter t xs ≡ []
none_left t [] e = refl
none_left t (x ∷ xs) e = by (t x) e (none_left t xs)
  where
    by : (p : Bool) → (p || list_any t xs) ≡ false → (list_any t xs ≡ false → filter t xs ≡ []) → cond p (x ∷ filter t xs) (filter t xs) ≡ []
    by true h rest = cc
    by false h rest = rest h

no_part : (w : Whole) (a : Axis) (h : ℕ) (b : BodyData) → has_part w h b ≡ false → on a (part_for w h b) ≡ pos 0
unfolding part_for
no_part w a h b e = on_sum a (λ c. share_at w h c b) (shared_around w h b) ∙ ap (total_by (λ c. on a (share_at w h c b))) (none_left (λ c. contains c b.motion.pos) (wanted w h) e)

given_axis : (w : Whole) → IsWhole w → (a : Axis) (h : ℕ) (b : BodyData) → Among b w.bodies → on a (given_to b.id (parts_sent w h (w.owner b.id))) ≡ on a (part_for w h b)
given_axis w whole a h b i =
    let mine : BodyData → Bool = λ m. eqb (w.owner m.id) (w.owner b.id) in
    on_sum a (λ (e : Given). e.sum) (filter (λ (e : Given). eqb b.id e.id) (parts_sent w h (w.owner b.id)))
    ∙ total-filter (λ (e : Given). eqb b.id e.id) (λ (e : Given). on a e.sum) (parts_sent w h (w.owner b.id))
    ∙ total-mapped (λ (e : Given). cond (eqb b.id e.id) (on a e.sum) (pos 0)) (λ (m : BodyData). record { id = m.id; sum = part_for w h m }) (filter (has_part w h) (own w (w.owner b.id)))
    ∙ total-filter (has_part w h) (λ m. cond (eqb b.id m.id) (on a (part_for w h m)) (pos 0)) (own w (w.owner b.id))
    ∙ total-filter (λ (m : BodyData). eqb (w.owner m.id) (w.owner b.id)) (λ m. cond (has_part w h m) (cond (eqb b.id m.id) (on a (part_for w h m)) (pos 0)) (pos 0)) w.bodies
    ∙ total-same (λ m. cond (eqb (w.owner m.id) (w.owner b.id)) (cond (has_part w h m) (cond (eqb b.id m.id) (on a (part_for w h m)) (pos 0)) (pos 0)) (pos 0))
    (λ m. cond (eqb b.id m.id) (cond (eqb (w.owner m.id) (w.owner b.id)) (cond (has_part w h m) (on a (part_for w h m)) (pos 0)) (pos 0)) (pos 0))
    (λ m. swap_tests (eqb (w.owner m.id) (w.owner b.id)) (has_part w h m) (eqb b.id m.id) (on a (part_for w h m))) w.bodies
    ∙ by_id b (λ m. cond (eqb (w.owner m.id) (w.owner b.id)) (cond (has_part w h m) (on a (part_for w h m)) (pos 0)) (pos 0)) w.bodies (ascending-from w.bodies whole.bodies.valid.ascending) i
    ∙ ap (λ t. cond t (cond (has_part w h b) (on a (part_for w h b)) (pos 0)) (pos 0)) (eq-eqb (w.owner b.id) (w.owner b.id) refl)
    ∙ last (has_part w h b) refl
  where
    last : (p : Bool) → has_part w h b ≡ p → cond p (on a (part_for w h b)) (pos 0) ≡ on a (part_for w h b)
    last true e = refl
    last false e = sym (no_part w a h b e)

pub gathered_is : (w : Whole) → IsWhole w → (b : BodyData) → Among b w.bodies → gathered w b ≡ force_at w.gravity w.bodies b
unfolding gathered
gathered_is w whole b i = on_each (gathered w b) (force_at w.gravity w.bodies b) (λ a.
    on_sum a (λ h. given_to b.id (parts_sent w h (w.owner b.id))) (ranks w)
    ∙ total-same (λ h. on a (given_to b.id (parts_sent w h (w.owner b.id)))) (λ h. on a (part_for w h b)) (λ h. given_axis w whole a h b i) (ranks w)
    ∙ all_parts w whole a b i)

pub map_on : {X Y : Type 0} (f g : X → Y) (xs : List X) → ((x : X) → Among x xs → f x ≡ g x) → map f xs ≡ map g xs
map_on f g [] e = refl
map_on f g (x ∷ xs) e = ap (λ t. t ∷ map f xs) (e x (inl refl)) ∙ ap (λ t. g x ∷ t) (map_on f g xs (λ y h. e y (inr h)))

pub forces_gathered : (w : Whole) → IsWhole w → map (gathered w) w.bodies ≡ forces w.gravity w.bodies
unfolding forces
forces_gathered w whole = map_on (gathered w) (force_at w.gravity w.bodies) w.bodies (λ b i. gathered_is w whole b i)
