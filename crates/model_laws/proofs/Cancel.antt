-- The forces of all bodies add up to zero.
use Rattle.std.proofs.Common.{◌≡◌, ◌<◌, ◌≤◌, Bool, true, false, cond, List, [], ◌∷◌, map, refl, ap, sym, subst, ◌∙◌, arith, ◌⊎◌, inl, inr, ℤ, pos, ◌+ℤ◌, neg_ℤ}
use Rattle.std.specs.List.{filter, AllByRecursion}
use Rattle.std.proofs.lemmas.Int.{ints}
use Rattle.std.proofs.lemmas.Bool.{false≢true, or_cases}
use Rattle.fixed_point.specs.declared.V3.{V3}
use Rattle.fixed_point.specs.Vectors.{origin, negative, sum_of}
use Rattle.cell_space.specs.Cells.{Position, CellData, contains, same_cell, same_place, before}
use Rattle.cell_space.proofs.Cells.{same_cell-exact}
use Rattle.nbody_model.specs.Bodies.{BodyData}
use Rattle.nbody_model.specs.Tables.{Gravity}
use Rattle.nbody_model.specs.Nodes.{members, positions_of}
use Rattle.nbody_model.specs.Moments.{mass_of}
use Rattle.nbody_model.specs.Covers.{Opening, orient, same_pair, cover, interactions, over_two, opening_of}
use Rattle.nbody_model.specs.Force.{pair_force, force_on, node_total, share, share_of, force_at, forces, cells_around}
use Rattle.model_laws.specs.Laws.{IsSound, AreBodies}
use Rattle.model_laws.proofs.Among.{Among, Witness, each-among, among-le, among-filter}
use Rattle.model_laws.proofs.Signed.{total_by, totals_by, total-mapped, total-same, total-on, total-zero, total-plus, total-exchange, total-once, sum_of-totals}
use Rattle.model_laws.proofs.Counts.{times, among-distinct}
use Rattle.model_laws.proofs.Turned.{same_pair-exact}
use Rattle.model_laws.proofs.ChainFacts.{IsOnChain}
use Rattle.model_laws.proofs.Once.{OfTwo, among-two}
use Rattle.model_laws.proofs.Walk.{cover-on, box_of}
use Rattle.model_laws.proofs.Levels.{ancestors, nodes, node_once, node_member, shares_are_totals, total_around}
use Rattle.model_laws.proofs.Shares.{shares, ascending-from, ascending-filter}
use Rattle.model_laws.proofs.Fair.{opening_sound}

-- an interaction: two different cells, each a node once
record IsLink (ps : List Position) (x : CellData × CellData) : Type 0 where
  differ : x.0 ≡ x.1 → ⊥
  first : times same_cell same_cell-exact x.0 (nodes ps) ≡ 1
  second : times same_cell same_cell-exact x.1 (nodes ps) ≡ 1

turn_link : (ps : List Position) (y : CellData × CellData) (b : Bool) → IsLink ps y → IsLink ps (cond b (y.1, y.0) y)
turn_link ps y true l = record { differ = λ e. l.differ (sym e); first = l.second; second = l.first }
turn_link ps y false l = l

cover_link : (o : Opening) → IsSound o → (p q : Position) → Among p o.positions → Among q o.positions → same_place p q ≡ false → IsLink o.positions (cover o p q)
cover_link o s p q in_p in_q differ =
    let c : IsOnChain p q (cover o p q) = cover-on o p q (box_of o s p in_p) (box_of o s q in_q) differ in
    record {
      differ = λ e. c.apart p c.first (ap (λ t. contains t p) (sym e) ∙ c.first);
      first = node_once o.positions p (cover o p q).0 in_p c.first c.low_first;
      second = node_once o.positions q (cover o p q).1 in_q c.second c.low_second;
    }

-- an interaction is a turned cover
pub record CoverOf (o : Opening) (z : CellData × CellData) : Type 0 where
  pub p : Position
  pub q : Position
  pub in_p : Among p o.positions
  pub in_q : Among q o.positions
  pub differ : same_place p q ≡ false
  pub is : z ≡ orient (cover o p q)

pub interaction-cover : (o : Opening) (z : CellData × CellData) → Among z (interactions o) → CoverOf o z
unfolding interactions
interaction-cover o z h =
    let f : Position → Position → List (CellData × CellData) = λ p q. orient (cover o p q) ∷ [] in
    let t : OfTwo f z o.positions = among-two f z o.positions (among-distinct same_pair same_pair-exact z (over_two f o.positions) h) in
    record { p = t.p; q = t.q; in_p = t.in_p; in_q = t.in_q; differ = t.differ; is = one (orient (cover o t.p t.q)) (or_cases (same_pair z (orient (cover o t.p t.q))) false t.listed) }
  where
    one : (y : CellData × CellData) → (same_pair z y ≡ true) ⊎ (false ≡ true) → z ≡ y
    one y (inl e) = (same_pair-exact z y).0 e
    one y (inr e) = absurd (false≢true e)

link : (o : Opening) → IsSound o → (x : CellData × CellData) → Among x (interactions o) → IsLink o.positions x
link o s x h =
    let c : CoverOf o x = interaction-cover o x h in
    let y : CellData × CellData = cover o c.p c.q in
    subst (IsLink o.positions) (sym c.is) (turn_link o.positions y (before y.1 y.0) (cover_link o s c.p c.q c.in_p c.in_q c.differ))

-- what a pair does to a cell, on one axis
abbrev acts : (CellData × CellData → ℤ) → CellData → CellData × CellData → ℤ
acts f c x = cond (same_cell c x.0) (f x) (cond (same_cell c x.1) (neg_ℤ (f x)) (pos 0))

split_force : (c a b : CellData) (u v : ℤ) → (a ≡ b → ⊥) → cond (same_cell c a) u (cond (same_cell c b) v (pos 0)) ≡ cond (same_cell c a) u (pos 0) +ℤ cond (same_cell c b) v (pos 0)
split_force c a b u v differ = go (same_cell c a) (same_cell c b) refl refl
  where
    go : (x y : Bool) → same_cell c a ≡ x → same_cell c b ≡ y → cond x u (cond y v (pos 0)) ≡ cond x u (pos 0) +ℤ cond y v (pos 0)
    go true true e h = absurd (differ (sym ((same_cell-exact c a).0 e) ∙ (same_cell-exact c b).0 h))
    go true false e h = omega (arith, ints)
    go false y e h = omega (arith, ints)

link_zero : (ps : List Position) (f : CellData × CellData → ℤ) (x : CellData × CellData) → IsLink ps x → total_by (λ c. acts f c x) (nodes ps) ≡ pos 0
link_zero ps f x l =
    total-same (λ c. acts f c x) (λ c. cond (same_cell c x.0) (f x) (pos 0) +ℤ cond (same_cell c x.1) (neg_ℤ (f x)) (pos 0)) (λ c. split_force c x.0 x.1 (f x) (neg_ℤ (f x)) l.differ) (nodes ps)
    ∙ total-plus (λ c. cond (same_cell c x.0) (f x) (pos 0)) (λ c. cond (same_cell c x.1) (neg_ℤ (f x)) (pos 0)) (nodes ps)
    ∙ omega (arith, ints, total-once (λ c. same_cell c x.0) (f x) (nodes ps) l.first, total-once (λ c. same_cell c x.1) (neg_ℤ (f x)) (nodes ps) l.second)

-- the totals of all nodes add up to zero
pub totals_cancel : (o : Opening) → IsSound o → (f : CellData × CellData → ℤ) → total_by (λ c. total_by (λ x. acts f c x) (interactions o)) (nodes o.positions) ≡ pos 0
totals_cancel o s f =
    total-exchange (λ c x. acts f c x) (nodes o.positions) (interactions o)
    ∙ total-on (λ x. total_by (λ c. acts f c x) (nodes o.positions)) (λ x. pos 0) (interactions o) (λ x h. link_zero o.positions f x (link o s x h))
    ∙ total-zero (interactions o)

-- ---- with the bodies

pick_axis : (get : V3 → ℤ) (a b : Bool) (u v w : V3) → get (cond a u (cond b v w)) ≡ cond a (get u) (cond b (get v) (get w))
pick_axis get true b u v w = refl
pick_axis get false true u v w = refl
pick_axis get false false u v w = refl

acts_axis : (get : V3 → ℤ) → get origin ≡ pos 0 → ((v : V3) → get (negative v) ≡ neg_ℤ (get v)) → (f : CellData × CellData → V3) (c : CellData) (x : CellData × CellData) → get (force_on f c x) ≡ acts (λ y. get (f y)) c x
unfolding force_on
acts_axis get none turned f c x =
    pick_axis get (same_cell c x.0) (same_cell c x.1) (f x) (negative (f x)) origin
    ∙ ap (λ t. cond (same_cell c x.0) (get (f x)) (cond (same_cell c x.1) t (get origin))) (turned (f x))
    ∙ ap (λ t. cond (same_cell c x.0) (get (f x)) (cond (same_cell c x.1) (neg_ℤ (get (f x))) t)) none

-- a node's total, axis by axis
pub node_totals : (g : Gravity) (B : List BodyData) (c : CellData) → node_total g B c ≡ totals_by (force_on (pair_force g B) c) (interactions (opening_of g.setup B))
unfolding node_total
node_totals g B c = sum_of-totals (force_on (pair_force g B) c) (interactions (opening_of g.setup B))

-- a node has mass
pub heavy_filter : (t : BodyData → Bool) (ms : List BodyData) (m : BodyData) → AllByRecursion (λ b. 1 ≤ b.mass) ms → Among m ms → t m ≡ true → 0 < mass_of (filter t ms)
heavy_filter t ms m a h e = omega (arith, each-among (λ b. 1 ≤ b.mass) m ms a h, among-le (λ b. b.mass) m (filter t ms) (among-filter t m ms h e))

pub record BodyAt (p : Position) (B : List BodyData) : Type 0 where
  pub it : BodyData
  pub «in» : Among it B
  pub at : it.motion.pos ≡ p

pub body_at : (p : Position) (B : List BodyData) → Among p (positions_of B) → BodyAt p B
body_at p [] h = absurd h
body_at p (b ∷ bs) (inl e) = record { it = b; «in» = inl refl; at = sym e }
body_at p (b ∷ bs) (inr h) = let r : BodyAt p bs = body_at p bs h in record { it = r.it; «in» = inr r.«in»; at = r.at }

pub node_heavy : (B : List BodyData) → AllByRecursion (λ b. 1 ≤ b.mass) B → (c : CellData) → Among c (nodes (positions_of B)) → 0 < mass_of (members B c)
node_heavy B a c h =
    let w : Witness (contains c) (positions_of B) = node_member (positions_of B) c h in
    let b : BodyAt w.it B = body_at w.it B w.«in» in
    heavy_filter (λ b. contains c b.motion.pos) B b.it a b.«in» (ap (contains c) b.at ∙ w.passes)

-- on one axis: the bodies' shares add up to the sum of the totals of all nodes
axis_cancels : (get : V3 → ℤ) → get origin ≡ pos 0 → ((v : V3) → get (negative v) ≡ neg_ℤ (get v)) → (g : Gravity) (B : List BodyData) → AreBodies B → (total : CellData → ℤ) →
    ((c : CellData) → total c ≡ total_by (λ x. get (force_on (pair_force g B) c x)) (interactions (opening_of g.setup B))) →
    total_by (λ b. total_by (λ c. share (members B c) (total c) b) (ancestors b.motion.pos)) B ≡ pos 0
axis_cancels get none turned g B a total is =
    let o : Opening = opening_of g.setup B in
    let s : IsSound o = opening_sound g.setup B a.in_box in
    shares_are_totals (positions_of B) B (λ b. b.motion.pos) refl (λ c b. share (members B c) (total c) b) total
    (λ c h. shares (members B c) (total c) (node_heavy B a.heavy c h) (ascending-filter (λ b. contains c b.motion.pos) B (ascending-from B a.valid.ascending)))
    ∙ total-same total (λ c. total_by (λ x. acts (λ y. get (pair_force g B y)) c x) (interactions o))
    (λ c. is c ∙ total-same (λ x. get (force_on (pair_force g B) c x)) (λ x. acts (λ y. get (pair_force g B y)) c x) (acts_axis get none turned (pair_force g B) c) (interactions o)) (nodes (positions_of B))
    ∙ totals_cancel o s (λ y. get (pair_force g B y))

force_totals : (g : Gravity) (B : List BodyData) (b : BodyData) → force_at g B b ≡ totals_by (λ c. share_of (members B c) (node_total g B c) b) (cells_around b.motion.pos)
unfolding force_at
force_totals g B b = sum_of-totals (λ c. share_of (members B c) (node_total g B c) b) (cells_around b.motion.pos)

sum_axis : (get : V3 → ℤ) (g : Gravity) (B : List BodyData) (share_axis : CellData → BodyData → ℤ) → ((b : BodyData) → get (force_at g B b) ≡ total_by (λ c. share_axis c b) (cells_around b.motion.pos)) →
    total_by get (map (force_at g B) B) ≡ total_by (λ b. total_by (λ c. share_axis c b) (ancestors b.motion.pos)) B
sum_axis get g B share_axis e =
    total-mapped get (force_at g B) B
    ∙ total-same (λ b. get (force_at g B b)) (λ b. total_by (λ c. share_axis c b) (ancestors b.motion.pos)) (λ b. e b ∙ total_around (λ c. share_axis c b) b.motion.pos) B

-- the forces of all bodies add up to zero
pub forces_cancel : (g : Gravity) (B : List BodyData) → AreBodies B → sum_of (λ f. f) (forces g B) ≡ origin
unfolding forces
forces_cancel g B a =
    let x : total_by (λ f. f.x) (map (force_at g B) B) ≡ pos 0 =
    sum_axis (λ v. v.x) g B (λ c b. share (members B c) (node_total g B c).x b) (λ b. ap (λ v. v.x) (force_totals g B b))
    ∙ axis_cancels (λ v. v.x) refl (λ v. refl) g B a (λ c. (node_total g B c).x) (λ c. ap (λ v. v.x) (node_totals g B c)) in
    let y : total_by (λ f. f.y) (map (force_at g B) B) ≡ pos 0 =
    sum_axis (λ v. v.y) g B (λ c b. share (members B c) (node_total g B c).y b) (λ b. ap (λ v. v.y) (force_totals g B b))
    ∙ axis_cancels (λ v. v.y) refl (λ v. refl) g B a (λ c. (node_total g B c).y) (λ c. ap (λ v. v.y) (node_totals g B c)) in
    let z : total_by (λ f. f.z) (map (force_at g B) B) ≡ pos 0 =
    sum_axis (λ v. v.z) g B (λ c b. share (members B c) (node_total g B c).z b) (λ b. ap (λ v. v.z) (force_totals g B b))
    ∙ axis_cancels (λ v. v.z) refl (λ v. refl) g B a (λ c. (node_total g B c).z) (λ c. ap (λ v. v.z) (node_totals g B c)) in
    sum_of-totals (λ f. f) (map (force_at g B) B) ∙ (λ i. record { x = x i; y = y i; z = z i })
