-- Sums over interactions as sums over bodies: each interaction is taken at the first members of its cells.
use Rattle.std.proofs.Common.{◌≡◌, ℕ, ◌<◌, Bool, true, false, cond, eqb, ◌&&◌, ◌||◌, List, [], ◌∷◌, sum_by, refl, ap, sym, subst, ◌∙◌, arith, ◌⊎◌, inl, inr, ℤ, pos}
use Rattle.std.specs.Prelude.{not, IsTrue}
use Rattle.std.specs.List.{count_by, AllByRecursion}
use Rattle.std.proofs.lemmas.List.Sums.{sum_by-cons}
use Rattle.std.proofs.lemmas.Bool.{and_parts, and_from, or_left, cond-true, cond-false, false≢true, eqb-true, eq-eqb, ne_eqb}
use Rattle.fixed_point.specs.declared.V3.{V3}
use Rattle.fixed_point.specs.Vectors.{origin, negative, sum_of}
use Rattle.cell_space.specs.Cells.{Position, CellData, contains, same_cell, same_place, before}
use Rattle.cell_space.proofs.Cells.{same_cell-exact, same_place-exact, both_equal}
use Rattle.nbody_model.specs.Bodies.{BodyData}
use Rattle.nbody_model.specs.Tables.{Gravity}
use Rattle.nbody_model.specs.Nodes.{members, positions_of}
use Rattle.nbody_model.specs.Covers.{Opening, opening_of, orient, same_pair, cover, interactions}
use Rattle.nbody_model.specs.Force.{pair_force, force_on, node_total}
use Rattle.model_laws.specs.Laws.{IsSound, AreBodies, has_cell, partner, parts_two}
use Rattle.model_laws.specs.Firsts.{leads, is_first, part_of_total, stands_for, NodeTotalsByBodies, InteractionsByBodies}
use Rattle.model_laws.proofs.Among.{Among, Witness, each-among, any-witness, among-filter, among-kept, among-map}
use Rattle.model_laws.proofs.Signed.{total_by, total-same, total-on, total-zero, total-exchange, total-once, total-nowhere, sum_of-totals}
use Rattle.model_laws.proofs.Sums.{sum_by-zero, sum_by-same}
use Rattle.model_laws.proofs.Exchange.{sum-exchange}
use Rattle.model_laws.proofs.Ranks.{sum_by-on}
use Rattle.model_laws.proofs.Counts.{times}
use Rattle.model_laws.proofs.Turned.{same_pair-exact, orient-either}
use Rattle.model_laws.proofs.ChainFacts.{IsOnChain}
use Rattle.model_laws.proofs.Walk.{box_of, cover-on}
use Rattle.model_laws.proofs.Shares.{Ascending, ascending-from}
use Rattle.model_laws.proofs.Cancel.{BodyAt, body_at, node_totals}
use Rattle.model_laws.proofs.Fair.{opening_sound}
use Rattle.model_laws.proofs.Once.{no_case}
use Rattle.model_laws.proofs.Pairs.{all_among}
use Rattle.model_laws.proofs.Partners.{Acts, Partnered, acts, partnered, cover_once, cover_there, parts_orient, one_parts, ones}

-- ---- the first member of a cell

-- the ids of bodies that ascend are different
same_id : (B : List BodyData) → Ascending B → (m j : BodyData) → Among m B → Among j B → m.id ≡ j.id → m ≡ j
same_id [] a m j h k e = absurd h
same_id (b ∷ B) a m j (inl h) (inl k) e = h ∙ sym k
same_id (b ∷ B) a m j (inl h) (inr k) e = let l : b.id < j.id = each-among (λ k. b.id < k.id) j B a.0 k in absurd (omega (arith, l, e, ap (λ t. t.id) h))
same_id (b ∷ B) a m j (inr h) (inl k) e = let l : b.id < m.id = each-among (λ k. b.id < k.id) m B a.0 h in absurd (omega (arith, l, e, ap (λ t. t.id) k))
same_id (b ∷ B) a m j (inr h) (inr k) e = same_id B a.1 m j h k e

later_ids : (m : BodyData) (B : List BodyData) → AllByRecursion (λ k. m.id < k.id) B → sum_by (λ j. cond (eqb m.id j.id) 1 0) B ≡ 0
later_ids m [] a = refl
later_ids m (b ∷ B) a = omega (arith, sum_by-cons (λ j. cond (eqb m.id j.id) 1 0) b B, cond-false {A = ℕ} (eqb m.id b.id) 1 0 (ne_eqb m.id b.id (λ e. omega (arith, a.0))), later_ids m B a.1)

id_once : (m : BodyData) (B : List BodyData) → Ascending B → Among m B → sum_by (λ j. cond (eqb m.id j.id) 1 0) B ≡ 1
id_once m [] a h = absurd h
id_once m (b ∷ B) a (inl e) =
    omega (
      arith,
      sum_by-cons (λ j. cond (eqb m.id j.id) 1 0) b B,
      cond-true {A = ℕ} (eqb m.id b.id) 1 0 (eq-eqb m.id b.id (ap (λ t. t.id) e)),
      later_ids m B (subst (λ t. AllByRecursion (λ k. t.id < k.id) B) (sym e) a.0),
    )
id_once m (b ∷ B) a (inr h) =
    let l : b.id < m.id = each-among (λ k. b.id < k.id) m B a.0 h in
    omega (arith, sum_by-cons (λ j. cond (eqb m.id j.id) 1 0) b B, cond-false {A = ℕ} (eqb m.id b.id) 1 0 (ne_eqb m.id b.id (λ e. omega (arith, l, e))), id_once m B a.1 h)

-- the first member of a cell lies in it
inside_step : (B : List BodyData) → Ascending B → (d : CellData) (j : BodyData) → Among j B → (ms : List BodyData) → members B d ≡ ms → leads ms j ≡ true → contains d j.motion.pos ≡ true
inside_step B a d j h [] e k = absurd (false≢true k)
inside_step B a d j h (m ∷ ms) e k =
    let there : Among m (members B d) = subst (Among m) (sym e) (inl refl) in
    let kept : Among m B × (contains d m.motion.pos ≡ true) = among-kept (λ b. contains d b.motion.pos) m B there in
    ap (λ t. contains d t.motion.pos) (sym (same_id B a m j kept.0 h (eqb-true m.id j.id k))) ∙ kept.1

first_inside : (B : List BodyData) → Ascending B → (d : CellData) (j : BodyData) → Among j B → is_first B d j ≡ true → contains d j.motion.pos ≡ true
first_inside B a d j h k = inside_step B a d j h (members B d) refl k

-- a cell with a body has one first member
one_step : (B : List BodyData) → Ascending B → (d : CellData) (b : BodyData) → Among b (members B d) → (ms : List BodyData) → members B d ≡ ms → sum_by (λ j. cond (leads ms j) 1 0) B ≡ 1
one_step B a d b h [] e = absurd (subst (Among b) e h)
one_step B a d b h (m ∷ ms) e = id_once m B a (among-kept (λ b. contains d b.motion.pos) m B (subst (Among m) (sym e) (inl refl))).0

one_first : (B : List BodyData) → Ascending B → (d : CellData) (p : Position) → Among p (positions_of B) → contains d p ≡ true → sum_by (λ j. cond (is_first B d j) 1 0) B ≡ 1
one_first B a d p h k =
    let b : BodyAt p B = body_at p B h in
    one_step B a d b.it (among-filter (λ b. contains d b.motion.pos) b.it B b.«in» (ap (contains d) b.at ∙ k)) (members B d) refl

pub position_among : (b : BodyData) (B : List BodyData) → Among b B → Among b.motion.pos (positions_of B)
position_among b B h = among-map (λ b. b.motion.pos) b B h

-- ---- the total of a cell

-- x acts on the cell c, and j is the first in its other cell
abbrev acts_by : List BodyData → CellData → BodyData → CellData × CellData → Bool
acts_by B c j x = has_cell c x && is_first B (partner c x) j

spread : (B : List BodyData) → Ascending B → (o : Opening) → o.positions ≡ positions_of B → IsSound o → (c : CellData) (F : CellData × CellData → ℤ) → ((x : CellData × CellData) → has_cell c x ≡ false → F x ≡ pos 0) →
    (x : CellData × CellData) → Among x (interactions o) → (b : Bool) → has_cell c x ≡ b → F x ≡ total_by (λ j. cond (acts_by B c j x) (F x) (pos 0)) B
spread B a o e s c F none x h true k =
    let q : Partnered o c (partner c x) x = partnered o s c x h k in
    sym (total-once (λ j. acts_by B c j x) (F x) B
    (ap (λ t. sum_by (λ j. cond (t && is_first B (partner c x) j) 1 0) B) k ∙ one_first B a (partner c x) q.j (subst (Among q.j) e q.in_j) q.other))
spread B a o e s c F none x h false k = none x k ∙ sym (total-nowhere (λ j. acts_by B c j x) (F x) B (ap (λ t. sum_by (λ j. cond (t && is_first B (partner c x) j) 1 0) B) k ∙ sum_by-zero {X = BodyData} (λ j. 0) (λ j. refl) B))

-- the cover of two bodies, turned, is an interaction that parts them
record Covered (o : Opening) (p q : Position) : Type 0 where
  among : Among (orient (cover o p q)) (interactions o)
  parted : parts_two p q (orient (cover o p q)) ≡ true

covered : (o : Opening) → IsSound o → (p q : Position) → Among p o.positions → Among q o.positions → same_place p q ≡ false → Covered o p q
covered o s p q in_p in_q d =
    let y : CellData × CellData = orient (cover o p q) in
    let on : IsOnChain p q (cover o p q) = cover-on o p q (box_of o s p in_p) (box_of o s q in_q) d in
    let w : Witness (same_pair y) (interactions o) = any-witness (same_pair y) (interactions o) (cover_there o p q in_p in_q d) in
    record {
      among = subst (λ t. Among t (interactions o)) (sym ((same_pair-exact y w.it).0 w.passes)) w.«in»;
      parted = parts_orient p q (cover o p q) ∙ or_left (contains (cover o p q).0 p && contains (cover o p q).1 q) (contains (cover o p q).0 q && contains (cover o p q).1 p) (and_from (contains (cover o p q).0 p) (contains (cover o p q).1 q) on.first on.second);
    }

-- what a body with the position q stands for, in the total of a cell c with the position p
abbrev stood_for : List BodyData → Opening → CellData → Position → BodyData → (CellData × CellData → ℤ) → ℤ
stood_for B o c p j F =
    let x = cover o p j.motion.pos in
    cond (same_place p j.motion.pos) (pos 0) (cond (same_cell x.0 c && is_first B x.1 j) (F (orient x)) (pos 0))

acts_parts : (B : List BodyData) → Ascending B → (o : Opening) → IsSound o → (c : CellData) (p : Position) → contains c p ≡ true → (j : BodyData) → Among j B → (x : CellData × CellData) → Among x (interactions o) → acts_by B c j x ≡ true →
    (contains (partner c x) j.motion.pos ≡ true) × (parts_two p j.motion.pos x ≡ true)
acts_parts B a o s c p h j k x l e =
    let u : (has_cell c x ≡ true) × (is_first B (partner c x) j ≡ true) = and_parts (has_cell c x) (is_first B (partner c x) j) e in
    let q : Partnered o c (partner c x) x = partnered o s c x l u.0 in
    let v : contains (partner c x) j.motion.pos ≡ true = first_inside B a (partner c x) j k u.1 in
    (v, q.splits p j.motion.pos h v)

-- at one place nothing acts
still : (B : List BodyData) → Ascending B → (o : Opening) → IsSound o → (c : CellData) (p : Position) → contains c p ≡ true → (j : BodyData) → Among j B → p ≡ j.motion.pos → (x : CellData × CellData) → Among x (interactions o) → acts_by B c j x ≡ false
still B a o s c p h j k e x l = no_case (acts_by B c j x) (λ u.
    let v : (contains (partner c x) j.motion.pos ≡ true) × (parts_two p j.motion.pos x ≡ true) = acts_parts B a o s c p h j k x l u in
    let w : (has_cell c x ≡ true) × (is_first B (partner c x) j ≡ true) = and_parts (has_cell c x) (is_first B (partner c x) j) u in
    (partnered o s c x l w.0).apart j.motion.pos (ap (contains c) (sym e) ∙ h) v.0)

-- at different places the cover alone may act
alone : (B : List BodyData) → Ascending B → (o : Opening) → IsSound o → (c : CellData) (p : Position) → contains c p ≡ true → Among p o.positions → (j : BodyData) → Among j B → Among j.motion.pos o.positions →
    (y : CellData × CellData) → Among y (interactions o) → parts_two p j.motion.pos y ≡ true → (F : CellData × CellData → ℤ) → (x : CellData × CellData) → Among x (interactions o) → (b : Bool) → same_pair x y ≡ b →
    cond (acts_by B c j x) (F x) (pos 0) ≡ cond b (cond (acts_by B c j y) (F y) (pos 0)) (pos 0)
alone B a o s c p h in_p j k in_q y in_y parted F x l true e = ap (λ z. cond (acts_by B c j z) (F z) (pos 0)) ((same_pair-exact x y).0 e)
alone B a o s c p h in_p j k in_q y in_y parted F x l false e =
    ap (λ t. cond t (F x) (pos 0)) (no_case (acts_by B c j x) (λ u. false≢true (sym e ∙ (same_pair-exact x y).1 (one_parts o s p j.motion.pos in_p in_q x y l in_y (acts_parts B a o s c p h j k x l u).1 parted))))

-- which of the cells of a cover is c, and in which j is the first
at_cover : (B : List BodyData) → Ascending B → (c : CellData) (p : Position) → contains c p ≡ true → (j : BodyData) → Among j B → (x y : CellData × CellData) → IsOnChain p j.motion.pos x → (y ≡ (x.1, x.0)) ⊎ (y ≡ x) → acts_by B c j y ≡ (same_cell x.0 c && is_first B x.1 j)
at_cover B a c p h j k x y on (inl e) = ap (acts_by B c j) e ∙ both_equal (acts_by B c j (x.1, x.0)) (same_cell x.0 c && is_first B x.1 j)
    (λ u. let v : (has_cell c (x.1, x.0) ≡ true) × (is_first B (partner c (x.1, x.0)) j ≡ true) = and_parts (has_cell c (x.1, x.0)) (is_first B (partner c (x.1, x.0)) j) u in there (same_cell c x.1) refl v.0 v.1)
    (λ u. let v : (same_cell x.0 c ≡ true) × (is_first B x.1 j ≡ true) = and_parts (same_cell x.0 c) (is_first B x.1 j) u in back v.0 v.1 (same_cell c x.1) refl)
  where
    there : (b : Bool) → same_cell c x.1 ≡ b → (b || same_cell c x.0) ≡ true → is_first B (cond b x.0 x.1) j ≡ true → (same_cell x.0 c && is_first B x.1 j) ≡ true
    there true u v w = absurd (on.apart j.motion.pos (first_inside B a x.0 j k w) on.second)
    there false u v w = and_from (same_cell x.0 c) (is_first B x.1 j) ((same_cell-exact x.0 c).1 (sym ((same_cell-exact c x.0).0 v))) w

    back : same_cell x.0 c ≡ true → is_first B x.1 j ≡ true → (b : Bool) → same_cell c x.1 ≡ b → ((b || same_cell c x.0) && is_first B (cond b x.0 x.1) j) ≡ true
    back u v true w = absurd (on.apart p on.first (ap (λ t. contains t p) (sym ((same_cell-exact c x.1).0 w)) ∙ h))
    back u v false w = and_from (same_cell c x.0) (is_first B x.1 j) ((same_cell-exact c x.0).1 (sym ((same_cell-exact x.0 c).0 u))) v
at_cover B a c p h j k x y on (inr e) = ap (acts_by B c j) e ∙ both_equal (acts_by B c j x) (same_cell x.0 c && is_first B x.1 j)
    (λ u. let v : (has_cell c x ≡ true) × (is_first B (partner c x) j ≡ true) = and_parts (has_cell c x) (is_first B (partner c x) j) u in there (same_cell c x.0) refl v.0 v.1)
    (λ u. let v : (same_cell x.0 c ≡ true) × (is_first B x.1 j ≡ true) = and_parts (same_cell x.0 c) (is_first B x.1 j) u in back v.1 (same_cell c x.0) ((same_cell-exact c x.0).1 (sym ((same_cell-exact x.0 c).0 v.0))) refl)
  where
    there : (b : Bool) → same_cell c x.0 ≡ b → (b || same_cell c x.1) ≡ true → is_first B (cond b x.1 x.0) j ≡ true → (same_cell x.0 c && is_first B x.1 j) ≡ true
    there true u v w = and_from (same_cell x.0 c) (is_first B x.1 j) ((same_cell-exact x.0 c).1 (sym ((same_cell-exact c x.0).0 u))) w
    there false u v w = absurd (on.apart j.motion.pos (first_inside B a x.0 j k w) on.second)

    back : is_first B x.1 j ≡ true → (b : Bool) → b ≡ true → same_cell c x.0 ≡ b → ((b || same_cell c x.1) && is_first B (cond b x.1 x.0) j) ≡ true
    back v true t w = v
    back v false t w = absurd (false≢true t)

by_body : (B : List BodyData) → Ascending B → (o : Opening) → o.positions ≡ positions_of B → IsSound o → (c : CellData) (p : Position) → contains c p ≡ true → Among p o.positions → (F : CellData × CellData → ℤ) → (j : BodyData) → Among j B →
    (b : Bool) → same_place p j.motion.pos ≡ b → total_by (λ x. cond (acts_by B c j x) (F x) (pos 0)) (interactions o) ≡ cond b (pos 0) (cond (same_cell (cover o p j.motion.pos).0 c && is_first B (cover o p j.motion.pos).1 j) (F (orient (cover o p j.motion.pos))) (pos 0))
by_body B a o e s c p h in_p F j k true d =
    total-on (λ x. cond (acts_by B c j x) (F x) (pos 0)) (λ x. pos 0) (interactions o) (λ x l. ap (λ t. cond t (F x) (pos 0)) (still B a o s c p h j k ((same_place-exact p j.motion.pos).0 d) x l))
    ∙ total-zero (interactions o)
by_body B a o e s c p h in_p F j k false d =
    let in_q : Among j.motion.pos o.positions = subst (Among j.motion.pos) (sym e) (position_among j B k) in
    let x : CellData × CellData = cover o p j.motion.pos in
    let y : CellData × CellData = orient x in
    let on : IsOnChain p j.motion.pos x = cover-on o p j.motion.pos (box_of o s p in_p) (box_of o s j.motion.pos in_q) d in
    let there : Covered o p j.motion.pos = covered o s p j.motion.pos in_p in_q d in
    total-on (λ x. cond (acts_by B c j x) (F x) (pos 0)) (λ x. cond (same_pair x y) (cond (acts_by B c j y) (F y) (pos 0)) (pos 0)) (interactions o)
    (λ x l. alone B a o s c p h in_p j k in_q y there.among there.parted F x l (same_pair x y) refl)
    ∙ total-once (λ x. same_pair x y) (cond (acts_by B c j y) (F y) (pos 0)) (interactions o) (cover_once o p j.motion.pos in_p in_q d)
    ∙ ap (λ t. cond t (F y) (pos 0)) (at_cover B a c p h j k x y on (orient-either x))

total_axis : (B : List BodyData) → Ascending B → (o : Opening) → o.positions ≡ positions_of B → IsSound o → (c : CellData) (p : Position) → contains c p ≡ true → Among p o.positions → (F : CellData × CellData → ℤ) →
    ((x : CellData × CellData) → has_cell c x ≡ false → F x ≡ pos 0) → total_by F (interactions o) ≡ total_by (λ j. stood_for B o c p j F) B
total_axis B a o e s c p h in_p F none =
    total-on F (λ x. total_by (λ j. cond (acts_by B c j x) (F x) (pos 0)) B) (interactions o) (λ x l. spread B a o e s c F none x l (has_cell c x) refl)
    ∙ total-exchange (λ x j. cond (acts_by B c j x) (F x) (pos 0)) (interactions o) B
    ∙ total-on (λ j. total_by (λ x. cond (acts_by B c j x) (F x) (pos 0)) (interactions o)) (λ j. stood_for B o c p j F) B (λ j k. by_body B a o e s c p h in_p F j k (same_place p j.motion.pos) refl)

-- what a body stands for, on an axis
stood_axis : (get : V3 → ℤ) → get origin ≡ pos 0 → (v : V3) (a b : Bool) → get (cond a origin (cond b v origin)) ≡ cond a (pos 0) (cond b (get v) (pos 0))
stood_axis get none v true b = none
stood_axis get none v false true = refl
stood_axis get none v false false = none

part_axis : (get : V3 → ℤ) → get origin ≡ pos 0 → (g : Gravity) (B : List BodyData) (b : BodyData) (c : CellData) (j : BodyData) →
    get (part_of_total g B b c j) ≡ stood_for B (opening_of g.setup B) c b.motion.pos j (λ x. get (force_on (pair_force g B) c x))
unfolding part_of_total
part_axis get none g B b c j =
    let x : CellData × CellData = cover (opening_of g.setup B) b.motion.pos j.motion.pos in
    stood_axis get none (force_on (pair_force g B) c (orient x)) (same_place b.motion.pos j.motion.pos) (same_cell x.0 c && is_first B x.1 j)

not_acting : (get : V3 → ℤ) → get origin ≡ pos 0 → (v : V3) (a b : Bool) → (a || b) ≡ false → get (cond a v (cond b (negative v) origin)) ≡ pos 0
not_acting get none v true b e = absurd (false≢true (sym e))
not_acting get none v false true e = absurd (false≢true (sym e))
not_acting get none v false false e = none

acts_not : (get : V3 → ℤ) → get origin ≡ pos 0 → (f : CellData × CellData → V3) (c : CellData) (x : CellData × CellData) → has_cell c x ≡ false → get (force_on f c x) ≡ pos 0
unfolding force_on
acts_not get none f c x e = not_acting get none (f x) (same_cell c x.0) (same_cell c x.1) e

node_axis : (get : V3 → ℤ) → get origin ≡ pos 0 → (g : Gravity) (B : List BodyData) → AreBodies B → (b : BodyData) → Among b B → (c : CellData) → contains c b.motion.pos ≡ true →
    total_by (λ x. get (force_on (pair_force g B) c x)) (interactions (opening_of g.setup B)) ≡ total_by (λ j. get (part_of_total g B b c j)) B
node_axis get none g B a b k c h =
    let o : Opening = opening_of g.setup B in
    total_axis B (ascending-from B a.valid.ascending) o refl (opening_sound g.setup B a.in_box) c b.motion.pos h (position_among b B k) (λ x. get (force_on (pair_force g B) c x)) (acts_not get none (pair_force g B) c)
    ∙ total-same (λ j. stood_for B o c b.motion.pos j (λ x. get (force_on (pair_force g B) c x))) (λ j. get (part_of_total g B b c j)) (λ j. sym (part_axis get none g B b c j)) B

-- the total of a cell with a body is what all bodies stand for in it
pub totals_by_bodies : (g : Gravity) (B : List BodyData) → AreBodies B → (b : BodyData) → Among b B → (c : CellData) → contains c b.motion.pos ≡ true → node_total g B c ≡ sum_of (part_of_total g B b c) B
totals_by_bodies g B a b k c h =
    let x : total_by (λ x. (force_on (pair_force g B) c x).x) (interactions (opening_of g.setup B)) ≡ total_by (λ j. (part_of_total g B b c j).x) B = node_axis (λ v. v.x) refl g B a b k c h in
    let y : total_by (λ x. (force_on (pair_force g B) c x).y) (interactions (opening_of g.setup B)) ≡ total_by (λ j. (part_of_total g B b c j).y) B = node_axis (λ v. v.y) refl g B a b k c h in
    let z : total_by (λ x. (force_on (pair_force g B) c x).z) (interactions (opening_of g.setup B)) ≡ total_by (λ j. (part_of_total g B b c j).z) B = node_axis (λ v. v.z) refl g B a b k c h in
    node_totals g B c ∙ (λ i. record { x = x i; y = y i; z = z i }) ∙ sym (sum_of-totals (part_of_total g B b c) B)

pub node_totals_by_bodies : NodeTotalsByBodies
node_totals_by_bodies g B a = all_among (λ b. (c : CellData) → IsTrue (contains c b.motion.pos) → node_total g B c ≡ sum_of (part_of_total g B b c) B) B (λ b k c h. totals_by_bodies g B a b k c h)

-- ---- the number of interactions

-- i is the first in the first cell of a pair, and j in the second
abbrev firsts : List BodyData → BodyData → BodyData → CellData × CellData → Bool
firsts B i j x = is_first B x.0 i && is_first B x.1 j

inner_one : (B : List BodyData) (d : CellData) → sum_by (λ j. cond (is_first B d j) 1 0) B ≡ 1 → (b : Bool) → sum_by (λ j. cond (b && is_first B d j) 1 0) B ≡ cond b 1 0
inner_one B d h true = h
inner_one B d h false = sum_by-zero {X = BodyData} (λ j. 0) (λ j. refl) B

counted_once : (B : List BodyData) → Ascending B → (o : Opening) → o.positions ≡ positions_of B → IsSound o → (x : CellData × CellData) → Among x (interactions o) → sum_by (λ i. sum_by (λ j. cond (firsts B i j x) 1 0) B) B ≡ 1
counted_once B a o e s x h =
    let u : Acts o x = acts o s x h in
    let second : sum_by (λ j. cond (is_first B x.1 j) 1 0) B ≡ 1 = one_first B a x.1 u.q (subst (Among u.q) e u.in_q) u.on.second in
    sum_by-same (λ i. sum_by (λ j. cond (firsts B i j x) 1 0) B) (λ i. cond (is_first B x.0 i) 1 0) (λ i. inner_one B x.1 second (is_first B x.0 i)) B
    ∙ one_first B a x.0 u.p (subst (Among u.p) e u.in_p) u.on.first

firsts_part : (B : List BodyData) → Ascending B → (i j : BodyData) → Among i B → Among j B → (x : CellData × CellData) → firsts B i j x ≡ true → parts_two i.motion.pos j.motion.pos x ≡ true
firsts_part B a i j h k x e =
    let u : (is_first B x.0 i ≡ true) × (is_first B x.1 j ≡ true) = and_parts (is_first B x.0 i) (is_first B x.1 j) e in
    or_left (contains x.0 i.motion.pos && contains x.1 j.motion.pos) (contains x.0 j.motion.pos && contains x.1 i.motion.pos) (and_from (contains x.0 i.motion.pos) (contains x.1 j.motion.pos) (first_inside B a x.0 i h u.0) (first_inside B a x.1 j k u.1))

firsts_apart : (B : List BodyData) → Ascending B → (o : Opening) → IsSound o → (i j : BodyData) → Among i B → Among j B → i.motion.pos ≡ j.motion.pos → (x : CellData × CellData) → Among x (interactions o) → firsts B i j x ≡ false
firsts_apart B a o s i j h k e x l = no_case (firsts B i j x) (λ u.
    let v : (is_first B x.0 i ≡ true) × (is_first B x.1 j ≡ true) = and_parts (is_first B x.0 i) (is_first B x.1 j) u in
    (acts o s x l).on.apart j.motion.pos (ap (contains x.0) (sym e) ∙ first_inside B a x.0 i h v.0) (first_inside B a x.1 j k v.1))

and_true : (a b : Bool) → (a && b) ≡ (a && (b && true))
and_true true true = refl
and_true true false = refl
and_true false b = refl

and_none : (a b : Bool) → (a && (b && false)) ≡ false
and_none true true = refl
and_none true false = refl
and_none false b = refl

-- both are the first in the cells of their turned cover exactly where they stand for it
at_orient : (B : List BodyData) → Ascending B → (i j : BodyData) → Among i B → Among j B → (x : CellData × CellData) → IsOnChain i.motion.pos j.motion.pos x → (b : Bool) → firsts B i j (cond b (x.1, x.0) x) ≡ (is_first B x.0 i && (is_first B x.1 j && not b))
at_orient B a i j h k x on true =
    no_case (firsts B i j (x.1, x.0)) (λ u. on.apart i.motion.pos on.first (first_inside B a x.1 i h (and_parts (is_first B x.1 i) (is_first B x.0 j) u).0))
    ∙ sym (and_none (is_first B x.0 i) (is_first B x.1 j))
at_orient B a i j h k x on false = and_true (is_first B x.0 i) (is_first B x.1 j)

count_at : (B : List BodyData) (o : Opening) (i j : BodyData) (y : CellData × CellData) → times same_pair same_pair-exact y (interactions o) ≡ 1 → ((x : CellData × CellData) → Among x (interactions o) → firsts B i j x ≡ true → x ≡ y) →
    (b : Bool) → firsts B i j y ≡ b → sum_by (λ x. cond (firsts B i j x) 1 0) (interactions o) ≡ cond b 1 0
count_at B o i j y one only true e =
    sum_by-on (λ x. cond (firsts B i j x) 1 0) (λ x. cond (same_pair x y) 1 0) (interactions o)
    (λ x l. ap {B = ℕ} (λ t. cond t 1 0) (both_equal (firsts B i j x) (same_pair x y) (λ u. (same_pair-exact x y).1 (only x l u)) (λ u. ap (firsts B i j) ((same_pair-exact x y).0 u) ∙ e)))
    ∙ one
count_at B o i j y one only false e =
    sum_by-on (λ x. cond (firsts B i j x) 1 0) (λ x. 0) (interactions o) (λ x l. ap {B = ℕ} (λ t. cond t 1 0) (no_case (firsts B i j x) (λ u. false≢true (sym e ∙ sym (ap (firsts B i j) (only x l u)) ∙ u))))
    ∙ sum_by-zero {X = CellData × CellData} (λ x. 0) (λ x. refl) (interactions o)

count_two : (B : List BodyData) → Ascending B → (o : Opening) → o.positions ≡ positions_of B → IsSound o → (i j : BodyData) → Among i B → Among j B → (b : Bool) → same_place i.motion.pos j.motion.pos ≡ b →
    sum_by (λ x. cond (firsts B i j x) 1 0) (interactions o) ≡ cond (stands_for o B i j) 1 0
unfolding stands_for
count_two B a o e s i j h k true d =
    sum_by-on (λ x. cond (firsts B i j x) 1 0) (λ x. 0) (interactions o) (λ x l. ap {B = ℕ} (λ t. cond t 1 0) (firsts_apart B a o s i j h k ((same_place-exact i.motion.pos j.motion.pos).0 d) x l))
    ∙ sum_by-zero {X = CellData × CellData} (λ x. 0) (λ x. refl) (interactions o)
    ∙ sym (ap {B = ℕ} (λ t. cond (not t && (is_first B (cover o i.motion.pos j.motion.pos).0 i && (is_first B (cover o i.motion.pos j.motion.pos).1 j && not (before (cover o i.motion.pos j.motion.pos).1 (cover o i.motion.pos j.motion.pos).0)))) 1 0) d)
count_two B a o e s i j h k false d =
    let p : Position = i.motion.pos in
    let q : Position = j.motion.pos in
    let in_p : Among p o.positions = subst (Among p) (sym e) (position_among i B h) in
    let in_q : Among q o.positions = subst (Among q) (sym e) (position_among j B k) in
    let x : CellData × CellData = cover o p q in
    let y : CellData × CellData = orient x in
    let on : IsOnChain p q x = cover-on o p q (box_of o s p in_p) (box_of o s q in_q) d in
    let there : Covered o p q = covered o s p q in_p in_q d in
    count_at B o i j y (cover_once o p q in_p in_q d) (λ x l u. one_parts o s p q in_p in_q x y l there.among (firsts_part B a i j h k x u) there.parted) (firsts B i j y) refl
    ∙ ap {B = ℕ} (λ t. cond t 1 0) (at_orient B a i j h k x on (before x.1 x.0))
    ∙ sym (ap {B = ℕ} (λ t. cond (not t && (is_first B x.0 i && (is_first B x.1 j && not (before x.1 x.0)))) 1 0) d)

pub interactions_by_bodies : InteractionsByBodies
interactions_by_bodies g B a =
    let o : Opening = opening_of g B in
    let s : IsSound o = opening_sound g B a.in_box in
    let up : Ascending B = ascending-from B a.valid.ascending in
    sym (ones (interactions o))
    ∙ sum_by-on (λ x. 1) (λ x. sum_by (λ i. sum_by (λ j. cond (firsts B i j x) 1 0) B) B) (interactions o) (λ x l. sym (counted_once B up o refl s x l))
    ∙ sum-exchange (λ x i. sum_by (λ j. cond (firsts B i j x) 1 0) B) (interactions o) B
    ∙ sum_by-on (λ i. sum_by (λ x. sum_by (λ j. cond (firsts B i j x) 1 0) B) (interactions o)) (λ i. count_by (stands_for o B i) B) B
    (λ i h. sum-exchange (λ x j. cond (firsts B i j x) 1 0) (interactions o) B
    ∙ sum_by-on (λ j. sum_by (λ x. cond (firsts B i j x) 1 0) (interactions o)) (λ j. cond (stands_for o B i j) 1 0) B (λ j k. count_two B up o refl s i j h k (same_place i.motion.pos j.motion.pos) refl))
