-- What one body adds to the totals of the nodes around another.
use Rattle.std.proofs.Common.{◌≡◌, ◌≤◌, ◌<◌, ◌^◌, ℕ, length, get_or, subst, Bool, true, false, cond, eqb, ◌&&◌, List, refl, sym, ap, ◌∙◌, arith}
use Rattle.std.specs.Prelude.{not, if◌then◌else◌}
use Rattle.std.proofs.lemmas.Bool.{false≢true, cond-true, cond-false, eqb-true, eq-eqb}
use Rattle.fixed_point.specs.declared.V3.{V3}
use Rattle.fixed_point.specs.Vectors.{origin, negative, IsAtMost}
use Rattle.cell_space.specs.Cells.{Position, CellData, same_place, same_cell, before, cell_at}
use Rattle.cell_space.proofs.Cells.{same_cell-exact, both_equal}
use Rattle.cell_space.proofs.Orders.{before-itself}
use Rattle.nbody_model.specs.Bodies.{BodyData}
use Rattle.nbody_model.specs.Tables.{Gravity}
use Rattle.nbody_model.specs.Moments.{MomentsData, moments}
use Rattle.nbody_model.specs.PairForce.{pair}
use Rattle.nbody_model.specs.Covers.{opening_of, orient, cover}
use Rattle.nbody_model.specs.Force.{pair_force, force_on}
use Rattle.model_laws.specs.Firsts.{is_first, part_of_total, stands_for}
use Rattle.nbody_model.specs.Setups.{SetupData}
use Rattle.model_laws.specs.Laws.{AreBodies}
use Rattle.force_field.specs.declared.nodes.Node.{Node}
use Rattle.force_field.specs.Around.{IsNodeAround}
use Rattle.force_field.proofs.Acting.{Act, bodies-act, light-both}
use Rattle.force_field.specs.Levels.{IsCover}
use Rattle.force_field.specs.Pairs.{MayAct, IsPart}

-- ---- the force of a pair of cells on one of them

-- on the cell a by the cell b
abbrev pub acts : Gravity → MomentsData → MomentsData → V3
acts g a b = if before b.cell a.cell then negative (pair g b a) else pair g a b

not_same : (a b : CellData) (t : Bool) → same_cell a b ≡ t → before b a ≡ true → t ≡ false
not_same a b true e h = absurd (false≢true (sym (before-itself a) ∙ ap (λ c. before c a) ((same_cell-exact a b).0 e) ∙ h))
not_same a b false e h = refl

turned_on : (f : CellData × CellData → V3) (a b : CellData) (t : Bool) → before b a ≡ t → force_on f a (cond t (b, a) (a, b)) ≡ cond t (negative (f (b, a))) (f (a, b))
unfolding force_on
turned_on f a b true h =
    cond-false (same_cell a b) (f (b, a)) (cond (same_cell a a) (negative (f (b, a))) origin) (not_same a b (same_cell a b) refl h)
    ∙ cond-true (same_cell a a) (negative (f (b, a))) origin ((same_cell-exact a a).1 refl)
turned_on f a b false h = cond-true (same_cell a a) (f (a, b)) (cond (same_cell a b) (negative (f (a, b))) origin) ((same_cell-exact a a).1 refl)

pair-acts : (g : Gravity) (B : List BodyData) (a b : CellData) → force_on (pair_force g B) a (orient (a, b)) ≡ acts g (moments g.setup B a) (moments g.setup B b)
unfolding pair_force moments
pair-acts g B a b = turned_on (pair_force g B) a b (before b a) refl

-- ---- the part of a body

cell-is : (s : SetupData) (B : List BodyData) (b : BodyData) (l : ℕ) (n : Node) → IsNodeAround s B b l n → n.moments.cell ≡ cell_at l b.motion.pos
unfolding moments
cell-is s B b l n h = ap (λ (m : MomentsData). m.cell) h.moments_are

-- cells of two levels around a position are one where the levels are
level_is : (p : Position) (k m : ℕ) → same_cell (cell_at k p) (cell_at m p) ≡ eqb m k
level_is p k m = both_equal (same_cell (cell_at k p) (cell_at m p)) (eqb m k)
    (λ e. eq-eqb m k (ap (λ (c : CellData). c.level) (sym ((same_cell-exact (cell_at k p) (cell_at m p)).0 e))))
    (λ e. (same_cell-exact (cell_at k p) (cell_at m p)).1 (ap (λ l. cell_at l p) (sym (eqb-true m k e))))

-- by the cells of the cover
part_by : Gravity → List BodyData → BodyData → CellData → BodyData → CellData × CellData → V3
part_by g B b c j x =
    let f = force_on (pair_force g B) c (orient x) in
    if same_place b.motion.pos j.motion.pos then origin else (if same_cell x.0 c && is_first B x.1 j then f else origin)

stands_by : List BodyData → BodyData → BodyData → CellData × CellData → Bool
stands_by B i j x = not (same_place i.motion.pos j.motion.pos) && (is_first B x.0 i && (is_first B x.1 j && not (before x.1 x.0)))

part-by : (g : Gravity) (B : List BodyData) (b : BodyData) (c : CellData) (j : BodyData) (x : CellData × CellData) → cover (opening_of g.setup B) b.motion.pos j.motion.pos ≡ x → part_of_total g B b c j ≡ part_by g B b c j x
unfolding part_of_total part_by
part-by g B b c j x e = ap (part_by g B b c j) e

stands-by : (g : Gravity) (B : List BodyData) (b j : BodyData) (x : CellData × CellData) → cover (opening_of g.setup B) b.motion.pos j.motion.pos ≡ x → stands_for (opening_of g.setup B) B b j ≡ stands_by B b j x
unfolding stands_for stands_by
stands-by g B b j x e = ap (stands_by B b j) e

none_same : (t : Bool) (f : V3) → t ≡ true → cond t origin f ≡ origin
none_same true f e = refl
none_same false f e = absurd (false≢true e)

same_none : (t : Bool) → origin ≡ cond t origin origin
same_none true = refl
same_none false = refl

not_true : (t u : Bool) → t ≡ true → false ≡ (not t && u)
not_true true u e = refl
not_true false u e = absurd (false≢true e)

same_part : (g : Gravity) (B : List BodyData) (b j : BodyData) (m : ℕ) → same_place b.motion.pos j.motion.pos ≡ true → part_of_total g B b (cell_at m b.motion.pos) j ≡ origin
unfolding part_of_total
same_part g B b j m e = none_same (same_place b.motion.pos j.motion.pos) _ e

same_stands : (g : Gravity) (B : List BodyData) (b j : BodyData) → same_place b.motion.pos j.motion.pos ≡ true → false ≡ stands_for (opening_of g.setup B) B b j
unfolding stands_for
same_stands g B b j e = not_true (same_place b.motion.pos j.motion.pos) _ e

-- of a body at the same position
pub part-same : (g : Gravity) (B : List BodyData) (b j : BodyData) → same_place b.motion.pos j.motion.pos ≡ true → IsPart g B b j (record { level = 0; force = origin; counts = false })
part-same g B b j e = record {
  shallow = omega arith;
  small = record { on_x = omega arith; on_y = omega arith; on_z = omega arith };
  adds = λ m. same_part g B b j m e ∙ same_none (eqb m 0);
  counted = same_stands g B b j e;
}

none_later : (t u v : Bool) (f : V3) → v ≡ false → cond t origin (cond (u && v) f origin) ≡ origin
none_later true u v f e = refl
none_later false true true f e = absurd (false≢true (sym e))
none_later false true false f e = refl
none_later false false v f e = refl

not_later : (t u v w : Bool) → v ≡ false → false ≡ (t && (u && (v && w)))
not_later true true true w e = absurd (false≢true (sym e))
not_later true true false w e = refl
not_later true false v w e = refl
not_later false u v w e = refl

later_part : (g : Gravity) (B : List BodyData) (b : BodyData) (c : CellData) (j : BodyData) (x : CellData × CellData) → is_first B x.1 j ≡ false → part_by g B b c j x ≡ origin
unfolding part_by
later_part g B b c j x e = none_later (same_place b.motion.pos j.motion.pos) (same_cell x.0 c) (is_first B x.1 j) (force_on (pair_force g B) c (orient x)) e

later_stands : (B : List BodyData) (b j : BodyData) (x : CellData × CellData) → is_first B x.1 j ≡ false → false ≡ stands_by B b j x
unfolding stands_by
later_stands B b j x e = not_later (not (same_place b.motion.pos j.motion.pos)) (is_first B x.0 b) (is_first B x.1 j) (not (before x.1 x.0)) e

-- of a body that isn't the first in its cell of the cover
pub part-later : (g : Gravity) (B : List BodyData) (b j : BodyData) (k l : ℕ) → IsCover (opening_of g.setup B) b.motion.pos j.motion.pos k l → is_first B (cell_at l j.motion.pos) j ≡ false → IsPart g B b j (record { level = 0; force = origin; counts = false })
part-later g B b j k l covered e =
    let x : CellData × CellData = (cell_at k b.motion.pos, cell_at l j.motion.pos) in
    record {
      shallow = omega arith;
      small = record { on_x = omega arith; on_y = omega arith; on_z = omega arith };
      adds = λ m. part-by g B b (cell_at m b.motion.pos) j x covered ∙ later_part g B b (cell_at m b.motion.pos) j x e ∙ same_none (eqb m 0);
      counted = later_stands B b j x e ∙ sym (stands-by g B b j x covered);
    }

taken : (s t u : Bool) (f force : V3) → s ≡ false → u ≡ true → (t ≡ true → f ≡ force) → cond s origin (cond (t && u) f origin) ≡ cond t force origin
taken true t u f force d e h = absurd (false≢true (sym d))
taken false true true f force d e h = h refl
taken false true false f force d e h = absurd (false≢true e)
taken false false u f force d e h = refl

taken_part : (g : Gravity) (B : List BodyData) (b j : BodyData) (c : CellData) (x : CellData × CellData) (force : V3) → same_place b.motion.pos j.motion.pos ≡ false → is_first B x.1 j ≡ true →
    force_on (pair_force g B) x.0 (orient x) ≡ force → part_by g B b c j x ≡ cond (same_cell x.0 c) force origin
unfolding part_by
taken_part g B b j c x force differ e is =
    taken (same_place b.motion.pos j.motion.pos) (same_cell x.0 c) (is_first B x.1 j) (force_on (pair_force g B) c (orient x)) force differ e
    (λ h. ap (λ t. force_on (pair_force g B) t (orient x)) (sym ((same_cell-exact x.0 c).0 h)) ∙ is)

elsewhere : (t u : Bool) → t ≡ false → u ≡ (not t && u)
elsewhere true u e = absurd (false≢true (sym e))
elsewhere false u e = refl

elsewhere_stands : (B : List BodyData) (b j : BodyData) (x : CellData × CellData) → same_place b.motion.pos j.motion.pos ≡ false → (is_first B x.0 b && (is_first B x.1 j && not (before x.1 x.0))) ≡ stands_by B b j x
unfolding stands_by
elsewhere_stands B b j x differ = elsewhere (same_place b.motion.pos j.motion.pos) (is_first B x.0 b && (is_first B x.1 j && not (before x.1 x.0))) differ

-- of the first body in its cell of the cover
pub part-first : (g : Gravity) (B : List BodyData) (b j : BodyData) (k l : ℕ) (n m : Node) (force : V3) (counts : Bool) → same_place b.motion.pos j.motion.pos ≡ false → IsCover (opening_of g.setup B) b.motion.pos j.motion.pos k l → k ≤ 32 →
    IsNodeAround g.setup B b k n → IsNodeAround g.setup B j l m → m.first ≡ true → IsAtMost (2 ^ 87) force → force ≡ acts g n.moments m.moments → counts ≡ (n.first && (m.first && not (before m.moments.cell n.moments.cell))) →
    IsPart g B b j (record { level = k; force = force; counts = counts })
part-first g B b j k l n m force counts differ covered low at to e small is counted =
    let c = cell_at k b.motion.pos in
    let d = cell_at l j.motion.pos in
    let x : CellData × CellData = (c, d) in
    let acted : force_on (pair_force g B) c (orient x) ≡ force = pair-acts g B c d ∙ ap (λ t. acts g t (moments g.setup B d)) (sym at.moments_are) ∙ ap (acts g n.moments) (sym to.moments_are) ∙ sym is in
    record {
      shallow = low;
      small = small;
      adds = λ h. part-by g B b (cell_at h b.motion.pos) j x covered ∙ taken_part g B b j (cell_at h b.motion.pos) x force differ (sym to.first_is ∙ e) acted ∙ ap (λ t. cond t force origin) (level_is b.motion.pos k h);
      counted = counted
          ∙ ap (λ t. t && (m.first && not (before m.moments.cell n.moments.cell))) at.first_is
          ∙ ap (λ t. is_first B c b && (t && not (before m.moments.cell n.moments.cell))) to.first_is
          ∙ ap (λ t. is_first B c b && (is_first B d j && not (before t n.moments.cell))) (cell-is g.setup B j l m to)
          ∙ ap (λ t. is_first B c b && (is_first B d j && not (before d t))) (cell-is g.setup B b k n at)
          ∙ elsewhere_stands B b j x differ ∙ sym (stands-by g B b j x covered);
    }

-- the nodes of a cover may act on each other
act-moments : (s : SetupData) (B : List BodyData) (a b : CellData) → AreBodies B → Act (opening_of s B) a b → MayAct s (moments s B a) (moments s B b)
unfolding moments
act-moments s B a b all h = record { light = light-both s B a b all h.apart; first = h.first; second = h.second }

pub may-act : (s : SetupData) (B : List BodyData) (i j : ℕ) (b d : BodyData) (k l : ℕ) (n m : Node) → AreBodies B → i < length B → j < length B → same_place (get_or B i b).motion.pos (get_or B j d).motion.pos ≡ false →
    IsCover (opening_of s B) (get_or B i b).motion.pos (get_or B j d).motion.pos k l → IsNodeAround s B (get_or B i b) k n → IsNodeAround s B (get_or B j d) l m → MayAct s n.moments m.moments
may-act s B i j b d k l n m all low high differ covered at to =
    subst (λ t. MayAct s t m.moments) (sym at.moments_are) (subst (λ t. MayAct s (moments s B (cell_at k (get_or B i b).motion.pos)) t) (sym to.moments_are)
    (act-moments s B (cell_at k (get_or B i b).motion.pos) (cell_at l (get_or B j d).motion.pos) all (bodies-act s B i j b d k l all low high differ covered)))
