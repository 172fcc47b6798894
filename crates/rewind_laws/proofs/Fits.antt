-- Bodies in the box with momenta in range, ascending in id: drifts and kicks and their taking back keep them so.
use Rattle.std.proofs.Common.{◌≡◌, ◌<◌, ℕ, zero, suc, ◌+◌, ◌^◌, Bool, true, false, cond, not, ℤ, pos, negsuc, ◌+ℤ◌, ◌*ℤ◌, unsigned_abs, List, [], ◌∷◌, filter, get_or, Option, Some, None, refl, ap, sym, ◌∙◌, subst, arith, mod-lt}
use Rattle.std.specs.List.{AllByRecursion}
use Rattle.std.specs.List.Sorted.{IsStrictlyIncreasing}
use Rattle.std.specs.Int.{int_rem_euclid}
use Rattle.std.proofs.lemmas.Bool.{le-leb}
use Rattle.std.proofs.lemmas.Int.{ints}
use Rattle.fixed_point.specs.declared.V3.{V3}
use Rattle.fixed_point.specs.Fixed.{IsMomentum}
use Rattle.cell_space.specs.Cells.{InBox}
use Rattle.nbody_model.specs.Bodies.{BodyData, IsInRange, has, only}
use Rattle.nbody_model.specs.Setups.{SetupData}
use Rattle.nbody_model.specs.Tables.{Gravity}
use Rattle.nbody_model.specs.Force.{force_at}
use Rattle.nbody_model.specs.Steps.{fits, fast, at_each, drifted, drift, kicked_bodies, is_momentum, axis_out, first_out}
use Rattle.model_laws.specs.Nests.{ids_of}
use Rattle.model_laws.proofs.Nests.{ids_step}
use Rattle.model_laws.proofs.Shares.{Ascending, ascending-from, ascending-filter}
use Rattle.rewind_laws.specs.Back.{undrifted, undrift}
use Rattle.rewind_laws.proofs.Undo.{pushed}

-- in the box, with a momentum in range
pub record IsFit (b : BodyData) : Type 0 where
  pub place : InBox b.motion.pos
  pub range : axis_out b.motion.mom ≡ None

pub record AreFit (B : List BodyData) : Type 0 where
  pub each : AllByRecursion IsFit B
  pub ascending : IsStrictlyIncreasing (ids_of B)

-- ---- ids

increasing_of : (ms : List BodyData) → Ascending ms → IsStrictlyIncreasing (ids_of ms)
increasing_of [] a k l = absurd (omega (arith, l))
increasing_of (m ∷ []) a k l = absurd (omega (arith, l))
increasing_of (m ∷ n ∷ ms) a zero l = a.0.0
increasing_of (m ∷ n ∷ ms) a (suc k) l =
    let e : suc (k + 1) ≡ suc k + 1 = omega arith in
    subst (λ j. get_or (ids_of (n ∷ ms)) k 0 < get_or (ids_of (m ∷ n ∷ ms)) j 0) e (increasing_of (n ∷ ms) a.1 k (omega (arith, l)))

-- the fast part ascends
pub fast_ascends : (g : Gravity) (bin : ℕ) (P : List ℕ) (B : List BodyData) → IsStrictlyIncreasing (ids_of B) → IsStrictlyIncreasing (fast g bin (only B P))
unfolding fast
fast_ascends g bin P B inc =
    let t : BodyData → Bool = λ b. not (fits g.setup b (force_at g (only B P) b) bin) in
    increasing_of (filter t (only B P)) (ascending-filter t (only B P) (ascending-filter (λ b. has P b.id) B (ascending-from B inc)))

-- ---- momenta in range

momentum_is : (p : ℤ) → IsMomentum p → is_momentum p ≡ true
momentum_is p h = le-leb (unsigned_abs p) (2 ^ 62) (omega (arith, ints, h.0, h.1))

pub in_range : (p : V3) → IsInRange p → axis_out p ≡ None
in_range p h =
    λ i. cond {A = Option ℕ} (not (momentum_is p.x h.on_x i)) (Some 0) (cond (not (momentum_is p.y h.on_y i)) (Some 1) (cond (not (momentum_is p.z h.on_z i)) (Some 2) None))

none_here : (b : BodyData) (rest : List BodyData) (t : Bool) → axis_out b.motion.mom ≡ None → first_out rest ≡ None → first_out (cond t (b ∷ rest) rest) ≡ None
none_here b rest true e f = (λ i. elim (e i) [ Some axis ↦ Some (b.id, axis) | None ↦ first_out rest ]) ∙ f
none_here b rest false e f = f

pub none_out : (P : List ℕ) (B : List BodyData) → AllByRecursion IsFit B → first_out (only B P) ≡ None
none_out P [] a = refl
none_out P (b ∷ B) a = none_here b (only B P) (has P b.id) a.0.range (none_out P B a.1)

neither_out : (o : Option ℕ) (id : ℕ) (later : Option (ℕ × ℕ)) → ◌≡◌ {A = Option (ℕ × ℕ)} (elim o [ Some axis ↦ Some (id, axis) | None ↦ later ]) None → (o ≡ None) × (later ≡ None)
neither_out None id later e = (refl, e)
neither_out (Some axis) id later e = absurd cc

-- a body that may change its momentum, in front of the others
one_out : (P : List ℕ) (f : BodyData → BodyData) (b : BodyData) (rest : List BodyData) (t : Bool) → has P b.id ≡ t → (f b).motion.pos ≡ b.motion.pos → IsFit b → first_out (cond (has P b.id) (cond t (f b) b ∷ rest) rest) ≡ None →
    IsFit (cond t (f b) b) × (first_out rest ≡ None)
one_out P f b rest true e here s n =
    let m : first_out (f b ∷ rest) ≡ None = sym (ap (λ u. first_out (cond u (f b ∷ rest) rest)) e) ∙ n in
    let o = neither_out (axis_out (f b).motion.mom) (f b).id (first_out rest) m in
    (record { place = subst InBox (sym here) s.place; range = o.0 }, o.1)
one_out P f b rest false e here s n = (s, sym (ap (λ u. first_out (cond u (b ∷ rest) rest)) e) ∙ n)

pub each_out : (P : List ℕ) (f : BodyData → BodyData) → ((b : BodyData) → (f b).id ≡ b.id) → ((b : BodyData) → (f b).motion.pos ≡ b.motion.pos) → (B : List BodyData) → AllByRecursion IsFit B →
    first_out (only (at_each P f B) P) ≡ None → AllByRecursion IsFit (at_each P f B)
each_out P f same here [] a n = tt
each_out P f same here (b ∷ B) a n =
    let c : BodyData = cond (has P b.id) (f b) b in
    let rest : List BodyData = only (at_each P f B) P in
    let m : first_out (cond (has P b.id) (c ∷ rest) rest) ≡ None = sym (ap (λ u. first_out (cond u (c ∷ rest) rest)) (ap (has P) (ids_step f same b (has P b.id)))) ∙ n in
    let o = one_out P f b rest (has P b.id) refl (here b) a.0 m in
    (o.0, each_out P f same here B a.1 o.1)

-- ---- a kick by nothing

no_kick : (p v : ℤ) → p +ℤ (pos 0 *ℤ v) ≡ p
no_kick p v = omega (arith, ints)

same_step : (f : BodyData → BodyData) → ((b : BodyData) → f b ≡ b) → (b : BodyData) (t : Bool) → cond t (f b) b ≡ b
same_step f e b true = e b
same_step f e b false = refl

all_same : (P : List ℕ) (f : BodyData → BodyData) → ((b : BodyData) → f b ≡ b) → (B : List BodyData) → at_each P f B ≡ B
all_same P f e [] = refl
all_same P f e (b ∷ B) = λ i. same_step f e b (has P b.id) i ∷ all_same P f e B i

not_pushed : (v : BodyData → V3) (b : BodyData) → pushed 0 v b ≡ b
not_pushed v b = λ i. record b { motion = record { pos = b.motion.pos; mom = record { x = no_kick b.motion.mom.x (v b).x i; y = no_kick b.motion.mom.y (v b).y i; z = no_kick b.motion.mom.z (v b).z i } } }

pub not_kicked : (h : ℕ) (P : List ℕ) (v : BodyData → V3) (B : List BodyData) → h ≡ 0 → kicked_bodies h P v B ≡ B
not_kicked h P v B e = ap (λ k. kicked_bodies k P v B) e ∙ all_same P (pushed 0 v) (not_pushed v) B

-- ---- the drift

below_width : (z : ℤ) → unsigned_abs (int_rem_euclid z (pos (2 ^ 32))) < 2 ^ 32
below_width (pos a) = mod-lt a (omega arith)
below_width (negsuc a) = omega arith

either_fit : (t : Bool) (c b : BodyData) → IsFit c → IsFit b → IsFit (cond t c b)
either_fit true c b h g = h
either_fit false c b h g = g

pub drift_fits : (s : SetupData) (P : List ℕ) (ticks : ℕ) (B : List BodyData) → AllByRecursion IsFit B → AllByRecursion IsFit (drift s P ticks B)
drift_fits s P ticks [] a = tt
drift_fits s P ticks (b ∷ B) a =
    let moved : IsFit (drifted s ticks b) = record { place = record { below_x = below_width _; below_y = below_width _; below_z = below_width _ }; range = a.0.range } in
    (either_fit (has P b.id) (drifted s ticks b) b moved a.0, drift_fits s P ticks B a.1)

pub undrift_fits : (s : SetupData) (P : List ℕ) (ticks : ℕ) (B : List BodyData) → AllByRecursion IsFit B → AllByRecursion IsFit (undrift s P ticks B)
undrift_fits s P ticks [] a = tt
undrift_fits s P ticks (b ∷ B) a =
    let moved : IsFit (undrifted s ticks b) = record { place = record { below_x = below_width _; below_y = below_width _; below_z = below_width _ }; range = a.0.range } in
    (either_fit (has P b.id) (undrifted s ticks b) b moved a.0, undrift_fits s P ticks B a.1)

pub places_of : (B : List BodyData) → AllByRecursion IsFit B → AllByRecursion (λ b. InBox b.motion.pos) B
places_of [] a = tt
places_of (b ∷ B) a = (a.0.place, places_of B a.1)
