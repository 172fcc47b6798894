-- A kick by opposite forces takes a kick back.
use Rattle.std.proofs.Common.{◌≡◌, ◌==◌, ℕ, zero, suc, Bool, true, false, cond, ℤ, pos, negsuc, ◌+ℤ◌, ◌-ℤ◌, ◌*ℤ◌, neg_ℤ, List, [], ◌∷◌, map, Some, None, refl, ap, sym, ◌∙◌, arith}
use Rattle.std.specs.List.{AllByRecursion}
use Rattle.std.proofs.lemmas.Int.{ints}
use Rattle.std.proofs.Math.IntN.{*ℤ-zero, *ℤ-negsuc, zero-*ℤ}
use Rattle.fixed_point.specs.declared.V3.{V3}
use Rattle.fixed_point.specs.Vectors.{plus, negative}
use Rattle.nbody_model.specs.Bodies.{BodyData, IsInRange, has, only}
use Rattle.nbody_model.specs.Steps.{at_each, kicked_by, axis_out, first_out}
use Rattle.kick_drift.specs.Parts.{ids_at, force_for, less_fast, change_of, after_kick}
use Rattle.rewind_laws.specs.Back.{unkicked, unkicked_by, unkicked_bodies}
use Rattle.rewind_laws.proofs.Fits.{in_range}
use Rattle.kick_drift.specs.declared.kicks.KickErr.{KickErr}
use Rattle.kick_drift.specs.declared.kicks.KickErr.TheVariants.{MomRange}
use Rattle.kick_drift.specs.Parts.{IsRefusal}
use Rattle.rewind.specs.Undoing.{before_kick, out_before, IsOutBefore}

-- ---- opposite forces

neg_plus : (v w : V3) → plus (negative v) (negative (negative w)) ≡ negative (plus v (negative w))
neg_plus v w = λ i. record { x = one v.x w.x i; y = one v.y w.y i; z = one v.z w.z i }
  where
    one : (a b : ℤ) → neg_ℤ a +ℤ neg_ℤ (neg_ℤ b) ≡ neg_ℤ (a +ℤ neg_ℤ b)
    one a b = omega (arith, ints)

neg_for : (P : List ℕ) (f : List V3) (n : ℕ) → force_for P (map negative f) n ≡ negative (force_for P f n)
neg_for [] f n = refl
neg_for (p ∷ P) [] n = refl
neg_for (p ∷ P) (v ∷ f) n = by (p == n) (neg_for P f n)
  where
    by : (b : Bool) → force_for P (map negative f) n ≡ negative (force_for P f n) → cond b (negative v) (force_for P (map negative f) n) ≡ negative (cond b v (force_for P f n))
    by true e = refl
    by false e = e

neg_less : (F : List ℕ) (g : List V3) (n : ℕ) (slow : V3) → less_fast F (map negative g) n (negative slow) ≡ negative (less_fast F g n slow)
neg_less F g n slow = by (has F n)
  where
    by : (b : Bool) → cond b (plus (negative slow) (negative (force_for F (map negative g) n))) (negative slow) ≡ negative (cond b (plus slow (negative (force_for F g n))) slow)
    by true = ap (λ q. plus (negative slow) (negative q)) (neg_for F g n) ∙ neg_plus slow (force_for F g n)
    by false = refl

neg_change : (P : List ℕ) (f : List V3) (F : List ℕ) (g : List V3) (b : BodyData) → change_of P (map negative f) F (map negative g) b ≡ negative (change_of P f F g b)
neg_change P f F g b = ap (less_fast F (map negative g) b.id) (neg_for P f b.id) ∙ neg_less F g b.id (force_for P f b.id)

-- ---- the kick

mul_neg : (h : ℕ) (v : ℤ) → pos h *ℤ neg_ℤ v ≡ neg_ℤ (pos h *ℤ v)
mul_neg h (pos zero) = *ℤ-zero (pos h) ∙ ap neg_ℤ (sym (*ℤ-zero (pos h)))
mul_neg h (pos (suc n)) = *ℤ-negsuc (pos h) n
mul_neg h (negsuc n) = twice (pos h *ℤ pos (suc n)) ∙ ap neg_ℤ (sym (*ℤ-negsuc (pos h) n))
  where
    twice : (a : ℤ) → a ≡ neg_ℤ (neg_ℤ a)
    twice a = omega (arith, ints)

back_axis : (p : ℤ) (h : ℕ) (v : ℤ) → p +ℤ (pos h *ℤ neg_ℤ v) ≡ unkicked p h v
back_axis p h v = ap (λ z. p +ℤ z) (mul_neg h v) ∙ less p (pos h *ℤ v)
  where
    less : (a b : ℤ) → a +ℤ neg_ℤ b ≡ a -ℤ b
    less a b = omega (arith, ints)

back_by_kick : (h : ℕ) (p v : V3) → kicked_by h p (negative v) ≡ unkicked_by h p v
back_by_kick h p v = λ i. record { x = back_axis p.x h v.x i; y = back_axis p.y h v.y i; z = back_axis p.z h v.z i }

pub kicked_back : (h : ℕ) (whole : List ℕ) (f : List V3) (fast : List ℕ) (g : List V3) (B : List BodyData) → after_kick h whole (map negative f) fast (map negative g) B ≡ before_kick h whole f fast g B
kicked_back h whole f fast g B =
    let P = ids_at B whole in
    let F = ids_at B fast in
    λ i. at_each P (λ b. record b { motion = record { pos = b.motion.pos; mom = (ap (kicked_by h b.motion.mom) (neg_change P f F g b) ∙ back_by_kick h b.motion.mom (change_of P f F g b)) i } }) B

-- ---- by 0 nothing changes

none_axis : (p v : ℤ) → p ≡ unkicked p 0 v
none_axis p v = less p ∙ ap (λ z. p -ℤ z) (sym (zero-*ℤ v))
  where
    less : (a : ℤ) → a ≡ a -ℤ pos 0
    less a = omega (arith, ints)

pub unkicked_by_none : (P : List ℕ) (v : BodyData → V3) (B : List BodyData) → B ≡ unkicked_bodies 0 P v B
unkicked_by_none P v [] = refl
unkicked_by_none P v (b ∷ B) = λ i. one (has P b.id) i ∷ unkicked_by_none P v B i
  where
    one : (t : Bool) → b ≡ cond t (record b { motion = record { pos = b.motion.pos; mom = unkicked_by 0 b.motion.mom (v b) } }) b
    one true = λ i. record b { motion = record { pos = b.motion.pos; mom = record { x = none_axis b.motion.mom.x (v b).x i; y = none_axis b.motion.mom.y (v b).y i; z = none_axis b.motion.mom.z (v b).z i } } }
    one false = refl

none_here : (b : BodyData) (rest : List BodyData) (t : Bool) → axis_out b.motion.mom ≡ None → first_out rest ≡ None → first_out (cond t (b ∷ rest) rest) ≡ None
none_here b rest true e f = (λ i. elim (e i) [ Some axis ↦ Some (b.id, axis) | None ↦ first_out rest ]) ∙ f
none_here b rest false e f = f

pub none_out : (P : List ℕ) (B : List BodyData) → AllByRecursion (λ b. IsInRange b.motion.mom) B → first_out (only B P) ≡ None
none_out P [] a = refl
none_out P (b ∷ B) a = none_here b (only B P) (has P b.id) (in_range b.motion.mom a.0) (none_out P B a.1)

-- what refuses the kick by opposite forces refuses that it is taken back
pub refused_before : (B : List BodyData) (e : KickErr) → IsRefusal B e → IsOutBefore (first_out B) (out_before e)
refused_before B (MomRange id axis) h = h
