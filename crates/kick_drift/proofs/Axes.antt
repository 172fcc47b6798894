-- The first axis on which a momentum is out of range.
use Rattle.std.proofs.Common.{◌≡◌, ℕ, ℤ, rules, ◌≤◌, ◌^◌, true, false, not, cond, arith, ap, sym, subst, ◌∙◌, FitsSigned, to_z, of_z, w64, nat_le, unsigned_abs}
use Rattle.std.specs.Int.{w128}
use Rattle.std.specs.Prelude.{Some, None}
use Rattle.std.proofs.lemmas.Int.{ints, to_z-of_z}
use Rattle.std.proofs.lemmas.Bool.Decides.{nat_tests}
use Rattle.fixed_point.specs.declared.V3.{V3}
use Rattle.fixed_point.specs.Fixed.{kicked, IsMomentum}
use Rattle.nbody_model.specs.Steps.{axis_out, is_momentum}

in_test : (n : ℕ) → n ≤ 2 ^ 62 → nat_le n (2 ^ 62) ≡ true
in_test n h = grind (arith, nat_tests)

out_test : (n : ℕ) → (n ≤ 2 ^ 62 → ⊥) → nat_le n (2 ^ 62) ≡ false
out_test n h = grind (arith, nat_tests)

is_in : (p : ℤ) → IsMomentum p → is_momentum p ≡ true
is_in p h = in_test (unsigned_abs p) (omega (arith, ints, h.0, h.1))

momentum_from : (p : ℤ) → unsigned_abs p ≤ 2 ^ 62 → IsMomentum p
momentum_from p h = (omega (arith, ints), omega (arith, ints))

is_out : (p : ℤ) → (IsMomentum p → ⊥) → is_momentum p ≡ false
is_out p h = out_test (unsigned_abs p) (λ l. h (momentum_from p l))

pub out_x : (q : V3) → (IsMomentum q.x → ⊥) → axis_out q ≡ Some 0
out_x q x = ap (λ t. cond (not t) (Some 0) (cond (not (is_momentum q.y)) (Some 1) (cond (not (is_momentum q.z)) (Some 2) None))) (is_out q.x x)

pub out_y : (q : V3) → IsMomentum q.x → (IsMomentum q.y → ⊥) → axis_out q ≡ Some 1
out_y q x y =
    ap (λ t. cond (not t) (Some 0) (cond (not (is_momentum q.y)) (Some 1) (cond (not (is_momentum q.z)) (Some 2) None))) (is_in q.x x)
    ∙ ap (λ t. cond (not t) (Some 1) (cond (not (is_momentum q.z)) (Some 2) None)) (is_out q.y y)

pub out_z : (q : V3) → IsMomentum q.x → IsMomentum q.y → (IsMomentum q.z → ⊥) → axis_out q ≡ Some 2
out_z q x y z =
    ap (λ t. cond (not t) (Some 0) (cond (not (is_momentum q.y)) (Some 1) (cond (not (is_momentum q.z)) (Some 2) None))) (is_in q.x x)
    ∙ ap (λ t. cond (not t) (Some 1) (cond (not (is_momentum q.z)) (Some 2) None)) (is_in q.y y)
    ∙ ap (λ t. cond (not t) (Some 2) None) (is_out q.z z)

pub out_none : (q : V3) → IsMomentum q.x → IsMomentum q.y → IsMomentum q.z → axis_out q ≡ None
out_none q x y z =
    ap (λ t. cond (not t) (Some 0) (cond (not (is_momentum q.y)) (Some 1) (cond (not (is_momentum q.z)) (Some 2) None))) (is_in q.x x)
    ∙ ap (λ t. cond (not t) (Some 1) (cond (not (is_momentum q.z)) (Some 2) None)) (is_in q.y y)
    ∙ ap (λ t. cond (not t) (Some 2) None) (is_in q.z z)

-- numbers as they come out of their bits
pub plain : (q p : ℤ) (h : ℕ) (change : ℤ) → q ≡ p → IsMomentum p → FitsSigned w128 change → kicked (to_z w64 (of_z w64 q)) h (to_z w128 (of_z w128 change)) ≡ kicked p h change
plain q p h change e m f =
    ap (λ t. kicked (to_z w64 (of_z w64 t)) h (to_z w128 (of_z w128 change))) e ∙ (λ i. kicked (to_z-of_z w64 p (narrow p m) i) h (to_z-of_z w128 change f i))
  where
    narrow : (p : ℤ) → IsMomentum p → FitsSigned w64 p
    narrow p m = search (rules, ints)

pub moves : (a b : ℤ) → a ≡ b → IsMomentum a → IsMomentum b
moves a b e h = subst IsMomentum e h

pub leaves : (a b : ℤ) → a ≡ b → (IsMomentum a → ⊥) → IsMomentum b → ⊥
leaves a b e h m = h (subst IsMomentum (sym e) m)
