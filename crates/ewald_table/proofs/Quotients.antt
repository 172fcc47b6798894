-- Quotients by powers of two, truncated toward zero.
use Rattle.std.proofs.Common.{◌≡◌, ℕ, ◌+◌, ◌*◌, ◌/◌, ◌<◌, ◌≤◌, ◌^◌, if◌then◌else◌, Bool, true, false, ℤ, pos, negsuc, ◌-ℤ◌, neg_ℤ, refl, sym, ap, ◌∙◌, arith, SFits, to_z, of_z, to_z-of_z}
use Rattle.std.specs.Prelude.{unsigned_abs, int_lt}
use Rattle.std.specs.Int.{w64, w128}
use Rattle.std.proofs.lemmas.Int.{ints}
use Rattle.std.proofs.lemmas.Nat.{div_below, pow_pos}
use Rattle.nbody_model.specs.Scaling.{◌÷◌}

quotient_small : (n shift : ℕ) → n ≤ 2 ^ shift * 2 ^ 31 → n / 2 ^ shift ≤ 2 ^ 31
quotient_small n shift h =
    let some : 0 < 2 ^ shift = pow_pos shift in
    let below : n / 2 ^ shift < 2 ^ 31 + 1 = div_below n (2 ^ shift) (2 ^ 31 + 1) some (omega arith) in
    omega arith

by_sign : (m : ℤ) (d : ℕ) (below : Bool) → int_lt m (pos 0) ≡ below → m ÷ d ≡ (if below then neg_ℤ (pos (unsigned_abs m / d)) else pos (unsigned_abs m / d))
by_sign (pos a) d true e = absurd (omega (arith, ints))
by_sign (pos a) d false e = refl
by_sign (negsuc a) d true e = refl
by_sign (negsuc a) d false e = absurd cc

-- what the code computes is the quotient, and small
pub record IsQuotient (m : ℤ) (d : ℕ) (got : ℤ) : Type 0 where
  pub value : got ≡ m ÷ d
  pub small : unsigned_abs got ≤ 2 ^ 31

pub below_zero : (m : ℤ) (n shift : ℕ) → SFits w128 m → n ≡ unsigned_abs (to_z w128 (of_z w128 m)) → unsigned_abs m ≤ 2 ^ shift * 2 ^ 31 → int_lt (to_z w128 (of_z w128 m)) (pos 0) ≡ true
    → IsQuotient m (2 ^ shift) (to_z w64 (of_z w64 (pos 0 -ℤ to_z w64 (n / 2 ^ shift))))
below_zero m n shift f e h t =
    let size : n ≡ unsigned_abs m = e ∙ ap unsigned_abs (to_z-of_z f) in
    let small : n / 2 ^ shift ≤ 2 ^ 31 = quotient_small n shift (omega (arith, size, h)) in
    let quotient : m ÷ 2 ^ shift ≡ neg_ℤ (pos (unsigned_abs m / 2 ^ shift)) = by_sign m (2 ^ shift) true (ap (λ z. int_lt z (pos 0)) (sym (to_z-of_z f)) ∙ t) in
    let read : to_z w64 (of_z w64 (pos 0 -ℤ to_z w64 (n / 2 ^ shift))) ≡ neg_ℤ (pos (n / 2 ^ shift)) = omega (arith, ints, small) in
    record { value = read ∙ ap (λ k. neg_ℤ (pos (k / 2 ^ shift))) size ∙ sym quotient; small = omega (arith, ints, small) }

pub from_zero : (m : ℤ) (n shift : ℕ) → SFits w128 m → n ≡ unsigned_abs (to_z w128 (of_z w128 m)) → unsigned_abs m ≤ 2 ^ shift * 2 ^ 31 → int_lt (to_z w128 (of_z w128 m)) (pos 0) ≡ false
    → IsQuotient m (2 ^ shift) (to_z w64 (n / 2 ^ shift))
from_zero m n shift f e h t =
    let size : n ≡ unsigned_abs m = e ∙ ap unsigned_abs (to_z-of_z f) in
    let small : n / 2 ^ shift ≤ 2 ^ 31 = quotient_small n shift (omega (arith, size, h)) in
    let quotient : m ÷ 2 ^ shift ≡ pos (unsigned_abs m / 2 ^ shift) = by_sign m (2 ^ shift) false (ap (λ z. int_lt z (pos 0)) (sym (to_z-of_z f)) ∙ t) in
    let read : to_z w64 (n / 2 ^ shift) ≡ pos (n / 2 ^ shift) = omega (arith, ints, small) in
    record { value = read ∙ ap (λ k. pos (k / 2 ^ shift)) size ∙ sym quotient; small = omega (arith, ints, small) }
