-- Turned to the other side on an axis, the correction of this axis turns, and the others stay.
use Rattle.std.proofs.Common.{◌≡◌, ℕ, ◌*◌, ℤ, pos, negsuc, neg_ℤ, Bool, true, false, if◌then◌else◌, zero, suc, inl, refl, sym, ap, ◌∙◌, arith}
use Rattle.std.specs.Prelude.{unsigned_abs, int_lt}
use Rattle.std.proofs.Math.Nat.{zero-div}
use Rattle.std.proofs.lemmas.Int.{ints}
use Rattle.fixed_point.specs.declared.V3.{V3}
use Rattle.nbody_model.specs.Scaling.{◌÷◌}
use Rattle.nbody_model.specs.Tables.{TableData, IsTable}
use Rattle.nbody_model.specs.Correction.{signed, spacing, mean, correction}
use Rattle.ewald_table.specs.Turns.{IsOdd, IsEven, IsZeroOnEdges}
use Rattle.ewald_table.proofs.Edges.{zero_on_x, zero_on_y, zero_on_z}

same_size : (z : ℤ) → unsigned_abs (neg_ℤ z) ≡ unsigned_abs z
same_size z = omega (arith, ints)

nothing : (n : ℕ) (m : ℤ) → m ≡ pos 0 → m ÷ n ≡ pos 0
nothing n m e = ap (λ m. m ÷ n) e ∙ ap pos (zero-div n)

-- 0 has no sign
signed_nothing : (d e : ℤ) → e ≡ pos 0 → signed d e ≡ pos 0
signed_nothing d e z = ap (signed d) z ∙ cond_same (int_lt d (pos 0))
  where
    cond_same : (b : Bool) → (if b then neg_ℤ (pos 0) else pos 0) ≡ pos 0
    cond_same true = refl
    cond_same false = refl

-- the sign of d turns with it; at 0 the number has to be 0
signed_turns : (d e : ℤ) → (unsigned_abs d ≡ 0 → e ≡ pos 0) → signed (neg_ℤ d) e ≡ neg_ℤ (signed d e)
signed_turns (pos zero) e z = let none : e ≡ pos 0 = z refl in none ∙ sym (ap neg_ℤ none)
signed_turns (pos (suc n)) e z = ap neg_ℤ (sym (ap (λ b. if b then neg_ℤ e else e) (not_below (suc n))))
  where
    not_below : (k : ℕ) → int_lt (pos k) (pos 0) ≡ false
    not_below k = grind (arith, ints)
signed_turns (negsuc n) e z = ap (λ b. if b then neg_ℤ e else e) (not_below (suc n)) ∙ twice e
  where
    not_below : (k : ℕ) → int_lt (pos k) (pos 0) ≡ false
    not_below k = grind (arith, ints)

    twice : (e : ℤ) → e ≡ neg_ℤ (neg_ℤ e)
    twice e = omega (arith, ints)

pub zero_on_edges : (t : TableData) (d : V3) → IsTable t → IsZeroOnEdges t d
unfolding correction
zero_on_edges t d h = record {
  on_x = λ e. signed_nothing d.x _ (nothing (spacing t * spacing t * spacing t) _ (zero_on_x t h (unsigned_abs d.x) (unsigned_abs d.y) (unsigned_abs d.z) e));
  on_y = λ e. signed_nothing d.y _ (nothing (spacing t * spacing t * spacing t) _ (zero_on_y t h (unsigned_abs d.x) (unsigned_abs d.y) (unsigned_abs d.z) e));
  on_z = λ e. signed_nothing d.z _ (nothing (spacing t * spacing t * spacing t) _ (zero_on_z t h (unsigned_abs d.x) (unsigned_abs d.y) (unsigned_abs d.z) e));
}

pub even : (t : TableData) (d : V3) → IsEven t d
unfolding correction
even t d = let c : ℕ = spacing t * spacing t * spacing t in record {
  x_by_y = λ i. signed d.x ((mean t (unsigned_abs d.x) (same_size d.y i) (unsigned_abs d.z)).x ÷ c);
  x_by_z = λ i. signed d.x ((mean t (unsigned_abs d.x) (unsigned_abs d.y) (same_size d.z i)).x ÷ c);
  y_by_x = λ i. signed d.y ((mean t (same_size d.x i) (unsigned_abs d.y) (unsigned_abs d.z)).y ÷ c);
  y_by_z = λ i. signed d.y ((mean t (unsigned_abs d.x) (unsigned_abs d.y) (same_size d.z i)).y ÷ c);
  z_by_x = λ i. signed d.z ((mean t (same_size d.x i) (unsigned_abs d.y) (unsigned_abs d.z)).z ÷ c);
  z_by_y = λ i. signed d.z ((mean t (unsigned_abs d.x) (same_size d.y i) (unsigned_abs d.z)).z ÷ c);
}

pub odd : (t : TableData) (d : V3) → IsTable t → IsOdd t d
unfolding correction
odd t d h =
    let c : ℕ = spacing t * spacing t * spacing t in
    let u : ℕ = unsigned_abs d.x in
    let v : ℕ = unsigned_abs d.y in
    let w : ℕ = unsigned_abs d.z in
    record {
      on_x = (λ i. signed (neg_ℤ d.x) ((mean t (same_size d.x i) v w).x ÷ c)) ∙ signed_turns d.x ((mean t u v w).x ÷ c) (λ e. nothing c _ (zero_on_x t h u v w (inl e)));
      on_y = (λ i. signed (neg_ℤ d.y) ((mean t u (same_size d.y i) w).y ÷ c)) ∙ signed_turns d.y ((mean t u v w).y ÷ c) (λ e. nothing c _ (zero_on_y t h u v w (inl e)));
      on_z = (λ i. signed (neg_ℤ d.z) ((mean t u v (same_size d.z i)).z ÷ c)) ∙ signed_turns d.z ((mean t u v w).z ÷ c) (λ e. nothing c _ (zero_on_z t h u v w (inl e)));
    }
