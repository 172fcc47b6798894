-- Sums of two numbers by how much two points count.
use Rattle.std.proofs.Common.{◌≡◌, ℕ, ◌+◌, ◌*◌, ◌<◌, ◌≤◌, ◌^◌, ℤ, pos, ◌+ℤ◌, sym, ap, subst, ◌∙◌, arith, SFits, to_z, of_z, to_z-of_z}
use Rattle.std.specs.Prelude.{unsigned_abs}
use Rattle.std.specs.Int.{Width, w32, w128}
use mir.Val.{hbits}
use Rattle.std.proofs.lemmas.Int.{ints, unsigned_abs-mul, fits_signed_from_abs}
use Rattle.std.proofs.lemmas.Nat.{mul-le}
use Rattle.nbody_model.specs.Scaling.{◌·◌}
use Rattle.ewald_table.specs.declared.place.Place.{Place}
use Rattle.ewald_table.specs.Mixed.{mixed}

-- each of two products is at most its count times the bound, so their sum is
sum_small : (a b : ℕ) (x y : ℤ) (n : ℕ) → unsigned_abs x ≤ n → unsigned_abs y ≤ n → unsigned_abs ((a · x) +ℤ (b · y)) ≤ (a + b) * n
sum_small a b x y n h k =
    let first = mul-le a (unsigned_abs x) a n (omega arith) h in
    let second = mul-le b (unsigned_abs y) b n (omega arith) k in
    let sum : unsigned_abs ((a · x) +ℤ (b · y)) ≤ unsigned_abs (a · x) + unsigned_abs (b · y) = omega (arith, ints) in
    omega (arith, first, second, sum, unsigned_abs-mul (pos a) x, unsigned_abs-mul (pos b) y)

-- a number is the sum of two others by these counts, and is as small as they are
pub record IsMix (a b : ℕ) (x y got : ℤ) : Type 0 where
  pub value : got ≡ (a · x) +ℤ (b · y)
  pub size : (n : ℕ) → unsigned_abs x ≤ n → unsigned_abs y ≤ n → unsigned_abs got ≤ (a + b) * n

of_value : (a b : ℕ) (x y got : ℤ) → got ≡ (a · x) +ℤ (b · y) → IsMix a b x y got
of_value a b x y got e = record { value = e; size = λ n h k. subst (λ g. unsigned_abs g ≤ (a + b) * n) (sym e) (sum_small a b x y n h k) }

-- as the code computes it, where the numbers are so small that the sum fits
pub mix_is : (w u : Width) (a b : ℕ) (r s x y : ℤ) (n : ℕ) → SFits u x → SFits u y → SFits w r → SFits w s → unsigned_abs x ≤ n → unsigned_abs y ≤ n → (a + b) * n < 2 ^ hbits w
    → r ≡ a · to_z u (of_z u x) → s ≡ b · to_z u (of_z u y) → IsMix a b x y (to_z w (of_z w (to_z w (of_z w r) +ℤ to_z w (of_z w s))))
mix_is w u a b r s x y n fx fy fr fs h k small e g =
    let sum : r +ℤ s ≡ (a · x) +ℤ (b · y) = (λ i. e i +ℤ g i) ∙ (λ i. (a · to_z-of_z fx i) +ℤ (b · to_z-of_z fy i)) in
    let fits : SFits w (r +ℤ s) = fits_signed_from_abs w (r +ℤ s) (omega (arith, ap unsigned_abs sum, sum_small a b x y n h k, small)) in
    of_value a b x y _ ((λ i. to_z w (of_z w (to_z-of_z fr i +ℤ to_z-of_z fs i))) ∙ to_z-of_z fits ∙ sum)

-- the same through a cast that keeps it
pub mix_cast : (w : Width) (a b : ℕ) (x y r got : ℤ) → SFits w r → r ≡ got → IsMix a b x y got → IsMix a b x y (to_z w (of_z w r))
mix_cast w a b x y r got f e h = subst (IsMix a b x y) (sym (to_z-of_z f ∙ e)) h

pub fits_size : (z : ℤ) → SFits w32 z → unsigned_abs z ≤ 2 ^ 31
fits_size z h = omega (arith, ints)

-- what a call that was handed two numbers gives of them
pub pair_read : (w : Width) (p : Place) (r a b : ℤ) → SFits w a → SFits w b → r ≡ mixed p (to_z w (of_z w a)) (to_z w (of_z w b)) → r ≡ mixed p a b
pair_read w p r a b f g e = e ∙ (λ i. mixed p (to_z-of_z f i) (to_z-of_z g i))

pub size_read : (r : ℤ) (n : ℕ) → SFits w128 r → unsigned_abs r ≤ n → unsigned_abs (to_z w128 (of_z w128 r)) ≤ n
size_read r n f h = subst (λ z. unsigned_abs z ≤ n) (sym (to_z-of_z f)) h
