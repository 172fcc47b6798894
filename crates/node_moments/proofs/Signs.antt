-- Products of differences.
use Rattle.std.proofs.Common.{◌≡◌, ℕ, suc, ◌+◌, ◌-◌, ◌*◌, ◌<◌, ◌≤◌, ap, ◌∙◌, arith, ◌⊎◌, inl, inr, pos, negsuc, ◌-ℤ◌, ◌*ℤ◌, neg_ℤ}
use Rattle.std.proofs.lemmas.Int.{ints}
use Rattle.std.proofs.lemmas.Bool.{cases_lt}
use Rattle.std.proofs.Math.IntN.{pos-*ℤ-pos, pos-*ℤ-negsuc, negsuc-*ℤ-pos, negsuc-*ℤ-negsuc}

-- a difference is a number, or the negative of one
data Apart (u e : ℕ) : Type 0 where
  above : (a : ℕ) → u ≡ e + a → Apart u e
  below : (a : ℕ) → e ≡ u + suc a → Apart u e

apart : (u e : ℕ) → Apart u e
apart u e = from (cases_lt u e)
  where
    from : (u < e) ⊎ (e ≤ u) → Apart u e
    from (inl h) = below (e - u - 1) (omega (arith, h))
    from (inr h) = above (u - e) (omega (arith, h))

difference_above : (u e a : ℕ) → u ≡ e + a → pos u -ℤ pos e ≡ pos a
difference_above u e a h = omega (arith, ints, h)

difference_below : (u e a : ℕ) → e ≡ u + suc a → pos u -ℤ pos e ≡ negsuc a
difference_below u e a h = omega (arith, ints, h)

both_above : (u e v f a b : ℕ) → u ≡ e + a → v ≡ f + b → pos (a * b) ≡ pos (u * v + e * f) -ℤ pos (e * v + f * u)
both_above u e v f a b h k = rw (h, k) (omega (arith, ints))

one_below : (u e v f a b : ℕ) → u ≡ e + a → f ≡ v + suc b → neg_ℤ (pos (a * suc b)) ≡ pos (u * v + e * f) -ℤ pos (e * v + f * u)
one_below u e v f a b h k = rw (h, k) (omega (arith, ints))

other_below : (u e v f a b : ℕ) → e ≡ u + suc a → v ≡ f + b → neg_ℤ (pos (suc a * b)) ≡ pos (u * v + e * f) -ℤ pos (e * v + f * u)
other_below u e v f a b h k = rw (h, k) (omega (arith, ints))

both_below : (u e v f a b : ℕ) → e ≡ u + suc a → f ≡ v + suc b → pos (suc a * suc b) ≡ pos (u * v + e * f) -ℤ pos (e * v + f * u)
both_below u e v f a b h k = rw (h, k) (omega (arith, ints))

pub product : (u e v f : ℕ) → (pos u -ℤ pos e) *ℤ (pos v -ℤ pos f) ≡ pos (u * v + e * f) -ℤ pos (e * v + f * u)
product u e v f = from (apart u e) (apart v f)
  where
    from : Apart u e → Apart v f → (pos u -ℤ pos e) *ℤ (pos v -ℤ pos f) ≡ pos (u * v + e * f) -ℤ pos (e * v + f * u)
    from (above a h) (above b k) = ap (λ t. t *ℤ (pos v -ℤ pos f)) (difference_above u e a h) ∙ ap (λ t. pos a *ℤ t) (difference_above v f b k) ∙ pos-*ℤ-pos a b ∙ both_above u e v f a b h k
    from (above a h) (below b k) = ap (λ t. t *ℤ (pos v -ℤ pos f)) (difference_above u e a h) ∙ ap (λ t. pos a *ℤ t) (difference_below v f b k) ∙ pos-*ℤ-negsuc a b ∙ one_below u e v f a b h k
    from (below a h) (above b k) = ap (λ t. t *ℤ (pos v -ℤ pos f)) (difference_below u e a h) ∙ ap (λ t. negsuc a *ℤ t) (difference_above v f b k) ∙ negsuc-*ℤ-pos a b ∙ other_below u e v f a b h k
    from (below a h) (below b k) = ap (λ t. t *ℤ (pos v -ℤ pos f)) (difference_below u e a h) ∙ ap (λ t. negsuc a *ℤ t) (difference_below v f b k) ∙ negsuc-*ℤ-negsuc a b ∙ both_below u e v f a b h k

pub weighed : (m x y : ℕ) → pos m *ℤ (pos x -ℤ pos y) ≡ pos (m * x) -ℤ pos (m * y)
weighed m x y = from (apart x y)
  where
    from : Apart x y → pos m *ℤ (pos x -ℤ pos y) ≡ pos (m * x) -ℤ pos (m * y)
    from (above a h) = ap (λ t. pos m *ℤ t) (difference_above x y a h) ∙ pos-*ℤ-pos m a ∙ rw h (omega (arith, ints))
    from (below a h) = ap (λ t. pos m *ℤ t) (difference_below x y a h) ∙ pos-*ℤ-negsuc m a ∙ rw h (omega (arith, ints))
