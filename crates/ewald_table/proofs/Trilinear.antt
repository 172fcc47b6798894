-- The mean over a cell, taken one axis after the other, is the mean over its eight corners.
use Rattle.std.proofs.Common.{◌≡◌, ℕ, ◌+◌, ◌*◌, ℤ, pos, ◌+ℤ◌, List, ap, ◌∙◌, arith}
use Rattle.std.proofs.lemmas.Int.{ints}
use borrow.Author.Differences.{up, down}
use Rattle.fixed_point.specs.declared.V3.{V3}
use Rattle.nbody_model.specs.Scaling.{◌·◌}
use Rattle.nbody_model.specs.Tables.{TableData}
use Rattle.nbody_model.specs.Correction.{step_of, weight, mean}
use Rattle.ewald_table.specs.declared.place.Place.{Place}
use Rattle.ewald_table.specs.Mixed.{mixed_all, number, at_corners}

times_sum : (n : ℕ) (a b : ℤ) → n · (a +ℤ b) ≡ (n · a) +ℤ (n · b)
times_sum n a b =
    let sum : up (a +ℤ b) + down a + down b ≡ down (a +ℤ b) + up a + up b = omega (arith, ints) in
    let times = ap (λ m. n * m) sum in
    omega (arith, ints, times)

times_times : (m n : ℕ) (a : ℤ) → m · (n · a) ≡ m * n · a
times_times m n a =
    let inner : up (n · a) + n * down a ≡ down (n · a) + n * up a = omega (arith, ints) in
    let times = ap (λ k. m * k) inner in
    omega (arith, ints, times)

-- eight products by three counts, added up or nested
trilinear : (a b c d e f : ℕ) (p q r s t u v w : ℤ) →
    (((((((((pos 0 +ℤ (a * c * e · p)) +ℤ (b * c * e · q)) +ℤ (a * d * e · r)) +ℤ (b * d * e · s)) +ℤ (a * c * f · t)) +ℤ (b * c * f · u)) +ℤ (a * d * f · v)) +ℤ (b * d * f · w)))
    ≡ (e · ((c · ((a · p) +ℤ (b · q))) +ℤ (d · ((a · r) +ℤ (b · s))))) +ℤ (f · ((c · ((a · t) +ℤ (b · u))) +ℤ (d · ((a · v) +ℤ (b · w)))))
trilinear a b c d e f p q r s t u v w =
    omega (
      arith,
      ints,
      halves e c d ((a · p) +ℤ (b · q)) ((a · r) +ℤ (b · s)),
      halves f c d ((a · t) +ℤ (b · u)) ((a · v) +ℤ (b · w)),
      pair e c a b p q,
      pair e d a b r s,
      pair f c a b t u,
      pair f d a b v w,
    )
  where
    halves : (e c d : ℕ) (x y : ℤ) → e · ((c · x) +ℤ (d · y)) ≡ (e · (c · x)) +ℤ (e · (d · y))
    halves e c d x y = times_sum e (c · x) (d · y)

    once : (e c a : ℕ) (p : ℤ) → e · (c · (a · p)) ≡ a * c * e · p
    once e c a p = ap (λ z. e · z) (times_times c a p) ∙ times_times e (c * a) p ∙ ap (λ n. n · p) (omega arith)

    pair : (e c a b : ℕ) (p q : ℤ) → e · (c · ((a · p) +ℤ (b · q))) ≡ (a * c * e · p) +ℤ (b * c * e · q)
    pair e c a b p q = ap (λ z. e · z) (times_sum c (a · p) (b · q)) ∙ times_sum e (c · (a · p)) (c · (b · q)) ∙ (λ i. once e c a p i +ℤ once e c b q i)

-- where a distance lies on an axis of a table
pub record At (t : TableData) (p : Place) (u : ℕ) : Type 0 where
  pub step : p.step ≡ step_of t u
  pub near : p.near ≡ weight t u 0
  pub far : p.far ≡ weight t u 1

-- the numbers at the corners around three distances, by the weights of the table
pub nested : (V3 → ℤ) → TableData → ℕ → ℕ → ℕ → ℤ
nested get t u v w =
    let n : List ℤ = at_corners get t (step_of t u) (step_of t v) (step_of t w) in
    (weight t w 0
    · ((weight t v 0 · ((weight t u 0 · number n 0) +ℤ (weight t u 1 · number n 1))) +ℤ (weight t v 1 · ((weight t u 0 · number n 2) +ℤ (weight t u 1 · number n 3)))))
    +ℤ (weight t w 1
    · ((weight t v 0 · ((weight t u 0 · number n 4) +ℤ (weight t u 1 · number n 5))) +ℤ (weight t v 1 · ((weight t u 0 · number n 6) +ℤ (weight t u 1 · number n 7)))))

pub nested_is : (get : V3 → ℤ) (t : TableData) (x y z : Place) (u v w : ℕ) → At t x u → At t y v → At t z w → mixed_all x y z (at_corners get t x.step y.step z.step) ≡ nested get t u v w
unfolding nested
nested_is get t x y z u v w a b c = λ i.
    let n : List ℤ = at_corners get t (a.step i) (b.step i) (c.step i) in
    (c.near i · ((b.near i · ((a.near i · number n 0) +ℤ (a.far i · number n 1))) +ℤ (b.far i · ((a.near i · number n 2) +ℤ (a.far i · number n 3)))))
    +ℤ (c.far i · ((b.near i · ((a.near i · number n 4) +ℤ (a.far i · number n 5))) +ℤ (b.far i · ((a.near i · number n 6) +ℤ (a.far i · number n 7)))))

pub mean_x : (t : TableData) (u v w : ℕ) → (mean t u v w).x ≡ nested (λ e. e.x) t u v w
unfolding mean nested
mean_x t u v w = trilinear (weight t u 0) (weight t u 1) (weight t v 0) (weight t v 1) (weight t w 0) (weight t w 1) _ _ _ _ _ _ _ _

pub mean_y : (t : TableData) (u v w : ℕ) → (mean t u v w).y ≡ nested (λ e. e.y) t u v w
unfolding mean nested
mean_y t u v w = trilinear (weight t u 0) (weight t u 1) (weight t v 0) (weight t v 1) (weight t w 0) (weight t w 1) _ _ _ _ _ _ _ _

pub mean_z : (t : TableData) (u v w : ℕ) → (mean t u v w).z ≡ nested (λ e. e.z) t u v w
unfolding mean nested
mean_z t u v w = trilinear (weight t u 0) (weight t u 1) (weight t v 0) (weight t v 1) (weight t w 0) (weight t w 1) _ _ _ _ _ _ _ _
