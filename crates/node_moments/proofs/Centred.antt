-- Sums about the centre, by sums from the corner.
use Rattle.std.proofs.Common.{◌≡◌, ℕ, ◌+◌, ◌-◌, ◌*◌, ◌/◌, ◌<◌, ◌≤◌, List, [], ◌∷◌, sum_by, ap, sym, ◌∙◌, arith, pos, ◌-ℤ◌, ◌*ℤ◌}
use Rattle.std.specs.List.{AllByRecursion}
use Rattle.std.proofs.lemmas.Int.{ints}
use Rattle.std.proofs.lemmas.List.Sums.{sum_by-cons}
use Rattle.std.proofs.Math.Nat.{add-mul-div_left}
use Rattle.nbody_model.specs.Bodies.{BodyData}
use Rattle.nbody_model.specs.Moments.{mass_of, moment_of}
use Rattle.model_laws.proofs.Signed.{total_by}
use Rattle.model_laws.proofs.Centres.{int_sum-total}
use Rattle.node_moments.specs.Sums.{first, second}
use Rattle.node_moments.specs.Computed.{about}
use Rattle.node_moments.proofs.Signs.{product, weighed}

pub all_first : (p : BodyData → ℕ) (a : ℕ) (ms : List BodyData) → AllByRecursion (λ b. a ≤ p b) ms → sum_by (λ b. b.mass * p b) ms ≡ first (λ b. p b - a) ms + mass_of ms * a
all_first p a [] h = omega arith
all_first p a (m ∷ ms) h =
    let e : p m ≡ p m - a + a = omega (arith, h.0) in
    omega (arith, sum_by-cons (λ b. b.mass * p b) m ms, sum_by-cons (λ b. b.mass * (p b - a)) m ms, ap (λ t. t * a) (sum_by-cons (λ b. b.mass) m ms), ap (λ t. m.mass * t) e, all_first p a ms h.1)

-- the mean coordinate is the corner's and the mean distance
pub mean_from : (p : BodyData → ℕ) (a : ℕ) (ms : List BodyData) → 0 < mass_of ms → AllByRecursion (λ b. a ≤ p b) ms → a + first (λ b. p b - a) ms / mass_of ms ≡ sum_by (λ b. b.mass * p b) ms / mass_of ms
mean_from p a ms some h = omega (arith, add-mul-div_left (first (λ b. p b - a) ms) a some, ap (λ t. t / mass_of ms) (all_first p a ms h))

one_moment : (m p q a b e f : ℕ) → a ≤ p → b ≤ q → pos m *ℤ ((pos p -ℤ pos (a + e)) *ℤ (pos q -ℤ pos (b + f))) ≡ about (m * ((p - a) * (q - b))) m e f (m * (p - a)) (m * (q - b))
one_moment m p q a b e f h k =
    let x : pos p -ℤ pos (a + e) ≡ pos (p - a) -ℤ pos e = omega (arith, ints, h) in
    let y : pos q -ℤ pos (b + f) ≡ pos (q - b) -ℤ pos f = omega (arith, ints, k) in
    ap (λ t. pos m *ℤ (t *ℤ (pos q -ℤ pos (b + f)))) x
    ∙ ap (λ t. pos m *ℤ ((pos (p - a) -ℤ pos e) *ℤ t)) y
    ∙ ap (λ t. pos m *ℤ t) (product (p - a) e (q - b) f)
    ∙ weighed m ((p - a) * (q - b) + e * f) (e * (q - b) + f * (p - a))
    ∙ omega (arith, ints)

all_moments : (p q : BodyData → ℕ) (a b e f : ℕ) (ms : List BodyData) → AllByRecursion (λ m. a ≤ p m) ms → AllByRecursion (λ m. b ≤ q m) ms → total_by (λ m. pos m.mass *ℤ ((pos (p m) -ℤ pos (a + e)) *ℤ (pos (q m) -ℤ pos (b + f)))) ms
    ≡ about (second (λ m. p m - a) (λ m. q m - b) ms) (mass_of ms) e f (first (λ m. p m - a) ms) (first (λ m. q m - b) ms)
all_moments p q a b e f [] h k = omega (arith, ints)
all_moments p q a b e f (m ∷ ms) h k =
    omega (
      arith,
      ints,
      one_moment m.mass (p m) (q m) a b e f h.0 k.0,
      all_moments p q a b e f ms h.1 k.1,
      sum_by-cons (λ m. m.mass * ((p m - a) * (q m - b))) m ms,
      ap (λ t. t * (e * f)) (sum_by-cons (λ m. m.mass) m ms),
      ap (λ t. e * t) (sum_by-cons (λ m. m.mass * (q m - b)) m ms),
      ap (λ t. f * t) (sum_by-cons (λ m. m.mass * (p m - a)) m ms),
    )

pub moment_from : (p q : BodyData → ℕ) (a b e f : ℕ) (ms : List BodyData) → AllByRecursion (λ m. a ≤ p m) ms → AllByRecursion (λ m. b ≤ q m) ms
    → about (second (λ m. p m - a) (λ m. q m - b) ms) (mass_of ms) e f (first (λ m. p m - a) ms) (first (λ m. q m - b) ms)
    ≡ moment_of (λ m. pos (p m) -ℤ pos (a + e)) (λ m. pos (q m) -ℤ pos (b + f)) ms
moment_from p q a b e f ms h k =
    sym (int_sum-total (λ m. pos m.mass *ℤ ((pos (p m) -ℤ pos (a + e)) *ℤ (pos (q m) -ℤ pos (b + f)))) ms ∙ all_moments p q a b e f ms h k)
