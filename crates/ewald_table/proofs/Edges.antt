-- Where a distance is 0 or half the box, the entries that count are 0 on its axis.
use Rattle.std.proofs.Common.{◌≡◌, ◌⊎◌, ℕ, ◌+◌, ◌-◌, ◌*◌, ◌/◌, ◌<◌, ◌≤◌, ◌^◌, ℤ, pos, ◌+ℤ◌, inl, inr, ap, ◌∙◌, arith}
use Rattle.std.proofs.Math.Nat.{zero-div}
use Rattle.std.proofs.Math.IntN.{zero-*ℤ, *ℤ-zero}
use Rattle.std.proofs.lemmas.Int.{ints}
use Rattle.std.proofs.lemmas.Nat.{div-mul-add, pow_pos, pow-add}
use Rattle.nbody_model.specs.Scaling.{◌·◌}
use Rattle.nbody_model.specs.Tables.{TableData, IsTable, IsEdge, points, entry_at}
use Rattle.nbody_model.specs.Correction.{spacing, step_of, weight, mean}

-- a distance of 0, or of half the box
abbrev pub AtEdge : ℕ → Type 0
AtEdge u = (u ≡ 0) ⊎ (u ≡ 2 ^ 31)

-- a point counts nothing, or lies on an edge plane
abbrev Still : TableData → ℕ → ℕ → Type 0
Still t u c = (weight t u c ≡ 0) ⊎ IsEdge t (step_of t u + c)

all_of : (n w : ℕ) → 0 < w → n * w / w ≡ n
all_of n w h = let e : n * w ≡ n * w + 0 = omega arith in ap (λ n. n / w) e ∙ div-mul-add n w 0 h

still : (t : TableData) → IsTable t → (u : ℕ) → AtEdge u → (Still t u 0) × (Still t u 1)
still t h u (inl e) =
    let q : u / spacing t ≡ 0 = ap (λ n. n / spacing t) e ∙ zero-div (spacing t) in
    let step : step_of t u ≡ 0 = omega (arith, q) in
    (inr (inl (omega (arith, step))), inl (omega (arith, e)))
still t h u (inr e) =
    let w : ℕ = spacing t in
    let some : 0 < 2 ^ t.g = pow_pos t.g in
    let sum : 31 ≡ t.g + (31 - t.g) = (let g : t.g ≤ 6 = h.fine in omega arith) in
    let whole : 2 ^ 31 ≡ 2 ^ t.g * w = ap (λ n. 2 ^ n) sum ∙ pow-add 2 t.g (31 - t.g) in
    let q : u / w ≡ 2 ^ t.g = ap (λ n. n / w) (e ∙ whole) ∙ all_of (2 ^ t.g) w (pow_pos (31 - t.g)) in
    let step : step_of t u + 1 ≡ 2 ^ t.g = omega (arith, q, some) in
    let times : (step_of t u + 1) * w ≡ 2 ^ t.g * w = ap (λ n. n * w) step in
    (inl (omega (arith, e, whole, times)), inr (inr step))

inside : (t : TableData) (u c : ℕ) → c ≤ 1 → step_of t u + c < points t
inside t u c h = let some : 0 < 2 ^ t.g = pow_pos t.g in omega arith

no_count : (n : ℕ) (p : ℤ) → n ≡ 0 → n · p ≡ pos 0
no_count n p e = ap (λ n. n · p) e ∙ zero-*ℤ p

no_number : (n : ℕ) (p : ℤ) → p ≡ pos 0 → n · p ≡ pos 0
no_number n p e = ap (λ p. n · p) e ∙ *ℤ-zero (pos n)

-- what a corner adds on an axis on which it counts nothing or lies on an edge plane
x_term : (t : TableData) → IsTable t → (u v w c d e : ℕ) → c ≤ 1 → d ≤ 1 → e ≤ 1 → Still t u c → weight t u c * weight t v d * weight t w e · (entry_at t (step_of t u + c) (step_of t v + d) (step_of t w + e)).x ≡ pos 0
x_term t h u v w c d e i j k (inl z) = no_count (weight t u c * weight t v d * weight t w e) _ (ap (λ n. n * weight t v d * weight t w e) z ∙ omega arith)
x_term t h u v w c d e i j k (inr z) = no_number (weight t u c * weight t v d * weight t w e) _ ((h.each (step_of t u + c) (step_of t v + d) (step_of t w + e) (inside t u c i) (inside t v d j) (inside t w e k)).edge_x z)

y_term : (t : TableData) → IsTable t → (u v w c d e : ℕ) → c ≤ 1 → d ≤ 1 → e ≤ 1 → Still t v d → weight t u c * weight t v d * weight t w e · (entry_at t (step_of t u + c) (step_of t v + d) (step_of t w + e)).y ≡ pos 0
y_term t h u v w c d e i j k (inl z) = no_count (weight t u c * weight t v d * weight t w e) _ (ap (λ n. weight t u c * n * weight t w e) z ∙ omega arith)
y_term t h u v w c d e i j k (inr z) = no_number (weight t u c * weight t v d * weight t w e) _ ((h.each (step_of t u + c) (step_of t v + d) (step_of t w + e) (inside t u c i) (inside t v d j) (inside t w e k)).edge_y z)

z_term : (t : TableData) → IsTable t → (u v w c d e : ℕ) → c ≤ 1 → d ≤ 1 → e ≤ 1 → Still t w e → weight t u c * weight t v d * weight t w e · (entry_at t (step_of t u + c) (step_of t v + d) (step_of t w + e)).z ≡ pos 0
z_term t h u v w c d e i j k (inl z) = no_count (weight t u c * weight t v d * weight t w e) _ (ap (λ n. weight t u c * weight t v d * n) z ∙ omega arith)
z_term t h u v w c d e i j k (inr z) = no_number (weight t u c * weight t v d * weight t w e) _ ((h.each (step_of t u + c) (step_of t v + d) (step_of t w + e) (inside t u c i) (inside t v d j) (inside t w e k)).edge_z z)

eight : (a b c d e f g h : ℤ) → a ≡ pos 0 → b ≡ pos 0 → c ≡ pos 0 → d ≡ pos 0 → e ≡ pos 0 → f ≡ pos 0 → g ≡ pos 0 → h ≡ pos 0
    → (((((((pos 0 +ℤ a) +ℤ b) +ℤ c) +ℤ d) +ℤ e) +ℤ f) +ℤ g) +ℤ h ≡ pos 0
eight a b c d e f g h za zb zc zd ze zf zg zh = omega (arith, ints, za, zb, zc, zd, ze, zf, zg, zh)

zero : 0 ≤ 1
zero = omega arith

one : 1 ≤ 1
one = omega arith

pub zero_on_x : (t : TableData) → IsTable t → (u v w : ℕ) → AtEdge u → (mean t u v w).x ≡ pos 0
unfolding mean
zero_on_x t h u v w edge =
    let z = still t h u edge in
    eight _ _ _ _ _ _ _ _
    (x_term t h u v w 0 0 0 zero zero zero z.0)
    (x_term t h u v w 1 0 0 one zero zero z.1)
    (x_term t h u v w 0 1 0 zero one zero z.0)
    (x_term t h u v w 1 1 0 one one zero z.1)
    (x_term t h u v w 0 0 1 zero zero one z.0)
    (x_term t h u v w 1 0 1 one zero one z.1)
    (x_term t h u v w 0 1 1 zero one one z.0)
    (x_term t h u v w 1 1 1 one one one z.1)

pub zero_on_y : (t : TableData) → IsTable t → (u v w : ℕ) → AtEdge v → (mean t u v w).y ≡ pos 0
unfolding mean
zero_on_y t h u v w edge =
    let z = still t h v edge in
    eight _ _ _ _ _ _ _ _
    (y_term t h u v w 0 0 0 zero zero zero z.0)
    (y_term t h u v w 1 0 0 one zero zero z.0)
    (y_term t h u v w 0 1 0 zero one zero z.1)
    (y_term t h u v w 1 1 0 one one zero z.1)
    (y_term t h u v w 0 0 1 zero zero one z.0)
    (y_term t h u v w 1 0 1 one zero one z.0)
    (y_term t h u v w 0 1 1 zero one one z.1)
    (y_term t h u v w 1 1 1 one one one z.1)

pub zero_on_z : (t : TableData) → IsTable t → (u v w : ℕ) → AtEdge w → (mean t u v w).z ≡ pos 0
unfolding mean
zero_on_z t h u v w edge =
    let z = still t h w edge in
    eight _ _ _ _ _ _ _ _
    (z_term t h u v w 0 0 0 zero zero zero z.0)
    (z_term t h u v w 1 0 0 one zero zero z.0)
    (z_term t h u v w 0 1 0 zero one zero z.0)
    (z_term t h u v w 1 1 0 one one zero z.0)
    (z_term t h u v w 0 0 1 zero zero one z.1)
    (z_term t h u v w 1 0 1 one zero one z.1)
    (z_term t h u v w 0 1 1 zero one one z.1)
    (z_term t h u v w 1 1 1 one one one z.1)
