-- Where a distance lies between the points of an axis.
use Rattle.std.proofs.Common.{◌≡◌, ◌⊎◌, ℕ, ◌+◌, ◌-◌, ◌*◌, ◌/◌, ◌%◌, ◌<◌, ◌≤◌, ◌^◌, min, inl, inr, ap, ◌∙◌, arith}
use Rattle.std.proofs.lemmas.Bool.{cases_lt}
use Rattle.std.proofs.lemmas.Nat.{div-add-mod', mod_below, mul-le, pow_pos, pow-add}
use Rattle.ewald_table.proofs.Grids.{steps_small}

-- a distance of at most n steps lies at most a step behind the point before it, and not before that
split : (u w n : ℕ) → 0 < w → 0 < n → u ≤ n * w → (u / w < n) ⊎ (n ≤ u / w) → (min (u / w) (n - 1) * w ≤ u) × (u ≤ min (u / w) (n - 1) * w + w)
split u w n h k l (inl m) =
    let d : u / w * w + u % w ≡ u = div-add-mod' u w in
    let r : u % w < w = mod_below u w h in
    let e : min (u / w) (n - 1) ≡ u / w = omega arith in
    let f : min (u / w) (n - 1) * w ≡ u / w * w = ap (λ t. t * w) e in
    (omega arith, omega arith)
split u w n h k l (inr m) =
    let d : u / w * w + u % w ≡ u = div-add-mod' u w in
    let e : min (u / w) (n - 1) ≡ n - 1 = omega arith in
    let f : min (u / w) (n - 1) * w ≡ (n - 1) * w = ap (λ t. t * w) e in
    let g : (n - 1 + 1) * w ≡ (n - 1) * w + w = omega arith in
    let s : n - 1 + 1 ≡ n = omega arith in
    let t : (n - 1 + 1) * w ≡ n * w = ap (λ t. t * w) s in
    let below : (n - 1) * w ≤ u / w * w = mul-le (n - 1) w (u / w) w (omega arith) (omega arith) in
    (omega arith, omega arith)

pub record Lies (g u step : ℕ) : Type 0 where
  pub before : step * 2 ^ (31 - g) ≤ u
  pub near : u ≤ step * 2 ^ (31 - g) + 2 ^ (31 - g)
  pub narrow : 2 ^ (31 - g) ≤ 2 ^ 31
  pub small : step < 64

pub lies : (g u step : ℕ) → g ≤ 6 → u ≤ 2 ^ 31 → step ≡ min (u / 2 ^ (31 - g)) (1 * 2 ^ g % 4294967296 - 1) → Lies g u step
lies g u step fine h computed =
    let w : ℕ = 2 ^ (31 - g) in
    let n : ℕ = 2 ^ g in
    let some : 0 < n = pow_pos g in
    let e : step ≡ min (u / w) (n - 1) = omega (arith, computed, steps_small g fine) in
    let sum : 31 ≡ g + (31 - g) = omega arith in
    let whole : 2 ^ 31 ≡ n * w = ap (λ k. 2 ^ k) sum ∙ pow-add 2 g (31 - g) in
    let parts = split u w n (pow_pos (31 - g)) some (omega arith) (cases_lt (u / w) n) in
    let times : step * w ≡ min (u / w) (n - 1) * w = ap (λ t. t * w) e in
    record {
      before = omega (arith, parts.0, times);
      near = omega (arith, parts.1, times);
      narrow = omega (arith, mul-le 1 w n w (omega arith) (omega arith), whole);
      small = omega (arith, steps_small g fine, e);
    }
