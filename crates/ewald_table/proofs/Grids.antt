-- Grids of at most 2^6 steps.
use Rattle.std.proofs.Common.{ℕ, ◌+◌, ◌*◌, ◌%◌, ◌<◌, ◌≤◌, ◌^◌, arith}
use Rattle.std.proofs.lemmas.Nat.{mul-le}
use Rattle.std.proofs.Math.Nat.{pow-le-pow_right}

pub steps_small : (g : ℕ) → g ≤ 6 → 2 ^ g ≤ 64
steps_small g h = let two : 0 < 2 = omega arith in pow-le-pow_right two h

-- as the code computes them
pub points_small : (g : ℕ) → g ≤ 6 → 1 * 2 ^ g % 18446744073709551616 + 1 ≤ 65
points_small g h = omega (arith, steps_small g h)

pub cube_small : (n : ℕ) → n ≤ 65 → n * n * n ≤ 274625
cube_small n h = mul-le (n * n) n (65 * 65) 65 (mul-le n n 65 65 h h) h
