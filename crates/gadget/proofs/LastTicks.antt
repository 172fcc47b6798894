-- The last tick of a run is no large number.
use Rattle.std.proofs.Common.{ℕ, ◌+◌, ◌-◌, ◌*◌, ◌/◌, ◌≤◌, ◌^◌, arith}

-- a multiple of a step that is rounded up
pub last_small : (time step : ℕ) → time ≤ 2 ^ 40 → 1 ≤ step → step ≤ 2 ^ 20 → (time + step - 1) / step * step ≤ 2 ^ 41
last_small time step h low high = omega (arith, h, low, high)
