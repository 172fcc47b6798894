-- The order in which members are served, by one number for each.
use Rattle.std.specs.Prelude.{ℕ, ◌+◌, ◌-◌, ◌*◌, ◌/◌, ◌%◌, ◌^◌, ℤ, pos, ◌+ℤ◌, ◌*ℤ◌, nat_lt, if◌then◌else◌}
use Rattle.force_sharing.specs.Sharing.{Member}

-- when a member is served: the greater the rest of its part of s, the earlier, then the smaller its id
abbrev pub turn : ℕ → ℕ → Member → ℕ
turn s mass m = (mass - s * m.1 % mass) * 2 ^ 64 + m.0

-- the share in q · mass + s, where the turns up to the last are served
abbrev pub share_by : ℤ → ℕ → ℕ → ℕ → Member → ℤ
share_by q s mass last m = q *ℤ pos m.1 +ℤ pos (s * m.1 / mass + (if nat_lt last (turn s mass m) then 0 else 1))
