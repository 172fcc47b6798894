-- The numbers that are drawn from a seed, one after another.
use Rattle.std.specs.Prelude.{ℕ, ◌+◌, ◌/◌, ◌^◌, ℤ, pos, ◌-ℤ◌}
use Rattle.std.specs.Fn.{iterate}
use Rattle.store_io.specs.Picks.{drawn_state}

-- the generator's state behind so many draws
unfoldable pub state_after : ℕ → ℕ → ℕ
state_after seed n = iterate drawn_state n seed

-- the draw with this number, counted from 0: the upper 32 bits of the state behind it
unfoldable pub draw : ℕ → ℕ → ℕ
draw seed n = state_after seed (n + 1) / 2 ^ 32

-- the upper 20 bits of a draw, about 0
abbrev pub momentum_of : ℕ → ℤ
momentum_of out = pos (out / 4096) -ℤ pos 524288
