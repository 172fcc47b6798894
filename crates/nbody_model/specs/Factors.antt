-- How much of the time between two ticks counts for kicks and for drifts (a comoving run's factors as GADGET has
-- them; the table and its interpolation in whole numbers are this project's own).
use Rattle.std.specs.Prelude.{ℕ, ◌+◌, ◌-◌, ◌*◌, ◌/◌, ◌%◌, ◌^◌, Option, Some, None}
use Rattle.nbody_model.specs.Tables.{ExpansionEntry, ExpansionData, expansion_at}

-- the sum from tick 0 to a tick: without a table the tick itself; at a multiple of 2^s that entry; between two
-- entries it goes up in proportion, rounded down
unfoldable pub factor : (ExpansionEntry → ℕ) → Option ExpansionData → ℕ → ℕ
factor f None tick = tick
factor f (Some e) tick =
    let width = 2 ^ e.s in
    let i = tick / width in
    f (expansion_at e i) + (f (expansion_at e (i + 1)) - f (expansion_at e i)) * (tick % width) / width

-- the factor of kicks from one tick to a later one, in ticks
abbrev pub kick_factor : Option ExpansionData → ℕ → ℕ → ℕ
kick_factor table from to = factor (λ e. e.kick) table to - factor (λ e. e.kick) table from

-- the factor of drifts from one tick to a later one, in ticks
abbrev pub drift_factor : Option ExpansionData → ℕ → ℕ → ℕ
drift_factor table from to = factor (λ e. e.drift) table to - factor (λ e. e.drift) table from
