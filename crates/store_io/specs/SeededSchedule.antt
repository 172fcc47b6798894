use Rattle.std.specs.Prelude.{ℕ}
use Rattle.store_io.specs.declared.schedule.SeededSchedule.{SeededSchedule}

-- its one number
abbrev pub seed_of : SeededSchedule → ℕ
seed_of schedule = schedule.state
