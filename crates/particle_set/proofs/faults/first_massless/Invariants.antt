use Rattle.std.proofs.Common.{ℕ, ◌<◌, get_or}
use Rattle.particle_set.specs.declared.row.Row.{Row}
use Rattle.particle_set.specs.Rows.{HasMass}
use Rattle.particle_set.proofs.faults.first_massless.Given as goal

abbrev pub invariant-loop-row : goal.invariant-loop-row
invariant-loop-row l = (k : ℕ) (d : Row) → k < l.row-index → HasMass (get_or l.rows k d)
