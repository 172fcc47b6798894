use Rattle.std.proofs.Common.{◌≡◌, ℕ, ◌<◌, map, take, get_or}
use Rattle.particle_set.specs.declared.row.Row.{Row}
use Rattle.particle_set.specs.Rows.{body_of, HasMomentum}
use Rattle.particle_set.proofs.body_set.bodies_of.Given as goal

abbrev pub invariant-loop-row : goal.invariant-loop-row
invariant-loop-row l = (l.bodies.items ≡ map body_of (take l.row-index l.rows)) × ((k : ℕ) (d : Row) → k < l.row-index → HasMomentum (get_or l.rows k d))
