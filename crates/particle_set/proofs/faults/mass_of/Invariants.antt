use Rattle.std.proofs.Common.{◌≡◌, ◌≤◌, ◌*◌, ◌^◌, take}
use Rattle.particle_set.specs.Rows.{total_mass}
use Rattle.particle_set.proofs.faults.mass_of.Given as goal

abbrev pub invariant-loop-row : goal.invariant-loop-row
invariant-loop-row l = (l.sum ≡ total_mass (take l.row-index l.rows)) × (l.sum ≤ l.row-index * 2 ^ 32)
