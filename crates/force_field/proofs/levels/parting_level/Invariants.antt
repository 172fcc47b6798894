use Rattle.std.proofs.Common.{◌≡◌, ◌-◌}
use Rattle.cell_space.specs.Cells.{place, cell_at}
use Rattle.force_field.proofs.levels.parting_level.Given as goal

abbrev pub invariant-loop-level : goal.invariant-loop-level
invariant-loop-level l = cell_at (l.level - 1) (place l.p) ≡ cell_at (l.level - 1) (place l.q)
