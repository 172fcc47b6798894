use Rattle.std.proofs.Common.{arith}
use Rattle.cell_space.specs.Cells.{place}
use Rattle.force_field.proofs.Parting.{at_last}
use Rattle.force_field.proofs.levels.parting_level.Goals as goal

pub returns : goal.returns
returns c = at_last (place c.args.p) (place c.args.q) c.loop-level.level (omega (arith, c.loop-level.auto.level-end, c.loop-level-test.false)) c.requires c.loop-level.invariant
