use Rattle.std.proofs.Common.{arith}
use Rattle.snap_file.proofs.Writes.{length-by_kind}
use Rattle.snap_file.proofs.write.count_all.Goals as goal

pub returns-clause-value : goal.returns-clause-value
returns-clause-value c = omega (arith, length-by_kind c.args.bodies.now)
