use Rattle.std.proofs.Common.{arith}
use Rattle.hilbert_keys.proofs.Descents.{starts, arrives}
use Rattle.hilbert_keys.proofs.positions.pos_of.Goals as goal

pub loop-level-init : goal.loop-level-init
loop-level-init c = starts c.args.number c.requires

pub returns-clause-back : goal.returns-clause-back
returns-clause-back c = (arrives c.args.number c.loop-level.level c.loop-level.spot.turn c.loop-level.spot.x c.loop-level.spot.y c.loop-level.spot.z (omega (arith, c.loop-level.auto.level-end, c.loop-level-test.false)) c.loop-level.invariant).0

pub returns-clause-only : goal.returns-clause-only
returns-clause-only c = (arrives c.args.number c.loop-level.level c.loop-level.spot.turn c.loop-level.spot.x c.loop-level.spot.y c.loop-level.spot.z (omega (arith, c.loop-level.auto.level-end, c.loop-level-test.false)) c.loop-level.invariant).1
