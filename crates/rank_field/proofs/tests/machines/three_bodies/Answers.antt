use Rattle.std.proofs.Common.{arith}
use Rattle.force_field.proofs.At.{nobody}
use Rattle.force_field.proofs.Numbered.{numbered-valid}
use Rattle.rank_field.proofs.tests.machines.three_bodies.Goals as goal

pub returns-clause-valid : goal.returns-clause-valid
returns-clause-valid c = numbered-valid c.loop-i.bodies.items c.loop-i.i nobody (omega (arith, c.loop-i.auto.i-end)) c.loop-i.invariant
