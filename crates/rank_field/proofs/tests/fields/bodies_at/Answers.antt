use Rattle.std.proofs.Common.{arith}
use Rattle.force_field.proofs.At.{nobody}
use Rattle.force_field.proofs.Numbered.{numbered-valid}
use Rattle.rank_field.proofs.tests.fields.bodies_at.Goals as goal

pub returns : goal.returns
returns c = numbered-valid c.loop-i.bodies.items c.loop-i.i nobody (omega (arith, c.loop-i.auto.i-end, c.requires.few)) c.loop-i.invariant
