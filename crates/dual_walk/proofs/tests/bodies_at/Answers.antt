use Rattle.std.proofs.Common.{arith}
use Rattle.octree_build.proofs.Opened.{blank}
use Rattle.octree_build.proofs.Numbered.{numbered-valid}
use Rattle.dual_walk.proofs.tests.bodies_at.Goals as goal

pub returns : goal.returns
returns c = numbered-valid c.loop-i.bodies.items c.loop-i.i blank (omega (arith, c.loop-i.auto.i-end, c.requires.few)) c.loop-i.invariant
