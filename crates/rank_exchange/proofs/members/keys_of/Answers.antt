use Rattle.std.proofs.Common.{◌∙◌}
use Rattle.octree_build.specs.Trees.{key_at}
use Rattle.octree_build.proofs.Opened.{blank}
use Rattle.octree_build.proofs.Placed.{mapped_more}
use Rattle.rank_exchange.proofs.members.keys_of.Goals as goal

pub loop-i-preserved : goal.loop-i-preserved
loop-i-preserved c = c.in_ok-push.ensures.items ∙ mapped_more key_at c.args.bodies.now c.loop-i.keys.items c.loop-i.i blank c.key_at.result c.loop-i-test.true (c.key_at.ensures blank) c.loop-i.invariant
