use Rattle.std.proofs.Common.{◌+◌, arith, sym, subst}
use Rattle.octree_build.proofs.Parts.{part}
use Rattle.rank_exchange.specs.Members.{AreNumbered}
use Rattle.rank_exchange.proofs.OwnMembers.{number_more}
use Rattle.rank_exchange.proofs.members.number.Goals as goal

pub loop-i-preserved : goal.loop-i-preserved
loop-i-preserved c = subst (λ t. AreNumbered (part c.args.bodies.now c.args.low (c.loop-i.i + 1)) t) (sym c.in_ok-push.ensures.items) (number_more c.args.bodies.now c.args.low c.loop-i.i c.number_at.result c.loop-i.numbers.items (omega arith) (omega arith) c.number_at.ensures.value c.number_at.ensures.number c.loop-i.invariant)
