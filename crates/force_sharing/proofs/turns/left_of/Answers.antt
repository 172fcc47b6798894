use Rattle.std.proofs.Common.{arith}
use Rattle.force_sharing.proofs.Sizes.{left_bounds}
use Rattle.force_sharing.proofs.turns.left_of.Goals as goal

pub overflow_sub-result : goal.overflow_sub-result
overflow_sub-result c =
    omega (arith, c.taken.ensures, (left_bounds c.args.s c.args.mass c.args.members.now c.requires.some c.requires.whole).0)

pub returns-clause-few : goal.returns-clause-few
returns-clause-few c =
    omega (arith, c.taken.ensures, (left_bounds c.args.s c.args.mass c.args.members.now c.requires.some c.requires.whole).1)
