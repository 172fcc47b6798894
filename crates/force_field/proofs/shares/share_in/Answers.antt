use Rattle.force_field.proofs.Members.{shares-none}
use Rattle.force_field.proofs.shares.share_in.Goals as goal

pub returns-then-is_zero-clause-value : goal.returns-then-is_zero-clause-value
returns-then-is_zero-clause-value c = λ b. shares-none c.args.bodies.now c.args.cell.now c.args.i b c.args.total.now c.requires.bodies c.requires.within (c.requires.inside b) (c.is_zero.ensures.0 c.if-is_zero.true)
