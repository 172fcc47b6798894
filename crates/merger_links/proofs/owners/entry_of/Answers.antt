use Rattle.std.proofs.Common.{arith}
use Rattle.merger_links.proofs.Owned.{none_at}
use Rattle.merger_links.proofs.owners.entry_of.Goals as goal

pub returns-then-owners-at-2-clause-none : goal.returns-then-owners-at-2-clause-none
returns-then-owners-at-2-clause-none c = none_at c.args.owners.now c.args.id c.below-at.result _ c.requires c.below-at.ensures (omega (arith, c.if-owners-at.false)) c.if-owners-at-2.true
