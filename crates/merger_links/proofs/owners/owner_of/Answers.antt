use Rattle.merger_links.proofs.Owned.{owner_is}
use Rattle.merger_links.proofs.owners.owner_of.Goals as goal

pub returns : goal.returns
returns c C good owners = owner_is C c.args.owners.now c.args.id c.entry_of.result good owners c.entry_of.ensures.none c.entry_of.ensures.some
