use Rattle.std.proofs.Common.{rules}
use Rattle.merger_links.proofs.Owned.{owned_next}
use Rattle.merger_links.proofs.owners.owned_of.Goals as goal

pub loop-i-preserved : goal.loop-i-preserved
loop-i-preserved c = owned_next c.args.groups.now c.loop-i.i c.index-groups-i.result c.loop-i.owners.items c.push_group.new.out.items (search rules) (search rules) c.loop-i.invariant (search rules)
