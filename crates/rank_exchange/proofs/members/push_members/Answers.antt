use Rattle.std.proofs.Common.{◌++◌, map, ap, ◌∙◌, subst}
use Rattle.octree_build.proofs.Edges.{order_is}
use Rattle.rank_exchange.specs.Members.{AreSorted, IsMembersRange, listed_at}
use Rattle.rank_exchange.proofs.OwnMembers.{sorted_members}
use Rattle.rank_exchange.proofs.members.push_members.Goals as goal

pub range_of-low-requires : goal.range_of-low-requires
range_of-low-requires c = order_is c.args.keys.now c.args.bodies.now c.requires.keyed

pub returns : goal.returns
returns c = λ B own.
    let r : IsMembersRange c.args.bodies.now c.args.cell.now c.range_of-low.result.0 c.range_of-low.result.1 = c.range_of-low.ensures c.args.bodies.now c.requires.keyed in
    c.in_ok-push_listed.ensures
    ∙ ap (λ t. c.args.out.now.items ++ map (listed_at c.args.cell.now) t) c.deref.ensures.value
    ∙ ap (λ t. c.args.out.now.items ++ t) (sorted_members B c.args.bodies.now c.args.cell.now c.sort.new.numbers.items own (subst (λ t. AreSorted t c.sort.new.numbers.items) r.are c.in_ok-sort.ensures))
