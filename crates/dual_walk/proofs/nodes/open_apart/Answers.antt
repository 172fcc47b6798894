use Rattle.std.proofs.Common.{arith}
use Rattle.dual_walk.specs.Steps.{cross, range}
use Rattle.dual_walk.proofs.Children.{few_nodes}
use Rattle.dual_walk.proofs.Opened.{opens_cross}
use Rattle.dual_walk.proofs.nodes.open_apart.Goals as goal

pub push_cross-requires-clause-left_ends : goal.push_cross-requires-clause-left_ends
push_cross-requires-clause-left_ends g c = omega (arith, c.down-left.ensures.within, few_nodes g.w c.args.tree.now c.requires.0)

pub push_cross-requires-clause-right_ends : goal.push_cross-requires-clause-right_ends
push_cross-requires-clause-right_ends g c = omega (arith, c.down-right.ensures.within, few_nodes g.w c.args.tree.now c.requires.0)

pub returns-clause-pushed : goal.returns-clause-pushed
returns-clause-pushed g c = record {
  more = cross (range c.down-left.result.0 c.down-left.result.1) (range c.down-right.result.0 c.down-right.result.1);
  opens = opens_cross g.w c.args.tree.now c.requires.0 c.args.x c.down-left.result.0 c.down-left.result.1 c.down-right.result.0 c.down-right.result.1 c.requires.1.0 c.requires.1.1.0 c.requires.1.1.1.0 c.down-left.ensures c.down-right.ensures;
  list = c.push_cross.ensures.items;
}
