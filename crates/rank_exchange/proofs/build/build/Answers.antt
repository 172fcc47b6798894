use Rattle.std.proofs.Common.{◌∙◌}
use Rattle.rank_exchange.proofs.Builds.{many_nodes, of_rank, own_softenings, own_valid}
use Rattle.rank_exchange.proofs.build.build.Goals as goal

pub build-requires-clause-bodies : goal.build-requires-clause-bodies
build-requires-clause-bodies c = own_valid c.requires.own.0 c.args.rank c.args.bodies.now c.args.soft.now c.args.bounds.now c.requires.own.1

pub build-requires-clause-softenings : goal.build-requires-clause-softenings
build-requires-clause-softenings c = own_softenings c.requires.own.0 c.args.rank c.args.bodies.now c.args.soft.now c.args.bounds.now c.requires.own.1

pub returns : goal.returns
returns c = λ w o. record {
  size = c.len.ensures ∙ many_nodes w c.args.rank c.args.bodies.now c.args.soft.now c.args.bounds.now o c.in_ok-tree.tree c.in_ok-tree.ensures.tree;
  sent = c.in_ok-messages.ensures w (of_rank w c.args.rank c.args.bodies.now c.args.soft.now c.args.bounds.now o c.in_ok-tree.tree c.in_ok-tree.ensures.tree);
  kept = c.in_ok-kept.ensures w c.args.rank (of_rank w c.args.rank c.args.bodies.now c.args.soft.now c.args.bounds.now o c.in_ok-tree.tree c.in_ok-tree.ensures.tree);
}
