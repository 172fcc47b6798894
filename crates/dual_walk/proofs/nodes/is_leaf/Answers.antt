use Rattle.std.proofs.Common.{ap, ◌∙◌}
use Rattle.dual_walk.proofs.Children.{node_leaf}
use Rattle.dual_walk.proofs.nodes.is_leaf.Goals as goal

pub returns : goal.returns
returns g c = ap (λ m. m.leaf) c.node.view_is ∙ node_leaf g.w c.args.tree.now c.requires.0 c.args.i c.node-node.result.now c.requires.1 c.node-node.ensures
