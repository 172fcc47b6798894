use Rattle.std.proofs.Common.{ap, ◌∙◌}
use Rattle.dual_walk.proofs.Children.{node_cell}
use Rattle.dual_walk.proofs.nodes.cell_at.Goals as goal

pub returns : goal.returns
returns c = ap (λ m. m.cell) c.node.view_is ∙ node_cell c.args.tree.now.nodes c.args.i c.node-node.result.now c.requires c.node-node.ensures
