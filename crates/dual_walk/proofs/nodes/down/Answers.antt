use Rattle.std.proofs.Common.{sym, ◌∙◌}
use Rattle.dual_walk.proofs.Children.{down_children}
use Rattle.dual_walk.proofs.nodes.down.Goals as goal

pub returns : goal.returns
returns g c = down_children g.w c.args.tree.now c.requires.0 c.args.i c.children.result.0 c.children.result.1 c.requires.1 (sym c.is_leaf.ensures ∙ c.if-is_leaf.false) c.children.ensures.first c.children.ensures.number
