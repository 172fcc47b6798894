use Rattle.std.proofs.Common.{[], append-nil, ap, arith, sym, ◌∙◌}
use Rattle.dual_walk.specs.Steps.{cells_at, range, self_pairs}
use Rattle.dual_walk.specs.Courses.{cell_in}
use Rattle.dual_walk.proofs.Children.{few_nodes}
use Rattle.dual_walk.proofs.Opened.{given_leaf, opens_none, opens_same}
use Rattle.dual_walk.proofs.nodes.open_self.Goals as goal

pub returns-then-is_leaf-clause-pushed : goal.returns-then-is_leaf-clause-pushed
returns-then-is_leaf-clause-pushed g c = record {
  more = [];
  opens = opens_none g.w c.args.tree.now c.requires.0 c.args.x
      (given_leaf g.w (cells_at c.args.tree.now.nodes c.args.x) (ap (cell_in c.args.tree.now.nodes) c.requires.1.1.0) (sym c.is_leaf.ensures ∙ c.if-is_leaf.true));
  list = sym (append-nil c.args.list.now.items);
}

pub push_self-requires-clause-ends : goal.push_self-requires-clause-ends
push_self-requires-clause-ends g c = omega (arith, c.down-first.ensures.within, few_nodes g.w c.args.tree.now c.requires.0)

pub returns-clause-pushed : goal.returns-clause-pushed
returns-clause-pushed g c = record {
  more = self_pairs (range c.down-first.result.0 c.down-first.result.1);
  opens = opens_same g.w c.args.tree.now c.requires.0 c.args.x c.down-first.result.0 c.down-first.result.1 c.requires.1.0 c.requires.1.1.0 (sym c.is_leaf.ensures ∙ c.if-is_leaf.false) c.down-first.ensures;
  list = c.push_self.ensures.items;
}
