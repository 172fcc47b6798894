use Rattle.dual_walk.proofs.nodes.open_self.Given as goal

abbrev pub ghost-is_leaf : goal.ghost-is_leaf
ghost-is_leaf g a = g.w

abbrev pub ghost-down : goal.ghost-down
ghost-down g a = g.w
