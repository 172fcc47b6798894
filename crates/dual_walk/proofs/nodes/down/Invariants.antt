use Rattle.dual_walk.proofs.nodes.down.Given as goal

abbrev pub ghost-is_leaf : goal.ghost-is_leaf
ghost-is_leaf g a = g.w
