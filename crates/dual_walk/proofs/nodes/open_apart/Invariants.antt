use Rattle.dual_walk.proofs.nodes.open_apart.Given as goal

abbrev pub ghost-down : goal.ghost-down
ghost-down g a = g.w
