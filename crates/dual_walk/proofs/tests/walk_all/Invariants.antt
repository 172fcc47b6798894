use Rattle.dual_walk.proofs.tests.walk_all.Given as goal

abbrev pub ghost-walk : goal.ghost-walk
ghost-walk g a = g.w

abbrev pub ghost-tree_of : goal.ghost-tree_of
ghost-tree_of g a = g.w
