use Rattle.dual_walk.proofs.verdicts.are_final.Given as goal

abbrev pub ghost-are_leaves : goal.ghost-are_leaves
ghost-are_leaves g a = g.w
