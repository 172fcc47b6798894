use Rattle.dual_walk.proofs.verdicts.judge.Given as goal

abbrev pub ghost-are_final : goal.ghost-are_final
ghost-are_final g a = g.w

abbrev pub ghost-is_mine : goal.ghost-is_mine
ghost-is_mine g a = g.w
