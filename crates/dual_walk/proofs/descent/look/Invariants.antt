use Rattle.dual_walk.proofs.descent.look.Given as goal

abbrev pub ghost-open_self : goal.ghost-open_self
ghost-open_self g a = g.w

abbrev pub ghost-open_apart : goal.ghost-open_apart
ghost-open_apart g a = g.w

abbrev pub ghost-judge : goal.ghost-judge
ghost-judge g a = g.w
