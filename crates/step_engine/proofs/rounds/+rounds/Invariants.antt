use Rattle.step_engine.proofs.rounds.+rounds.Given as goal

abbrev pub decreases-rounds : goal.decreases-rounds
decreases-rounds g l = l.bin
