use Rattle.rewind.proofs.read.+read_step.Given as goal

abbrev pub decreases-read_step : goal.decreases-read_step
decreases-read_step l = l.bin
