use Rattle.std.proofs.Common.{◌+◌, ◌*◌}
use Rattle.step_engine.proofs.recursion.+step.Given as goal

abbrev pub decreases-two_finer : goal.decreases-two_finer
decreases-two_finer g l = 5 * l.split.now.bin + 1

abbrev pub decreases-between : goal.decreases-between
decreases-between g l = 5 * l.split.now.bin + 2

abbrev pub decreases-step_all : goal.decreases-step_all
decreases-step_all g l = 5 * l.split.now.bin + 3

abbrev pub decreases-step_some : goal.decreases-step_some
decreases-step_some g l = 5 * l.split.now.bin + 3

abbrev pub decreases-evolve : goal.decreases-evolve
decreases-evolve g l = 5 * l.step.now.bin + 4
