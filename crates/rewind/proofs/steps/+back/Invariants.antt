use Rattle.std.proofs.Common.{◌+◌, ◌*◌}
use Rattle.rewind.proofs.steps.+back.Given as goal

abbrev pub decreases-undo_two : goal.decreases-undo_two
decreases-undo_two g l = 3 * l.split.now.bin

abbrev pub decreases-undo_between : goal.decreases-undo_between
decreases-undo_between g l = 3 * l.split.now.bin + 1

abbrev pub decreases-undo_step : goal.decreases-undo_step
decreases-undo_step g l = 3 * l.step.now.bin + 2
