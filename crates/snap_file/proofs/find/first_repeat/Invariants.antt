use Rattle.snap_file.specs.Snapshots.{NoRepeatBelow}
use Rattle.snap_file.proofs.find.first_repeat.Given as goal

abbrev pub invariant-loop-i : goal.invariant-loop-i
invariant-loop-i l = NoRepeatBelow l.blocks l.i
