use Rattle.rewind.proofs.StepsRead.{StepsSoFar}
use Rattle.rewind.proofs.read.read_steps.Given as goal

abbrev pub invariant-loop-step : goal.invariant-loop-step
invariant-loop-step l = StepsSoFar l.setup l.all l.source.bytes.now l._step l.at l.bins
