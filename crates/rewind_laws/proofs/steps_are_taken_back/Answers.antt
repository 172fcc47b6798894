use Rattle.rewind_laws.proofs.OneStep.{steps_are_taken_back}
use Rattle.rewind_laws.proofs.steps_are_taken_back.Goals as goal

pub returns : goal.returns
returns c = steps_are_taken_back
