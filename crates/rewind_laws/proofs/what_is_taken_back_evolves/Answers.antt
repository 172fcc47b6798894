use Rattle.rewind_laws.proofs.OneStep.{what_is_taken_back_evolves}
use Rattle.rewind_laws.proofs.what_is_taken_back_evolves.Goals as goal

pub returns : goal.returns
returns c = what_is_taken_back_evolves
