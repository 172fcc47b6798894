use Rattle.model_laws.proofs.Second.{second_bounded}
use Rattle.model_laws.proofs.laws.forces.second_moments_are_bounded.Goals as goal

pub returns : goal.returns
returns c = second_bounded
