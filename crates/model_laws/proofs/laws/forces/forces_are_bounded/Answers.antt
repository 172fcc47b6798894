use Rattle.model_laws.proofs.Bounds.{forces_bounded}
use Rattle.model_laws.proofs.laws.forces.forces_are_bounded.Goals as goal

pub returns : goal.returns
returns c = forces_bounded
