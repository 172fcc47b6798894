use Rattle.model_laws.proofs.Centres.{leaf_point}
use Rattle.model_laws.proofs.laws.forces.leaves_are_points.Goals as goal

pub returns : goal.returns
returns c = leaf_point
