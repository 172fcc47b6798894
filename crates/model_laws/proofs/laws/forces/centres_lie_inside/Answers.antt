use Rattle.model_laws.proofs.Centres.{centre_inside}
use Rattle.model_laws.proofs.laws.forces.centres_lie_inside.Goals as goal

pub returns : goal.returns
returns c = centre_inside
