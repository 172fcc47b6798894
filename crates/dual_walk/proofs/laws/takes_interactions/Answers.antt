use Rattle.dual_walk.proofs.Gravities.{takes_interactions}
use Rattle.dual_walk.proofs.laws.takes_interactions.Goals as goal

pub returns : goal.returns
returns c = takes_interactions
