use Rattle.model_laws.proofs.Walk.{finds_interactions}
use Rattle.model_laws.proofs.laws.walk.finds_interactions.Goals as goal

pub returns : goal.returns
returns c = finds_interactions
