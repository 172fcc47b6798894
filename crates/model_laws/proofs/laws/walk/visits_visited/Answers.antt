use Rattle.model_laws.proofs.Walk.{visits_visited}
use Rattle.model_laws.proofs.laws.walk.visits_visited.Goals as goal

pub returns : goal.returns
returns c = visits_visited
