use Rattle.model_laws.proofs.Reached.{reaches_visited}
use Rattle.model_laws.proofs.laws.walk.reaches_visited.Goals as goal

pub returns : goal.returns
returns c = reaches_visited
