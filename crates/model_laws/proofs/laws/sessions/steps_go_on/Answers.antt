use Rattle.model_laws.proofs.Rests.{steps_go_on}
use Rattle.model_laws.proofs.laws.sessions.steps_go_on.Goals as goal

pub returns : goal.returns
returns c = steps_go_on
