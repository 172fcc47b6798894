use Rattle.model_laws.proofs.Resumed.{sessions_go_on}
use Rattle.model_laws.proofs.laws.sessions.sessions_go_on.Goals as goal

pub returns : goal.returns
returns c = sessions_go_on
