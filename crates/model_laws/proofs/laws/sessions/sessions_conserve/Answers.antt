use Rattle.model_laws.proofs.Conserved.{sessions_conserve}
use Rattle.model_laws.proofs.laws.sessions.sessions_conserve.Goals as goal

pub returns : goal.returns
returns c = sessions_conserve
