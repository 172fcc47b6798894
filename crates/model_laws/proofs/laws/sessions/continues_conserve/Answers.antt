use Rattle.model_laws.proofs.Conserved.{continues_conserve}
use Rattle.model_laws.proofs.laws.sessions.continues_conserve.Goals as goal

pub returns : goal.returns
returns c = continues_conserve
