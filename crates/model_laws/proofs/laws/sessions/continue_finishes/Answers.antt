use Rattle.model_laws.proofs.Nests.{continue_finishes}
use Rattle.model_laws.proofs.laws.sessions.continue_finishes.Goals as goal

pub returns : goal.returns
returns c = continue_finishes
