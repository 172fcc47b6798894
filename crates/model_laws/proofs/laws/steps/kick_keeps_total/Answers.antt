use Rattle.model_laws.proofs.Kept.{kick_total}
use Rattle.model_laws.proofs.laws.steps.kick_keeps_total.Goals as goal

pub returns : goal.returns
returns c = kick_total
