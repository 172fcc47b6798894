use Rattle.model_laws.proofs.Kept.{drift_momenta}
use Rattle.model_laws.proofs.laws.steps.drift_keeps_momenta.Goals as goal

pub returns : goal.returns
returns c = drift_momenta
