use Rattle.model_laws.proofs.Cancel.{forces_cancel}
use Rattle.model_laws.proofs.laws.forces.forces_cancel.Goals as goal

pub returns : goal.returns
returns c = forces_cancel
