use Rattle.model_laws.proofs.Kept.{changes_cancel}
use Rattle.model_laws.proofs.laws.steps.changes_cancel.Goals as goal

pub returns : goal.returns
returns c = changes_cancel
