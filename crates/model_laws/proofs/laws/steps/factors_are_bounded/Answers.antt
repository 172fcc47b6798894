use Rattle.model_laws.proofs.Factors.{factors_bounded}
use Rattle.model_laws.proofs.laws.steps.factors_are_bounded.Goals as goal

pub returns : goal.returns
returns c = factors_bounded
