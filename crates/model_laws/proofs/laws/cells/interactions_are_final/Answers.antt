use Rattle.model_laws.proofs.PairLimits.{interactions_final}
use Rattle.model_laws.proofs.laws.cells.interactions_are_final.Goals as goal

pub returns : goal.returns
returns c = interactions_final
