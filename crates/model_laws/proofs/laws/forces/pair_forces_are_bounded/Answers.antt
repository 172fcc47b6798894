use Rattle.model_laws.proofs.PairLimits.{pairs_bounded}
use Rattle.model_laws.proofs.laws.forces.pair_forces_are_bounded.Goals as goal

pub returns : goal.returns
returns c = pairs_bounded
