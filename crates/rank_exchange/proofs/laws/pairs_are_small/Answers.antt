use Rattle.model_laws.proofs.PairLimits.{pairs_bounded}
use Rattle.rank_exchange.proofs.laws.pairs_are_small.Goals as goal

pub returns : goal.returns
returns c = λ w whole setup kinds table. pairs_bounded w.gravity w.bodies setup whole.bodies kinds table
