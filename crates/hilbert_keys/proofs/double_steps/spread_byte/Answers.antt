use Rattle.hilbert_keys.proofs.DoubleSteps.{spread_at}
use Rattle.hilbert_keys.proofs.Tables.{spreads}
use Rattle.hilbert_keys.proofs.double_steps.spread_byte.Goals as goal

pub returns : goal.returns
unfolding spreads
returns c = spread_at c.args.byte c.ranges.byte.fits
