use Rattle.hilbert_keys.proofs.Ranges.{ranges}
use Rattle.hilbert_keys.proofs.laws.ranges_part.Goals as goal

pub returns : goal.returns
returns c = ranges
