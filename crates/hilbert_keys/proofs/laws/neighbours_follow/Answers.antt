use Rattle.hilbert_keys.proofs.Neighbours.{neighbours}
use Rattle.hilbert_keys.proofs.laws.neighbours_follow.Goals as goal

pub returns : goal.returns
returns c = neighbours
