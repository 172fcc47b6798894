use Rattle.rank_laws.proofs.OwnPairs.{own_pairs}
use Rattle.rank_laws.proofs.forces.walks_reach_their_own.Goals as goal

pub returns : goal.returns
returns c = own_pairs
