use Rattle.rank_laws.proofs.Counted.{ranks_count, as_many}
use Rattle.rank_laws.proofs.forces.ranks_count_interactions.Goals as goal

pub returns : goal.returns
returns c = record { each = ranks_count; many = as_many }
