use Rattle.rank_laws.proofs.ByIds.{owners_by}
use Rattle.rank_laws.proofs.forces.owners_are_told.Goals as goal

pub returns : goal.returns
returns c = owners_by
