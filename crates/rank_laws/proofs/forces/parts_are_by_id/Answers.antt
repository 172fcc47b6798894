use Rattle.rank_laws.proofs.IdsSent.{parts_by}
use Rattle.rank_laws.proofs.forces.parts_are_by_id.Goals as goal

pub returns : goal.returns
returns c = parts_by
