use Rattle.rank_laws.proofs.Collecting.{are_collected}
use Rattle.rank_laws.proofs.forces.members_are_collected.Goals as goal

pub returns : goal.returns
returns c = are_collected
