use Rattle.rank_laws.proofs.Gathering.{forces_gathered}
use Rattle.rank_laws.proofs.forces.forces_are_gathered.Goals as goal

pub returns : goal.returns
returns c = forces_gathered
