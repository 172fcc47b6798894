use Rattle.rank_laws.proofs.Homing.{homes_have}
use Rattle.rank_laws.proofs.forces.homes_have_totals.Goals as goal

pub returns : goal.returns
returns c = homes_have
