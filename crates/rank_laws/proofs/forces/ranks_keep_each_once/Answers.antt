use Rattle.rank_laws.proofs.KeptOnce.{keeps_once}
use Rattle.rank_laws.proofs.KeptLaws.{finished_have, has_cells, adds_totals, has_members, has_forces}
use Rattle.rank_laws.proofs.Plays.{has_counts}
use Rattle.rank_laws.proofs.forces.ranks_keep_each_once.Goals as goal

pub returns : goal.returns
returns c = record { once = keeps_once; finished = finished_have; cells = has_cells; totals = adds_totals; members = has_members; counts = has_counts; forces = has_forces }
