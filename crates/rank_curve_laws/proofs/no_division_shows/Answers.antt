use Rattle.rank_curve_laws.proofs.Keys.{no_division}
use Rattle.rank_curve_laws.proofs.no_division_shows.Goals as goal

pub returns : goal.returns
returns c = no_division
