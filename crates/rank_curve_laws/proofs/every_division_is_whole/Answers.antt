use Rattle.rank_curve_laws.proofs.Keys.{division_is}
use Rattle.rank_curve_laws.proofs.every_division_is_whole.Goals as goal

pub returns : goal.returns
returns c = division_is
