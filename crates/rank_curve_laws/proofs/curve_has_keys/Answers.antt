use Rattle.rank_curve_laws.proofs.Keys.{curve_has}
use Rattle.rank_curve_laws.proofs.curve_has_keys.Goals as goal

pub returns : goal.returns
returns c = curve_has
