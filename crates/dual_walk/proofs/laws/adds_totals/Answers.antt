use Rattle.dual_walk.proofs.Gravities.{adds_totals}
use Rattle.dual_walk.proofs.laws.adds_totals.Goals as goal

pub returns : goal.returns
returns c = adds_totals
