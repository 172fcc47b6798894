use Rattle.model_laws.proofs.Bounds.{node_bounded}
use Rattle.model_laws.proofs.laws.forces.node_totals_are_bounded.Goals as goal

pub returns : goal.returns
returns c = node_bounded
