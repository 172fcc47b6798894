use Rattle.rank_laws.proofs.Order.{orders}
use Rattle.rank_laws.proofs.forces.cells_are_ordered.Goals as goal

pub returns : goal.returns
returns c = orders
