use Rattle.model_laws.proofs.Pairs.{pairs_of_nodes}
use Rattle.model_laws.proofs.laws.cells.pairs_of_nodes.Goals as goal

pub returns : goal.returns
returns c = pairs_of_nodes
