use Rattle.model_laws.proofs.ChainFacts.{chains_disjoint}
use Rattle.model_laws.proofs.laws.cells.chains_are_disjoint.Goals as goal

pub returns : goal.returns
returns c = chains_disjoint
