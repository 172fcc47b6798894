use Rattle.model_laws.proofs.Partners.{partners_disjoint}
use Rattle.model_laws.proofs.laws.cells.partners_are_disjoint.Goals as goal

pub returns : goal.returns
returns c = partners_disjoint
