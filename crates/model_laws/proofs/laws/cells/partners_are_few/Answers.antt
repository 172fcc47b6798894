use Rattle.model_laws.proofs.Partners.{partners_few}
use Rattle.model_laws.proofs.laws.cells.partners_are_few.Goals as goal

pub returns : goal.returns
returns c = partners_few
