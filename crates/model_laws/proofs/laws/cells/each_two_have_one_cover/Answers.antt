use Rattle.model_laws.proofs.Partners.{one_cover}
use Rattle.model_laws.proofs.laws.cells.each_two_have_one_cover.Goals as goal

pub returns : goal.returns
returns c = one_cover
