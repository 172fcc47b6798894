use Rattle.groups.proofs.Unique.{one_catalogue}
use Rattle.groups.proofs.laws.catalogues_are_one.Goals as goal

pub returns : goal.returns
returns c = one_catalogue
