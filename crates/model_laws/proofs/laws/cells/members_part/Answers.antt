use Rattle.model_laws.proofs.Exchange.{members_part}
use Rattle.model_laws.proofs.laws.cells.members_part.Goals as goal

pub returns : goal.returns
returns c = members_part
