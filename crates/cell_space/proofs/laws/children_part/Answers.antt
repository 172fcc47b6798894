use Rattle.cell_space.proofs.Parts.{children_part}
use Rattle.cell_space.proofs.laws.children_part.Goals as goal

pub returns : goal.returns
returns c = children_part
