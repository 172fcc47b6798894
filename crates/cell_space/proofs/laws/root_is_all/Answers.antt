use Rattle.cell_space.proofs.Cells.{root_contains}
use Rattle.cell_space.proofs.laws.root_is_all.Goals as goal

pub returns : goal.returns
returns c = root_contains
