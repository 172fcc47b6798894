use Rattle.cell_space.proofs.Nested.{disjoint_or_nested}
use Rattle.cell_space.proofs.laws.disjoint_or_nested.Goals as goal

pub returns : goal.returns
returns c = disjoint_or_nested
