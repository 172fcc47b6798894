use Rattle.std.proofs.Common.{arith}
use Rattle.cell_space.proofs.Cells.{deepest_one}
use Rattle.cell_space.proofs.laws.deepest_is_one.Goals as goal

pub returns : goal.returns
returns c = λ a h p q u v. deepest_one a (omega arith) p q u v
