use Rattle.ewald_table.proofs.Symmetries.{odd}
use Rattle.ewald_table.proofs.laws.odd_in_its_own_axis.Goals as goal

pub returns : goal.returns
returns c = odd
