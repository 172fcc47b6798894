use Rattle.ewald_table.proofs.Symmetries.{even}
use Rattle.ewald_table.proofs.laws.even_in_the_other_axes.Goals as goal

pub returns : goal.returns
returns c = even
