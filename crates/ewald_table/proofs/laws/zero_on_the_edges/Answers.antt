use Rattle.ewald_table.proofs.Symmetries.{zero_on_edges}
use Rattle.ewald_table.proofs.laws.zero_on_the_edges.Goals as goal

pub returns : goal.returns
returns c = zero_on_edges
