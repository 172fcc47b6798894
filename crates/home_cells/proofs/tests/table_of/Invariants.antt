use Rattle.home_cells.specs.Found.{KeepsAll}
use Rattle.home_cells.proofs.tests.table_of.Given as goal

abbrev pub invariant-loop-rank : goal.invariant-loop-rank
invariant-loop-rank l = KeepsAll l.all.bodies.now l.all.owners.now l.all.bounds.now l.all.soft.now l.to l.rank l.table
