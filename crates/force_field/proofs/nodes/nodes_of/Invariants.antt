use Rattle.force_field.proofs.Flat.{AreMade}
use Rattle.force_field.proofs.nodes.nodes_of.Given as goal

abbrev pub invariant-loop-k : goal.invariant-loop-k
invariant-loop-k l = AreMade l.setup l.bodies l.k l.nodes.items
