use Rattle.merger_links.specs.Ties.{AreTies}
use Rattle.merger_links.proofs.ties.ties_of.Given as goal

abbrev pub invariant-loop-i : goal.invariant-loop-i
invariant-loop-i l = AreTies l.first l.second l.i l.ties.items
