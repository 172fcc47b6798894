use Rattle.merger_links.specs.Ties.{AreMains}
use Rattle.merger_links.proofs.mains.mains_of.Given as goal

abbrev pub invariant-loop-i : goal.invariant-loop-i
invariant-loop-i l = AreMains l.ties l.i l.places l.mains.items
