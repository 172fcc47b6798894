use Rattle.octree_build.proofs.Parts.{part}
use Rattle.rank_exchange.specs.Members.{AreNumbered}
use Rattle.rank_exchange.proofs.members.number.Given as goal

abbrev pub invariant-loop-i : goal.invariant-loop-i
invariant-loop-i l = AreNumbered (part l.bodies l.low l.i) l.numbers.items
