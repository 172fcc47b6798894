use Rattle.groups.specs.Chains.{AreChains}
use Rattle.groups.proofs.chains.chains_of.Given as goal

abbrev pub invariant-loop-k : goal.invariant-loop-k
invariant-loop-k l = AreChains l.heads l.k l.first.items l.next.items

abbrev pub decreases-loop-k : goal.decreases-loop-k
decreases-loop-k l = l.k
