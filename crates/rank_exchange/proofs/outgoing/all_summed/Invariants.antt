use Rattle.std.proofs.Common.{◌≡◌, take}
use Rattle.rank_walk.specs.Walkers.{as_sent}
use Rattle.rank_exchange.proofs.outgoing.all_summed.Given as goal

abbrev pub invariant-loop-entry : goal.invariant-loop-entry
invariant-loop-entry l = l.sums.items ≡ as_sent (take l.entry-index l.walked)
