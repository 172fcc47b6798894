use Rattle.std.proofs.Common.{◌≡◌, take}
use Rattle.rank_exchange.specs.Handed.{handed_to}
use Rattle.rank_exchange.proofs.handed.handed_to.Given as goal

abbrev pub invariant-loop-entry : goal.invariant-loop-entry
invariant-loop-entry l = l.parts.items ≡ handed_to (take l.entry-index l.entries) l.to
