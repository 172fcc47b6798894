use Rattle.std.proofs.Common.{◌≡◌, ◌++◌, map, take}
use Rattle.rank_exchange.specs.Came.{kept_from}
use Rattle.rank_exchange.proofs.outgoing.keep_members.Given as goal

abbrev pub invariant-loop-entry : goal.invariant-loop-entry
invariant-loop-entry l = l.kept_before.items ≡ l.initial.kept_before.items ++ map (kept_from l.from) (take l.entry-index l.members)
