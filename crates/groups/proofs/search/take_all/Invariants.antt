use Rattle.std.proofs.Common.{take}
use Rattle.groups.specs.Spreading.{IsTaken}
use Rattle.groups.proofs.search.take_all.Given as goal

abbrev pub invariant-loop-e : goal.invariant-loop-e
invariant-loop-e l = IsTaken (take l.e l.out) l.fn.seen l.seen l.fn.list.items l.list.items
