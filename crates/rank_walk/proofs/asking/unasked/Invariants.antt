use Rattle.std.proofs.Common.{take}
use Rattle.rank_walk.specs.Asked.{IsAsking}
use Rattle.rank_walk.proofs.asking.unasked.Given as goal

abbrev pub invariant-loop-i : goal.invariant-loop-i
invariant-loop-i l = IsAsking l.slots l.fn.asked.items (take l.i l.list) l.asked.items l.out.items
