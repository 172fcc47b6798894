use Rattle.std.proofs.Common.{◌≡◌, take}
use Rattle.rank_walk.specs.Asked.{cells_at}
use Rattle.rank_walk.proofs.ranked.cells_at.Given as goal

abbrev pub invariant-loop-i : goal.invariant-loop-i
invariant-loop-i l = l.cells.items ≡ cells_at l.slots (take l.i l.ranked)
