use Rattle.std.proofs.Common.{take}
use Rattle.rank_exchange.specs.Sums.{ArePlaced}
use Rattle.rank_exchange.proofs.sums.all_placed.Given as goal

abbrev pub invariant-loop-i : goal.invariant-loop-i
invariant-loop-i l = ArePlaced (take l.i l.entries) l.all.items
