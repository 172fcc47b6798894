use Rattle.std.proofs.Common.{◌∷◌, [], ◌++◌, take}
use Rattle.rank_exchange.specs.Sums.{IsAdded, entries_in}
use Rattle.rank_exchange.proofs.sums.add_all.Given as goal

abbrev pub invariant-loop-i : goal.invariant-loop-i
invariant-loop-i l = IsAdded (take l.i (entries_in l.placed)) (l.out.items ++ l.last ∷ [])
