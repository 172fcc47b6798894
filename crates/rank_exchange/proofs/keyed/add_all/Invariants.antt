use Rattle.std.proofs.Common.{◌∷◌, [], ◌++◌, take}
use Rattle.rank_exchange.specs.Keyed.{IsAdded}
use Rattle.rank_exchange.proofs.keyed.add_all.Given as goal

abbrev pub invariant-loop-i : goal.invariant-loop-i
invariant-loop-i l = IsAdded (take l.i l.entries) (l.out.items ++ l.last ∷ [])
