use Rattle.std.proofs.Common.{◌≡◌, map, take}
use Rattle.home_cells.specs.Entries.{IsOfRank}
use Rattle.rank_laws.specs.Machine.{Table, message}
use Rattle.rank_laws.specs.Whole.{Whole}
use Rattle.rank_exchange.specs.Messages.{filled}
use Rattle.rank_exchange.proofs.build.all_tables.Given as goal

abbrev pub invariant-loop-i : goal.invariant-loop-i
invariant-loop-i l = (w : Whole) → IsOfRank w l.rank l.tree l.bounds → l.sent.items ≡ map (λ q. filled w (message Table l.rank q)) (take l.i l.to)
