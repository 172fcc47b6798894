use Rattle.std.proofs.Common.{◌≡◌, map, take}
use Rattle.rank_curve_laws.specs.Along.{keys_along}
use Rattle.rank_laws.specs.Machine.{ask}
use Rattle.rank_laws.specs.Whole.{Whole, rules_of}
use Rattle.rank_exchange.specs.Messages.{filled}
use Rattle.rank_exchange.proofs.outgoing.all_asks.Given as goal

abbrev pub invariant-loop-cell : goal.invariant-loop-cell
invariant-loop-cell l = (w : Whole) → w.keys ≡ keys_along l.bounds → l.sent.items ≡ map (λ c. filled w (ask (rules_of w) l.rank c)) (take l.cell-index l.cells)
