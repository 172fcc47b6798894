use Rattle.std.proofs.Common.{◌≡◌, map, take}
use Rattle.rank_laws.specs.Machine.{Want, message}
use Rattle.rank_laws.specs.Whole.{Whole}
use Rattle.rank_exchange.specs.Came.{home_totals}
use Rattle.rank_exchange.specs.Messages.{filled}
use Rattle.rank_exchange.proofs.outgoing.all_wants.Given as goal

abbrev pub invariant-loop-rank : goal.invariant-loop-rank
invariant-loop-rank l = (w : Whole) → l.totals ≡ home_totals w l.home → l.sent.items ≡ map (λ q. filled w (message Want l.home q)) (take l.rank-index l.to)
