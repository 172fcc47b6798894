use Rattle.std.proofs.Common.{◌≡◌, ◌<◌, map, take}
use Rattle.std.specs.List.{AllByRecursion}
use Rattle.rank_laws.specs.Machine.{Parts, message}
use Rattle.rank_laws.specs.Whole.{ranks_of}
use Rattle.rank_exchange.specs.Came.{HandsOut}
use Rattle.rank_exchange.specs.Messages.{filled}
use Rattle.rank_exchange.specs.Moments.{Moment}
use Rattle.rank_exchange.proofs.outgoing.all_parts.Given as goal

abbrev pub invariant-loop-rank : goal.invariant-loop-rank
invariant-loop-rank l = (m : Moment) → HandsOut m l.sums → m.rank ≡ l.home → AllByRecursion (λ q. q < ranks_of m.whole) l.to → l.sent.items ≡ map (λ q. filled m.whole (message Parts l.home q)) (take l.rank-index l.to)
