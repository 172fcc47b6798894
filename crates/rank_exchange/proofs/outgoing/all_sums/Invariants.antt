use Rattle.std.proofs.Common.{◌≡◌, map, take}
use Rattle.rank_laws.specs.Machine.{Rank, Sums, message}
use Rattle.rank_walk.specs.Seats.{Seat}
use Rattle.rank_walk.specs.Walkers.{IsThrough}
use Rattle.rank_exchange.specs.Messages.{filled}
use Rattle.rank_exchange.proofs.outgoing.all_sums.Given as goal

abbrev pub invariant-loop-home : goal.invariant-loop-home
invariant-loop-home l = (z : Seat) (s : Rank) → IsThrough z s l.walker → z.rank ≡ l.rank → l.sent.items ≡ map (λ q. filled z.whole (message Sums l.rank q)) (take l.home-index l.to)
