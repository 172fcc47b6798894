use Rattle.std.proofs.Common.{subst}
use Rattle.rank_exchange.specs.Ranks.{KeepsWalk, seat_at}
use Rattle.rank_exchange.specs.Moments.{state_at}
use Rattle.rank_exchange.proofs.rank.Rank.counted.Goals as goal

pub returns-in-Some : goal.returns-in-Some
returns-in-Some c = λ m h. c.counted.ensures (seat_at m) (state_at m) (subst (KeepsWalk (seat_at m) (state_at m)) c.in-Some.is h.most.walk).1
