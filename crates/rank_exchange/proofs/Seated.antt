-- The rank of a moment has a seat.
use Rattle.std.proofs.Common.{◌≡◌, true}
use Rattle.rank_laws.specs.Machine.{through}
use Rattle.rank_laws.specs.Whole.{rules_of}
use Rattle.rank_walk.specs.declared.walker.Walker.{Walker}
use Rattle.rank_walk.specs.Seats.{IsSeat}
use Rattle.rank_walk.specs.Walkers.{IsThrough, IsWalker}
use Rattle.rank_walk.proofs.Divided.{seat_along}
use Rattle.rank_exchange.specs.Moments.{Moment, state_at}
use Rattle.rank_exchange.specs.Ranks.{seat_at}

pub seated : (m : Moment) → IsSeat (seat_at m)
seated m = seat_along m.whole m.is_whole m.along m.rank m.within

pub through_at : (m : Moment) (v : Walker) → IsWalker (seat_at m) (state_at m) v → through (rules_of m.whole) (state_at m) ≡ true → IsThrough (seat_at m) (state_at m) v
through_at m v h e = record { seat = seated m; walker = h; through = e }
