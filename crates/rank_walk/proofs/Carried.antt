-- What a rank keeps for its walk goes with the rank through all else that it does.
use Rattle.std.proofs.Common.{Bool, List}
use Rattle.rank_laws.specs.Machine.{Message, Rank}
use Rattle.rank_walk.specs.declared.walker.Walker.{Walker}
use Rattle.rank_walk.specs.Seats.{Seat}
use Rattle.rank_walk.specs.Walkers.{IsWalker}

pub carried : (z : Seat) (s : Rank) (w : Walker) → IsWalker z s w → (built added shared : Bool) (got : List Message) → IsWalker z (record s { built = built; added = added; shared = shared; got = got }) w
carried z s w h built added shared got = record {
  heard = h.heard;
  listed = h.listed;
  pairs = h.pairs;
  kept = record { counted = h.kept.counted; sums = h.kept.sums; touched = h.kept.touched; asked = h.kept.asked; small = h.kept.small };
  run = record { settled = h.run.settled; answered = h.run.answered; away = h.run.away };
  found = h.found;
  walked = h.walked;
  more = h.more;
}
