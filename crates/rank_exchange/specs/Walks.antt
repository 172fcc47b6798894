-- A rank's walk at a moment, and the reply that it awaits.
use Rattle.std.specs.Prelude.{◌≡◌, true, false, Option}
use Rattle.cell_space.specs.Cells.{CellData}
use Rattle.rank_laws.specs.Machine.{Rank, Walk, is_one}
use Rattle.rank_laws.specs.Contents.{EntryData, reply_sent}
use Rattle.rank_curve_laws.specs.Along.{keys_along}
use Rattle.rank_entry_laws.specs.Given.{HasSoftenings}
use Rattle.rank_walk.specs.declared.walker.Walker.{Walker}
use Rattle.rank_walk.specs.Seats.{IsSeat, Seat}
use Rattle.rank_walk.specs.Walkers.{IsWalker}
use Rattle.rank_exchange.specs.declared.post.Post.{Post}
use Rattle.rank_exchange.specs.Moments.{Moment, action_at, state_at}
use Rattle.rank_exchange.specs.Posts.{Serves}
use Rattle.rank_exchange.specs.Ranks.{KeepsWalk, seat_at}

-- the rank of this post walks next, and here is what is kept for that
pub record WalksNext (m : Moment) (p : Post) (v : Option Walker) : Type 0 where
  pub post : Serves p (seat_at m)
  pub walks : action_at m ≡ Walk
  pub kept : KeepsWalk (seat_at m) (state_at m) v

-- a rank awaits the answer on a cell, and this is what the cell's home answers
pub record AwaitsAnswer (z : Seat) (s : Rank) (v : Walker) (c : CellData) (e : Option EntryData) : Type 0 where
  pub seat : IsSeat z
  pub softenings : HasSoftenings z.whole
  pub along : z.whole.keys ≡ keys_along z.whole.keys.bounds
  pub walker : IsWalker z s v
  pub asked : is_one c s.asked ≡ true
  pub new : is_one c s.replies ≡ false
  pub answer : e ≡ reply_sent z.whole c
