-- A rank's post serves its seat at a moment.
use Rattle.std.proofs.Common.{◌≡◌, ap, ◌∙◌}
use Rattle.home_cells.specs.Found.{IsTable}
use Rattle.rank_curve_laws.specs.Along.{keys_along}
use Rattle.rank_exchange.specs.declared.post.Post.{Post}
use Rattle.rank_exchange.specs.Moments.{Moment}
use Rattle.rank_exchange.specs.Posts.{Serves, gravity_of}
use Rattle.rank_exchange.specs.Ranks.{seat_at}
use Rattle.rank_exchange.proofs.Seated.{seated}

-- a rank's post at a moment: its number, the bounds, its home's table and what forces are found by are those of the rank
pub serves_at : (m : Moment) (p : Post) → p.number ≡ m.rank → m.whole.gravity ≡ gravity_of p → m.whole.keys.bounds ≡ p.bounds.now → IsTable m.whole m.rank p.table.now → Serves p (seat_at m)
serves_at m p n g b t = record {
  seat = seated m;
  gravity = g;
  number = n;
  keys = m.along ∙ ap keys_along b;
  table = t;
}
