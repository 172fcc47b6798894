-- The post of a rank among all, and to whom it tells the truth.
use Rattle.std.specs.Prelude.{◌≡◌, ℕ, IfSome, Option, is_some, option_copied}
use Rattle.cell_space.specs.Cells.{CellData}
use Rattle.nbody_model.specs.Tables.{Gravity}
use Rattle.rank_laws.specs.Homes.{home}
use Rattle.rank_laws.specs.Whole.{IsWhole}
use Rattle.rank_laws.specs.Contents.{EntryData, reply_sent}
use Rattle.rank_curve_laws.specs.Along.{keys_along}
use Rattle.rank_entry_laws.specs.Given.{HasSoftenings}
use Rattle.home_cells.specs.Found.{IsTable}
use Rattle.rank_walk.specs.declared.told.Known.{Known}
use Rattle.rank_walk.specs.Seats.{IsKnown, IsSeat, IsSeatBy, Seat, Stands, is_home}
use Rattle.rank_exchange.specs.declared.post.Post.{Post}

abbrev pub gravity_of : Post → Gravity
gravity_of p = record { setup = p.setup.now; table = option_copied p.corrections }

-- a post is that of a rank: its number, the bounds of all, the entries that all sent to it, and what forces are found by
pub record Serves (p : Post) (z : Seat) : Type 0 where
  pub seat : IsSeat z
  pub gravity : z.whole.gravity ≡ gravity_of p
  pub number : p.number ≡ z.rank
  pub keys : z.whole.keys ≡ keys_along p.bounds.now
  pub table : IsTable z.whole z.rank p.table.now

pub are_seats : (p : Post) (z : Seat) → Serves p z → IsSeatBy (gravity_of p) z
are_seats p z h = record { seat = h.seat; gravity = h.gravity }

-- an entry, or nothing, is what the home of a cell that stands answers
pub record Answers (z : Seat) (c : CellData) (e : Option EntryData) : Type 0 where
  pub whole : IsWhole z.whole
  pub softenings : HasSoftenings z.whole
  pub standing : Stands c z
  pub is : e ≡ reply_sent z.whole c

-- a cell of this home stands at the seat of a post
pub record Asks (p : Post) (c : CellData) (h : ℕ) (z : Seat) : Type 0 where
  pub post : Serves p z
  pub standing : Stands c z
  pub home : h ≡ home z.whole.keys c

-- something is known of a cell where the rank is its home, and it is true
pub record IsKnownAt (z : Seat) (c : CellData) (k : Option Known) : Type 0 where
  pub here : is_some k ≡ is_home z c
  pub known : IfSome k (IsKnown z c)
