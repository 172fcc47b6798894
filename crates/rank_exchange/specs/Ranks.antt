-- A rank as the code keeps it, and what its calls come to.
use Rattle.std.specs.Prelude.{◌≡◌, ◌∷◌, ◌+◌, ℕ, true, cond, List, [], length, map, Option, Some, None}
use Rattle.std.specs.List.{AllByRecursion, flat_map}
use Rattle.std.specs.List.Sorted.{IsPermutation}
use Rattle.hilbert_keys.specs.Curve.{IsCell}
use Rattle.nbody_model.specs.Bodies.{BodyData}
use Rattle.nbody_model.specs.Tables.{Gravity}
use Rattle.octree_build.specs.Trees.{IsAlong}
use Rattle.cell_space.specs.Cells.{CellData}
use Rattle.nbody_model.specs.Evolve.{is_empty}
use Rattle.rank_laws.specs.Machine.{Share, Walk, Kind, Table, Sums, Members, Parts, Action, Rank, after, answers_of, fresh, has_all, kept, list_after, sent, to_all}
use Rattle.rank_laws.specs.Whole.{Whole, own, ranks_of, rules_of}
use Rattle.rank_laws.specs.Contents.{Contents, contents, EntryData, Summed, members_sent, parts_sent, sums_sent, table_sent}
use Rattle.rank_laws.specs.Kept.{given_up, senders}
use Rattle.rank_laws.specs.Told.{size_by, told_action}
use Rattle.rank_walk.specs.declared.walker.Walker.{Walker}
use Rattle.rank_walk.specs.Seats.{Seat}
use Rattle.rank_walk.specs.Walkers.{IsUnwalked, IsWalker}
use Rattle.rank_exchange.specs.declared.keyed.Keyed.{Keyed}
use Rattle.rank_exchange.specs.declared.due.Due.{Due}
use Rattle.rank_exchange.specs.declared.rank.Acted.{Acted}
use Rattle.rank_exchange.specs.declared.rank.Rank.{Rank as Code}
use Rattle.rank_exchange.specs.Came.{came, home_totals, kept_from}
use Rattle.rank_exchange.specs.Keyed.{Climbs as KeysClimb, keys_in, sum_at}
use Rattle.rank_exchange.specs.Messages.{MessageData, filled}
use Rattle.rank_exchange.specs.Moments.{Arrival, Moment, action_at, state_at}
use Rattle.rank_exchange.specs.Sums.{Climbs, cells_in}

-- what the code keeps of a rank
abbrev pub RankData : Type 0
RankData = Code

-- ---- what it keeps is a rank's of the machine

-- so many ranks are still to send: all others but those from which the kind came
pub record AreDue (w : Whole) (s : Rank) (due : Due) : Type 0 where
  pub tables : length (senders Table s) + 1 + due.tables ≡ ranks_of w
  pub sums : length (senders Sums s) + 1 + due.sums ≡ ranks_of w
  pub members : length (senders Members s) + 1 + due.members ≡ ranks_of w
  pub parts : length (senders Parts s) + 1 + due.parts ≡ ranks_of w

-- the ranks whose entries the home has: those whose tables came, and itself once it has built
abbrev pub told_by : ℕ → Rank → List ℕ
told_by r s = cond s.built (r ∷ senders Table s) (senders Table s)

-- these entries, in whichever order the ranks came
pub record KeepsTable (w : Whole) (r : ℕ) (s : Rank) (entries : List EntryData) : Type 0 where
  pub order : List ℕ
  pub all : IsPermutation (told_by r s) order
  pub kept : entries ≡ flat_map (λ q. table_sent w q r) order

-- what is kept for its walk: nothing before the first
abbrev pub KeepsWalk : Seat → Rank → Option Walker → Type 0
KeepsWalk z s None = IsUnwalked s
KeepsWalk z s (Some v) = (s.walked ≡ true) × IsWalker z s v

-- the totals of a home's cells, in the order of cells
pub record AreTotals (w : Whole) (r : ℕ) (totals : List Summed) : Type 0 where
  pub are : totals ≡ home_totals w r
  pub climbs : Climbs (cells_in totals)
  pub boxed : AllByRecursion IsCell (cells_in totals)

-- at the id of each body stands what the rank has for it
pub record AreForces (w : Whole) (r : ℕ) (s : Rank) (forces : List Keyed) : Type 0 where
  pub climbs : KeysClimb (keys_in forces)
  pub given : (b : BodyData) → sum_at b.id forces ≡ given_up w r s b

-- What the code keeps is that of rank r of a whole in a state of the machine, but for the forces: its number, its bodies, which
-- actions it has done, what came and what it made of that. The totals stand there once it has added, and its own parts once it
-- has shared.
pub record HasMost (w : Whole) (r : ℕ) (s : Rank) (v : RankData) : Type 0 where
  pub number : v.number ≡ r
  pub ranks : v.ranks ≡ ranks_of w
  pub bodies : v.own.items ≡ own w r
  pub along : v.sorted ≡ true → IsAlong (own w r) v.along.items
  pub built : v.built ≡ s.built
  pub added : v.added ≡ s.added
  pub shared : v.shared ≡ s.shared
  pub due : AreDue w s v.due
  pub table : KeepsTable w r s v.table
  pub walk : KeepsWalk (record { whole = w; rank = r }) s v.walker
  pub sums : v.sums.items ≡ flat_map (λ q. sums_sent w q r) (came Sums s)
  pub members : v.members.items ≡ flat_map (λ q. map (kept_from q) (members_sent w q r)) (came Members s)
  pub parts : v.parts.items ≡ flat_map (λ q. parts_sent w q r) (came Parts s)
  pub totals : s.added ≡ true → AreTotals w r v.totals.items
  pub given : s.shared ≡ true → v.given.items ≡ parts_sent w r r

-- and the forces, once it has shared and no part is due
pub record IsRank (w : Whole) (r : ℕ) (s : Rank) (v : RankData) : Type 0 where
  pub most : HasMost w r s v
  pub forces : s.shared ≡ true → v.due.parts ≡ 0 → AreForces w r s v.forces.items

-- the own bodies stand in the order of the curve beside
pub record IsSorted (w : Whole) (r : ℕ) (s : Rank) (v : RankData) : Type 0 where
  pub rank : IsRank w r s v
  pub sorted : v.sorted ≡ true

-- ---- at a moment

abbrev pub IsAt : Moment → RankData → Type 0
IsAt m v = IsRank m.whole m.rank (state_at m) v

-- the rank of a moment, as its walk sees it
abbrev pub seat_at : Moment → Seat
seat_at m = record { whole = m.whole; rank = m.rank }

-- the rank of a moment, with a kit of the setup and the table of the whole, and the bounds of its ranks
pub record Attends (m : Moment) (g : Gravity) (b : List ℕ) (v : RankData) : Type 0 where
  pub rank : IsAt m v
  pub gravity : m.whole.gravity ≡ g
  pub bounds : m.whole.keys.bounds ≡ b

-- the rank does an action: what is kept then, and what is said of it, with what it sends, in order
pub record HasDone (m : Moment) (action : Action) (a : Acted) (v : RankData) : Type 0 where
  pub rank : IsRank m.whole m.rank (after (rules_of m.whole) m.rank (state_at m) action) v
  pub kind : a.kind ≡ told_action action
  pub size : a.size ≡ size_by m.whole m.rank (state_at m) action
  pub messages : a.messages.items ≡ map (filled m.whole) (sent (rules_of m.whole) m.rank (state_at m) action)

-- the rank of a moment, whose next action is this
pub record DoesNext (m : Moment) (action : Action) (v : RankData) : Type 0 where
  pub rank : IsAt m v
  pub next : action_at m ≡ action

-- and with a kit and bounds
pub record AttendsTo (m : Moment) (action : Action) (g : Gravity) (b : List ℕ) (v : RankData) : Type 0 where
  pub attends : Attends m g b v
  pub next : action_at m ≡ action

-- it shares next, and its bodies stand in the order of the curve
pub record SharesNext (m : Moment) (v : RankData) : Type 0 where
  pub does : DoesNext m Share v
  pub sorted : v.sorted ≡ true

-- it has walked, with bounds that are those of the whole
pub record HasWalked (m : Moment) (b : List ℕ) (v : RankData) : Type 0 where
  pub rank : IsRank m.whole m.rank (after (rules_of m.whole) m.rank (state_at m) Walk) v
  pub bounds : m.whole.keys.bounds ≡ b
  pub next : action_at m ≡ Walk

-- these are the cells that it then asks for; all that it sends then, and of that the sums
abbrev pub AreAsked : Moment → List CellData → Type 0
AreAsked m cs = cs ≡ fresh (rules_of m.whole) m.rank (state_at m)

abbrev pub AreSentNext : Moment → List MessageData → Type 0
AreSentNext m out = out ≡ map (filled m.whole) (sent (rules_of m.whole) m.rank (state_at m) Walk)

abbrev pub AreSumsNext : Moment → List MessageData → Type 0
AreSumsNext m out = out ≡ map (filled m.whole) (cond (is_empty (list_after (rules_of m.whole) m.rank (state_at m))) (to_all (rules_of m.whole) Sums m.rank) [])

-- it has shared
abbrev pub HasShared : Moment → RankData → Type 0
HasShared m v = IsRank m.whole m.rank (after (rules_of m.whole) m.rank (state_at m) Share) v

-- it does what it does next
abbrev pub HasActed : Moment → Acted → RankData → Type 0
HasActed m a v = HasDone m (action_at m) a v

-- the answer that a rank hands back, as a list
abbrev pub handed_back : Option MessageData → List MessageData
handed_back None = []
handed_back (Some m) = m ∷ []

-- a message of a kind comes to the rank
pub record Meets (a : Arrival) (k : Kind) (v : RankData) : Type 0 where
  pub rank : IsAt a.moment v
  pub kind : a.message.kind ≡ k

-- a message with these contents comes to the rank, from a rank
pub record Brings (a : Arrival) (c : Contents) (q : ℕ) (v : RankData) : Type 0 where
  pub rank : IsAt a.moment v
  pub carries : c ≡ contents a.moment.whole a.message
  pub sender : a.message.from ≡ q

-- what is kept once the message has come
abbrev pub Keeps : Arrival → RankData → Type 0
Keeps a v = IsRank a.moment.whole a.moment.rank (kept (rules_of a.moment.whole) a.message (state_at a.moment) a.message.kind) v

-- the rank takes a message: what is kept then, and what it answers
pub record HasTaken (a : Arrival) (out : Option MessageData) (v : RankData) : Type 0 where
  pub rank : Keeps a v
  pub answer : handed_back out ≡ map (filled a.moment.whole) (answers_of (rules_of a.moment.whole) a.message a.message.kind)

-- the rank has shared and has the parts of all others: it can tell the forces on its bodies
pub record MayTell (m : Moment) : Type 0 where
  pub shared : (state_at m).shared ≡ true
  pub parts : has_all (rules_of m.whole) Parts m.rank (state_at m) ≡ true
