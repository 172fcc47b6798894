-- A rank of the machine, as the code keeps it.
use Rattle.std.specs.Prelude.{◌≡◌, ◌<◌, ℕ, ◌+◌, ◌*◌, ◌^◌, Bool, true, false, not, ◌||◌, List, [], ◌∷◌, map, length, sum_by, slice_index_or, Some}
use Rattle.std.specs.List.{list_any}
use Rattle.std.specs.BTreeMap.{get}
use Rattle.std.specs.Ordering.{nat_cmp}
use Rattle.fixed_point.specs.Vectors.{IsAtMost}
use Rattle.cell_space.specs.Cells.{CellData}
use Rattle.rank_laws.specs.Trees.{all_from}
use Rattle.rank_laws.specs.Machine.{Pair, Rank, Walk, after, fresh, is_one, knows_both, through, todo}
use Rattle.rank_laws.specs.Told.{size_by}
use Rattle.rank_laws.specs.Contents.{Summed as Sum}
use Rattle.rank_laws.specs.Whole.{counted_in, depth_of, next_of, start_of}
use Rattle.rank_walk.specs.declared.sending.Summed.{Summed}
use Rattle.rank_walk.specs.declared.told.Known.{Known}
use Rattle.rank_walk.specs.declared.walker.Walker.{Walker}
use Rattle.rank_walk.specs.Seats.{IsKnown, IsSeat, Seat, is_home, rules, side}
use Rattle.rank_walk.specs.Slots.{slot_at, cells_in, cells, value_at, flag_at, sum_at_place}
use Rattle.rank_walk.specs.Walked.{AreListed, IsHeard, done_to, takes_part}

-- a weight of all pairs that are reached from some pairs
abbrev pub weight_from : Seat → (Pair → ℕ) → List Pair → ℕ
weight_from z g xs = sum_by (λ x. sum_by g (all_from depth_of (next_of z.whole z.rank) x)) xs

-- the interactions that a rank has counted
abbrev pub counted_of : Seat → Rank → List Pair
counted_of z s = counted_in z.whole z.rank s.done

-- a walk: the rank after it, how many interactions it counts, and the cells that it asks for, in order
abbrev pub walked_on : Seat → Rank → Rank
walked_on z s = after (rules z) z.rank s Walk

abbrev pub walked_size : Seat → Rank → ℕ
walked_size z s = size_by z.whole z.rank s Walk

abbrev pub asks_of : Seat → Rank → List CellData
asks_of z s = fresh (rules z) z.rank s

-- a reply on a cell came
abbrev pub replied : Rank → CellData → Rank
replied s c = record s { replies = c ∷ s.replies }

-- a ready rank may walk
abbrev pub may_go_on : Seat → Rank → Bool
may_go_on z s = not s.walked || list_any (knows_both (rules z) z.rank s.replies) s.list

-- a rank before its first walk
pub record IsUnwalked (s : Rank) : Type 0 where
  pub walked : s.walked ≡ false
  pub done : s.done ≡ []
  pub asked : s.asked ≡ []
  pub replies : s.replies ≡ []

-- what stands beside a rank's walk: as many interactions were counted as there are among the pairs that it worked off, at each
-- cell stands what they did to it, and the cells are flagged that took part and that were asked for
pub record IsKept (z : Seat) (s : Rank) (w : Walker) : Type 0 where
  pub counted : w.counted ≡ length (counted_of z s)
  pub sums : (c : CellData) → value_at (cells_in w.heard.slots.items) w.heard.sums.items c ≡ done_to z (counted_of z s) c
  pub touched : (c : CellData) → flag_at (cells_in w.heard.slots.items) w.heard.touched.items c ≡ takes_part (counted_of z s) c
  pub asked : (c : CellData) → flag_at (cells_in w.heard.slots.items) w.heard.asked.items c ≡ is_one c s.asked
  pub small : (i : ℕ) → IsAtMost (w.counted * 2 ^ 86) (sum_at_place w.heard.sums.items i)

-- what holds of a rank in each run: the pairs worked off, with those reached from the ones to do, are all that is reached; a
-- reply came of a cell that was asked for, whose home is another rank
pub record IsInRun (z : Seat) (s : Rank) : Type 0 where
  pub settled : (g : Pair → ℕ) → sum_by g s.done + weight_from z g (todo (rules z) z.rank s) ≡ weight_from z g (start_of z.whole z.rank)
  pub answered : (c : CellData) → is_one c s.replies ≡ true → is_one c s.asked ≡ true
  pub away : (c : CellData) → is_one c s.asked ≡ true → is_home z c ≡ false

-- The slots are those of a rank that has these replies; the list is the rank's; it is noted where the cells stand that were
-- asked for. Of the rank this looks at what it walked, its list, what it worked off, its asks and its replies.
pub record IsWalker (z : Seat) (s : Rank) (w : Walker) : Type 0 where
  pub heard : IsHeard (side z s.replies) w.heard
  pub listed : AreListed w.heard.slots.items w.list.items
  pub pairs : map (cells w.heard.slots.items) w.list.items ≡ todo (rules z) z.rank s
  pub kept : IsKept z s w
  pub run : IsInRun z s
  pub found : (i : ℕ) → i < length w.heard.slots.items → slice_index_or w.heard.asked.items i false ≡ true → get nat_cmp w.places (slot_at w.heard.slots.items i).order ≡ Some i
  pub walked : w.walked ≡ s.walked
  pub more : w.more ≡ list_any (knows_both (rules z) z.rank s.replies) (todo (rules z) z.rank s)

-- a rank awaits a reply on a cell with this first key, and what comes is true of the cell
pub record Awaits (z : Seat) (s : Rank) (w : Walker) (c : CellData) (first : ℕ) (k : Known) : Type 0 where
  pub seat : IsSeat z
  pub walker : IsWalker z s w
  pub asked : is_one c s.asked ≡ true
  pub new : is_one c s.replies ≡ false
  pub number : first ≡ z.whole.keys.first c
  pub known : IsKnown z c k

-- it is kept for a rank before its first walk
abbrev pub IsKeptFirst : Walker → Seat → Type 0
IsKeptFirst w z = (s : Rank) → IsUnwalked s → IsWalker z s w

-- whatever rank a walker is kept for, it is kept for it after a walk; the walk counts so many interactions, and asks for these
-- cells
abbrev pub WalksOn : Walker → Walker → Seat → Type 0
WalksOn v w z = (s : Rank) → IsWalker z s v → IsWalker z (walked_on z s) w

abbrev pub CountsNow : Walker → ℕ → Seat → Type 0
CountsNow w n z = (s : Rank) → IsWalker z s w → n ≡ walked_size z s

abbrev pub AsksNow : Walker → List CellData → Seat → Type 0
AsksNow w cs z = (s : Rank) → IsWalker z s w → cs ≡ asks_of z s

-- a walker is kept for some rank
abbrev pub IsKeptFor : Walker → Seat → Type 0
IsKeptFor w z = (s : Rank) × IsWalker z s w

-- a rank that has walked, with no pair left
pub record IsThrough (z : Seat) (s : Rank) (w : Walker) : Type 0 where
  pub seat : IsSeat z
  pub walker : IsWalker z s w
  pub through : through (rules z) s ≡ true

-- cells with their sums, as a message has them
abbrev pub as_sent : List Summed → List Sum
as_sent ms = map (λ m. record { cell = m.cell; sum = m.sum }) ms
