-- What a home makes of the entries that it has kept.
use Rattle.std.specs.Prelude.{◌≡◌, ◌≤◌, ℕ, ◌+◌, ◌%◌, ◌^◌, if◌then◌else◌, List, [], ◌∷◌, map, take, slice_index_or, Option, Some, None}
use Rattle.std.specs.List.{flat_map, range_with_len}
use Rattle.std.specs.List.Sorted.{IsPermutation}
use Rattle.cell_space.specs.Cells.{CellData, same_cell}
use Rattle.nbody_model.specs.Bodies.{BodyData}
use Rattle.nbody_model.specs.Tables.{Gravity}
use Rattle.node_moments.specs.Sums.{raw_of}
use Rattle.octree_build.specs.Slots.{keys_below}
use Rattle.rank_laws.specs.Homes.{home}
use Rattle.rank_laws.specs.Whole.{Whole, IsWhole, ranks}
use Rattle.rank_laws.specs.Contents.{EntryData, table_sent}
use Rattle.rank_curve_laws.specs.Along.{divided}
use Rattle.rank_entry_laws.specs.Given.{HasSoftenings, is_around, seen_from, together}

-- the entries that a home was sent by all ranks, its own among them, in whichever order the ranks came
pub record IsTable (w : Whole) (to : ℕ) (entries : List EntryData) : Type 0 where
  pub whole : IsWhole w
  pub softenings : HasSoftenings w
  pub order : List ℕ
  pub all : IsPermutation (ranks w) order
  pub kept : entries ≡ flat_map (λ r. table_sent w r to) order

-- a table at the home of a cell
pub record IsHomeTable (w : Whole) (entries : List EntryData) (c : CellData) : Type 0 where
  pub table : IsTable w (home w.keys c) entries

-- what an entry tells of a cell: it is the cell's, or that of a leaf around it, seen from the cell; or nothing
abbrev pub part : CellData → EntryData → Option EntryData
part c e = if same_cell e.raw.cell c then Some e else (if is_around c e then Some (seen_from c e) else None)

-- what some entries tell of a cell, together
abbrev pub gathered : CellData → List EntryData → Option EntryData
gathered c [] = None
gathered c (e ∷ es) = together (part c e) (gathered c es)

-- the entries of a table in an order
abbrev pub along : List EntryData → List ℕ → EntryData → List EntryData
along entries order d = map (λ n. slice_index_or entries (n % 2 ^ 25) d) order

-- what those below a number tell of a cell
abbrev pub gathered_below : CellData → List EntryData → List ℕ → EntryData → ℕ → Option EntryData
gathered_below c entries order d n = gathered c (take (keys_below order n) (along entries order d))

abbrev pub count_of : Option EntryData → ℕ
count_of None = 0
count_of (Some e) = e.raw.count

abbrev pub mass_in : Option EntryData → ℕ
mass_in None = 0
mass_in (Some e) = e.raw.mass

-- an answer, if there is one, has sums over some bodies from a cell's corner
pub record IsSummed (soft : List ℕ) (c : CellData) (x : Option EntryData) : Type 0 where
  pub members : List BodyData
  pub sums : (e : EntryData) → x ≡ Some e → e.raw ≡ raw_of soft c members

-- two answers that may be joined
pub record MayJoin (x y : Option EntryData) : Type 0 where
  pub soft : List ℕ
  pub cell : CellData
  pub first : IsSummed soft cell x
  pub second : IsSummed soft cell y
  pub few : count_of x + count_of y ≤ 1048576
  pub light : mass_in x + mass_in y ≤ 2 ^ 32

-- of bodies with these owners: a table has what the first n ranks send to a home, in their order
abbrev pub KeepsAll : (bodies : List BodyData) → (owners bounds soft : List ℕ) → (to n : ℕ) → List EntryData → Type 0
KeepsAll bodies owners bounds soft to n entries = (g : Gravity) → g.setup.soft ≡ soft → entries ≡ flat_map (λ r. table_sent (divided bodies g owners bounds) r to) (range_with_len 0 n)

-- and of one rank: these are the entries that it sends to a home
abbrev pub Sends : (bodies : List BodyData) → (owners bounds soft : List ℕ) → (to r : ℕ) → List EntryData → Type 0
Sends bodies owners bounds soft to r entries = (g : Gravity) → g.setup.soft ≡ soft → entries ≡ table_sent (divided bodies g owners bounds) r to
