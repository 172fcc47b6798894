-- What the home of a cell makes of the entries that it is sent, and what a walk reads of an entry.
use Rattle.std.specs.Prelude.{◌≡◌, ◌≤◌, ◌<◌, ℕ, Bool, true, ◌&&◌, ◌||◌, ◌==◌, nat_lt, if◌then◌else◌, List, [], ◌∷◌, ◌++◌, map, filter, slice_index, Option, Some, None}
use Rattle.std.specs.List.{AllByRecursion, list_any}
use Rattle.cell_space.specs.Cells.{CellData, contains, child, digit, below, place, same_cell}
use Rattle.nbody_model.specs.Setups.{AreSoftenings}
use Rattle.nbody_model.specs.Nodes.{positions_of, is_node}
use Rattle.nbody_model.specs.Moments.{moments}
use Rattle.nbody_model.specs.Walks.{kids}
use Rattle.node_moments.specs.Sums.{RawData}
use Rattle.node_moments.specs.Computed.{moments_by}
use Rattle.node_moments.specs.Shifted.{shifted}
use Rattle.node_moments.specs.Joined.{joined}
use Rattle.rank_laws.specs.Homes.{home}
use Rattle.rank_laws.specs.Whole.{Whole, IsWhole, opening, own, ranks}
use Rattle.rank_laws.specs.Contents.{EntryData, entry_of, table_sent, reply_sent}

-- kinds have softening lengths in their range
pub record HasSoftenings (w : Whole) : Type 0 where
  pub kinds : AllByRecursion (λ b. b.kind ≤ 5) w.bodies
  pub softenings : AreSoftenings w.gravity.setup.soft

-- ---- what the entries of one rank give for a cell

-- all members of an entry stand at one place
abbrev pub at_one : RawData → Bool
at_one r = slice_index r.lo 0 == slice_index r.hi 0 && (slice_index r.lo 1 == slice_index r.hi 1 && slice_index r.lo 2 == slice_index r.hi 2)

-- an entry is that of a leaf around a cell in which its members lie
abbrev pub is_around : CellData → EntryData → Bool
is_around c e = nat_lt e.raw.cell.level c.level && (at_one e.raw && contains c (place e.raw.lo))

-- that entry seen from the cell: the same members from the cell's corner, and of its children the one around them
abbrev pub seen_from : CellData → EntryData → EntryData
seen_from c e = record { raw = shifted e.raw c; children = if nat_lt c.level 32 then digit (place e.raw.lo) c.level ∷ [] else [] }

abbrev pub first_of : {X : Type 0} → List X → Option X
first_of [] = None
first_of (x ∷ xs) = Some x

-- the rank's entry on the cell, or else that of a leaf around it
unfoldable pub given : List EntryData → CellData → Option EntryData
given es c = first_of (filter (λ e. same_cell e.raw.cell c) es ++ map (seen_from c) (filter (is_around c) es))

-- it is what is said of the rank's own bodies in the cell, if there are any
abbrev pub GivesOwnBodies : Type 0
GivesOwnBodies = (w : Whole) → IsWhole w → HasSoftenings w → (r : ℕ) (c : CellData) → c.level ≤ 32 →
    given (table_sent w r (home w.keys c)) c ≡ (if is_node (positions_of (own w r)) c then Some (entry_of w (own w r) c) else None)

-- ---- what those of all ranks give, together

-- the children in one of two sets
abbrev pub in_either : List ℕ → List ℕ → List ℕ
in_either a b = filter (λ k. list_any (λ j. j == k) a || list_any (λ j. j == k) b) (below 8)

abbrev pub together : Option EntryData → Option EntryData → Option EntryData
together None y = y
together (Some a) None = Some a
together (Some a) (Some b) = Some (record { raw = joined a.raw b.raw; children = in_either a.children b.children })

-- what some ranks give for a cell at its home, what it tells itself among them
abbrev pub given_by : Whole → CellData → List ℕ → Option EntryData
given_by w c [] = None
given_by w c (r ∷ rs) = together (given (table_sent w r (home w.keys c)) c) (given_by w c rs)

-- all ranks: it is what a reply says
abbrev pub HomesKnowCells : Type 0
HomesKnowCells = (w : Whole) → IsWhole w → HasSoftenings w → (c : CellData) → c.level ≤ 32 → given_by w c (ranks w) ≡ reply_sent w c

-- ---- what a walk reads

-- the moments of an entry, and the children that it names, are those of the cell among all bodies
pub record IsRead (w : Whole) (c : CellData) : Type 0 where
  pub moments : moments_by (entry_of w w.bodies c).raw ≡ moments w.gravity.setup w.bodies c
  pub children : c.level < 32 → map (child c) (entry_of w w.bodies c).children ≡ kids (opening w) c

abbrev pub EntriesAreRead : Type 0
EntriesAreRead = (w : Whole) → IsWhole w → HasSoftenings w → (c : CellData) → is_node (positions_of w.bodies) c ≡ true → IsRead w c
