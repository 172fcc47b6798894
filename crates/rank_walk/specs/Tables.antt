-- How the places of a rank stand for the cells of the definitions.
use Rattle.std.specs.Prelude.{◌≡◌, ◌≢◌, ◌<◌, ◌≤◌, ℕ, ◌+◌, ◌-◌, ◌^◌, Bool, true, false, List, ◌++◌, map, filter, reverse, length, Option, Some, None, is_some, if◌then◌else◌}
use Rattle.std.specs.List.{AllByRecursion, range_with_len}
use Rattle.fixed_point.specs.Vectors.{origin}
use Rattle.cell_space.specs.Cells.{CellData, root_cell, child, below}
use Rattle.nbody_model.specs.Moments.{MomentsData}
use Rattle.nbody_model.specs.Covers.{leaf, final}
use Rattle.nbody_model.specs.Walks.{kids, down}
use Rattle.rank_laws.specs.Homes.{home, in_span}
use Rattle.rank_laws.specs.Machine.{Pair}
use Rattle.rank_laws.specs.Whole.{opening, next_of}
use Rattle.rank_walk.specs.declared.places.Places.{Places}
use Rattle.rank_walk.specs.declared.heard.Heard.{Heard}
use Rattle.rank_walk.specs.declared.told.Known.{Known}
use Rattle.rank_walk.specs.Seats.{Seat, Side, Stands, TellsBelow, has_child, is_home, knows_cell, moments_of, order_of}
use Rattle.rank_walk.specs.Slots.{SlotData, held, slot_at, cell_at_place, cells_in, cells}

-- whether a known cell is a leaf
abbrev pub leaf_of : Option MomentsData → Bool
leaf_of None = false
leaf_of (Some m) = m.leaf

abbrev pub with_children : SlotData → ℕ → ℕ → SlotData
with_children s first number = record s { first = first; number = number }

abbrev pub with_known : SlotData → Known → SlotData
with_known s k = record s { moments = Some (held k.moments); below = k.below }

-- the cell at a place is known
abbrev pub known_at : List SlotData → ℕ → Bool
known_at ss i = is_some (slot_at ss i).moments

-- what stands in a slot is true of its cell
pub record IsSlot (z : Seat) (s : SlotData) : Type 0 where
  pub shallow : s.cell.level ≤ 32
  pub standing : Stands s.cell z
  pub known : s.moments ≡ (if is_some s.moments then Some (moments_of z s.cell) else None)
  pub below : is_some s.moments ≡ true → TellsBelow s.cell s.below z
  pub mine : s.mine ≡ in_span z.whole.keys z.rank s.cell
  pub here : s.here ≡ is_home z s.cell
  pub home : s.home ≡ home z.whole.keys s.cell
  pub order : s.order ≡ order_of z.whole.keys s.cell

-- the slot of a cell that was never opened, and of which no reply came
pub record IsFresh (z : Seat) (c : CellData) (s : SlotData) : Type 0 where
  pub slot : IsSlot z s
  pub cell : s.cell ≡ c
  pub closed : s.number ≡ 0
  pub known : is_some s.moments ≡ is_home z s.cell

-- the children of a cell with members stand in a range of places, in their order
pub record IsOpened (z : Seat) (ss : List SlotData) (i : ℕ) : Type 0 where
  pub within : (slot_at ss i).first + (slot_at ss i).number ≤ length ss
  pub kids : map (cell_at_place ss) (range_with_len (slot_at ss i).first (slot_at ss i).number) ≡ kids (opening z.whole) (cell_at_place ss i)

-- a place is in the range of an opened one
pub record IsBorn (ss : List SlotData) (j : ℕ) : Type 0 where
  pub above : ℕ
  pub low : above < length ss
  pub from : (slot_at ss above).first ≤ j
  pub to : j < (slot_at ss above).first + (slot_at ss above).number

-- the slots of a rank: no cell twice, the root first, and every other cell below an opened one
pub record IsTable (z : Seat) (ss : List SlotData) : Type 0 where
  pub some : 0 < length ss
  pub short : length ss < 2 ^ 32
  pub root : cell_at_place ss 0 ≡ root_cell
  pub each : (i : ℕ) → i < length ss → IsSlot z (slot_at ss i)
  pub opened : (i : ℕ) → i < length ss → 0 < (slot_at ss i).number → IsOpened z ss i
  pub born : (j : ℕ) → j < length ss → 0 < j → IsBorn ss j
  pub distinct : (i j : ℕ) → i < length ss → j < length ss → cell_at_place ss i ≡ cell_at_place ss j → i ≡ j

-- the cells that are known are those that the rank knows
abbrev pub KnowsSlots : Side → List SlotData → Type 0
KnowsSlots z ss = (i : ℕ) → i < length ss → known_at ss i ≡ knows_cell z (cell_at_place ss i)

pub record IsIn (ss : List SlotData) (x : Places) : Type 0 where
  pub first : x.a < length ss
  pub second : x.b < length ss

-- a pair of known cells that gives others: a cell that is no leaf, or two that aren't final
pub record IsOpen (z : Seat) (ss : List SlotData) (x : Places) : Type 0 where
  pub first : known_at ss x.a ≡ true
  pub second : known_at ss x.b ≡ true
  pub parted : x.a ≡ x.b → leaf (opening z.whole) (cell_at_place ss x.a) ≡ false
  pub between : x.a ≢ x.b → final (opening z.whole) (cell_at_place ss x.a) (cell_at_place ss x.b) ≡ false

-- lists beside the slots, later on: longer by that which says nothing
pub record IsLonger (more : List CellData) (h k : Heard) : Type 0 where
  pub sums : k.sums.items ≡ h.sums.items ++ map (λ c. origin) more
  pub touched : k.touched.items ≡ h.touched.items ++ map (λ c. false) more
  pub asked : k.asked.items ≡ h.asked.items ++ map (λ c. false) more

-- the slots of a rank later on: more cells, with nothing at them yet
pub record IsGrown (z : Seat) (h k : Heard) : Type 0 where
  pub table : IsTable z k.slots.items
  pub more : List CellData
  pub cells : cells_in k.slots.items ≡ cells_in h.slots.items ++ more
  pub kept : (i : ℕ) → i < length h.slots.items → known_at k.slots.items i ≡ known_at h.slots.items i
  pub fresh : (i : ℕ) → length h.slots.items ≤ i → i < length k.slots.items → known_at k.slots.items i ≡ is_home z (cell_at_place k.slots.items i)
  pub longer : IsLonger more h k

-- the children of a cell are put behind some slots, from the last down; those below k are left
pub record IsMaking (z : Seat) (c : CellData) (start : Heard) (k : ℕ) (h : Heard) : Type 0 where
  pub made : List SlotData
  pub slots : h.slots.items ≡ start.slots.items ++ made
  pub each : AllByRecursion (λ s. IsSlot z s × (s.number ≡ 0) × (is_some s.moments ≡ is_home z s.cell)) made
  pub cells : cells_in made ++ map (child c) (filter (has_child z c) (below k)) ≡ kids (opening z.whole) c
  pub longer : IsLonger (cells_in made) start h

-- of the children from the last down to k, k is made too
abbrev pub MakesOne : CellData → ℕ → Heard → Heard → Heard → Seat → Type 0
MakesOne c k start h l z = has_child z c k ≡ true → IsMaking z c start (k + 1) h → IsMaking z c start k l

-- all children are made
abbrev pub MakesAll : CellData → ℕ → Heard → Heard → Seat → Type 0
MakesAll c n h l z = TellsBelow c n z → IsMaking z c h 0 l

-- the places from one to another stand for what a cell is replaced by
pub record IsDown (z : Seat) (ss : List SlotData) (c : CellData) (from to : ℕ) : Type 0 where
  pub up : from ≤ to
  pub within : to ≤ length ss
  pub cells : map (cell_at_place ss) (range_with_len from (to - from)) ≡ down (opening z.whole) c

-- a stack of pairs with what a pair gives on top, the first at the end
pub record IsPushed (z : Seat) (ss : List SlotData) (x : Pair) (old new : List Places) : Type 0 where
  pub given : List Places
  pub stack : new ≡ old ++ reverse given
  pub within : AllByRecursion (IsIn ss) given
  pub cells : map (cells ss) given ≡ next_of z.whole z.rank x

-- ---- opening a cell, and a pair

-- a cell is no leaf
pub record MayOpen (h : Heard) (i : ℕ) (z : Seat) : Type 0 where
  pub table : IsTable z h.slots.items
  pub parted : leaf (opening z.whole) (cell_at_place h.slots.items i) ≡ false

-- what it is replaced by stands from one place to another
pub record IsReplaced (h : Heard) (i : ℕ) (k : Heard) (from to : ℕ) (z : Seat) : Type 0 where
  pub grown : IsGrown z h k
  pub down : IsDown z k.slots.items (cell_at_place h.slots.items i) from to

abbrev pub Opens : Heard → ℕ → Heard → ℕ → ℕ → Seat → Type 0
Opens h i k from to z = MayOpen h i z → IsReplaced h i k from to z

abbrev pub GoesDown : Heard → ℕ → Heard → ℕ → ℕ → Seat → Type 0
GoesDown h i k from to z = IsTable z h.slots.items → IsReplaced h i k from to z

-- a pair gives others
pub record MayOpenPair (h : Heard) (x : Places) (z : Seat) : Type 0 where
  pub table : IsTable z h.slots.items
  pub gives : IsOpen z h.slots.items x

-- these are on the stack
pub record IsOpenedPair (h : Heard) (x : Places) (stack : List Places) (k : Heard) (new : List Places) (z : Seat) : Type 0 where
  pub grown : IsGrown z h k
  pub pushed : IsPushed z k.slots.items (cells h.slots.items x) stack new

abbrev pub OpensPair : Heard → Places → List Places → Heard → List Places → Seat → Type 0
OpensPair h x stack k new z = MayOpenPair h x z → IsOpenedPair h x stack k new z
