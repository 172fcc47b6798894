-- A tree while it grows: cells with the ranges of their members, and where their children are.
use Rattle.std.specs.Prelude.{◌≡◌, ◌<◌, ◌≤◌, ℕ, ◌+◌, ◌-◌, ◌*◌, nat_lt, if◌then◌else◌, List, [], ◌∷◌, ◌++◌, map, length, take, drop, filter, sum_by, slice_index_or, zero, suc, true}
use Rattle.std.specs.List.{flat_map, count_by, AllByRecursion}
use Rattle.cell_space.specs.Cells.{Position, InBox, CellData}
use Rattle.hilbert_keys.specs.Curve.{keys_in, number_of, first_key, child_along, children_along, IsCell}
use Rattle.nbody_model.specs.Bodies.{BodyData}
use Rattle.nbody_model.specs.Nodes.{positions_of, is_node}
use Rattle.octree_build.specs.Trees.{key_at, Rises, low_of, high_of, opened, top, first_child, IsGrown}

-- a cell, and where its members begin and end among the bodies
pub record SlotData : Type 0 where
  pub cell : CellData
  pub low : ℕ
  pub high : ℕ

abbrev pub slot_of : List BodyData → CellData → SlotData
slot_of S c = record { cell = c; low = low_of S c; high = high_of S c }

abbrev pub listed : List BodyData → CellData → List SlotData
listed S d = if is_node (positions_of S) d then slot_of S d ∷ [] else []

-- the slots of the children before a place of the curve
abbrev pub listed_before : List BodyData → CellData → ℕ → List SlotData
listed_before S c w = flat_map (λ k. listed S (child_along c k)) (take w (0 ∷ 1 ∷ 2 ∷ 3 ∷ 4 ∷ 5 ∷ 6 ∷ 7 ∷ []))

-- the least key of the child at a place, and how many bodies come before it
abbrev pub edge_key : CellData → ℕ → ℕ
edge_key c w = (8 * number_of c + w) * keys_in (c.level + 1)

abbrev pub edge : List BodyData → CellData → ℕ → ℕ
edge S c w = count_by (λ b. nat_lt (key_at b) (edge_key c w)) S

-- how many keys are below a bound
unfoldable pub keys_below : List ℕ → ℕ → ℕ
keys_below keys n = count_by (λ k. nat_lt k n) keys

-- bodies of the box in the order of the curve, and their keys
pub record AreKeyed (keys : List ℕ) (S : List BodyData) : Type 0 where
  pub are : keys ≡ map key_at S
  pub rises : Rises key_at S
  pub in_box : AllByRecursion (λ b. InBox b.motion.pos) S

-- a child d was listed, if it has members, which end at a place
abbrev pub PutsChild : List BodyData → List SlotData → CellData → ℕ → List SlotData → Type 0
PutsChild S old d end new = (end ≡ high_of S d) × (new ≡ old ++ listed S d)

-- a cell whose members begin at a place and whose keys end below a bound
pub record IsChildAt (S : List BodyData) (level at bound : ℕ) (d : CellData) : Type 0 where
  pub cell : IsCell d
  pub there : d.level ≡ level
  pub low : at ≡ low_of S d
  pub end : bound ≡ first_key d + keys_in d.level

-- the children of c before a place of the curve are listed: who comes next, the least key of what is left, and the list
pub record IsOpening (S : List BodyData) (c : CellData) (w at bound : ℕ) (start items : List SlotData) : Type 0 where
  pub next : at ≡ edge S c w
  pub key : bound ≡ edge_key c w
  pub list : items ≡ start ++ listed_before S c w

-- a cell of a level above the deepest, with its range and its least key
pub record IsToOpen (S : List BodyData) (level low high from : ℕ) (c : CellData) : Type 0 where
  pub cell : IsCell c
  pub there : c.level ≡ level
  pub begins : low ≡ low_of S c
  pub ends : high ≡ high_of S c
  pub key : from ≡ first_key c

-- the children of a cell that have members, in the order of the curve
unfoldable pub slots_below : List BodyData → CellData → List SlotData
slots_below S c = map (slot_of S) (filter (is_node (positions_of S)) (children_along c))

-- the cells of a list of slots
abbrev pub cells_in : List SlotData → List CellData
cells_in slots = map (λ s. s.cell) slots

-- a cell of the box with a member
pub record IsNode (ps : List Position) (c : CellData) : Type 0 where
  pub cell : IsCell c
  pub node : is_node ps c ≡ true

-- a tree that grows: the first i of its cells are opened, and each slot has its cell's range
pub record IsGrowing (S : List BodyData) (slots : List SlotData) (i : ℕ) : Type 0 where
  pub ranges : slots ≡ map (slot_of S) (cells_in slots)
  pub nodes : AllByRecursion (IsNode (positions_of S)) (cells_in slots)
  pub grown : cells_in slots ≡ top (positions_of S) ++ flat_map (opened (positions_of S)) (take i (cells_in slots))

-- how many cells of a tree stand at a cell and below it, within n levels, and at all that wait from place i on
unfoldable pub size_in : List Position → ℕ → CellData → ℕ
size_in ps zero c = 1
size_in ps (suc n) c = suc (sum_by (size_in ps n) (opened ps c))

unfoldable pub waiting : List BodyData → List SlotData → ℕ → ℕ
waiting S slots i = sum_by (λ c. size_in (positions_of S) (33 - c.level) c) (drop i (cells_in slots))

-- a whole tree, with the range of each of its cells
pub record AreSlots (S : List BodyData) (slots : List SlotData) : Type 0 where
  pub ranges : slots ≡ map (slot_of S) (cells_in slots)
  pub nodes : AllByRecursion (IsNode (positions_of S)) (cells_in slots)
  pub grown : IsGrown (positions_of S) (cells_in slots)

-- one cell more is opened, and less waits
pub record IsStep (S : List BodyData) (old new : List SlotData) (i : ℕ) : Type 0 where
  pub growing : IsGrowing S new (i + 1)
  pub longer : length old ≤ length new
  pub kept : (k : ℕ) → k ≤ length old → take k (cells_in new) ≡ take k (cells_in old)
  pub less : waiting S new (i + 1) < waiting S old i

-- where the children of the first i cells begin
pub record AreFirsts (S : List BodyData) (slots : List SlotData) (firsts : List ℕ) (i : ℕ) : Type 0 where
  pub long : length firsts ≡ i
  pub each : (k d : ℕ) → k < i → slice_index_or firsts k d ≡ first_child (positions_of S) (cells_in slots) k
  pub later : (k d : ℕ) → k < i → k < slice_index_or firsts k d

-- a whole tree, with where each cell's members and children stand
pub record IsGrowth (S : List BodyData) (slots : List SlotData) (firsts : List ℕ) : Type 0 where
  pub tree : AreSlots S slots
  pub begins : AreFirsts S slots firsts (length slots)
