-- Sums over members, from the last node to the first.
use Rattle.std.specs.Prelude.{◌≡◌, ◌≤◌, ◌<◌, ℕ, ◌-◌, ◌^◌, true, false, List, length, slice_index_or}
use Rattle.std.specs.List.{AllByRecursion}
use Rattle.cell_space.specs.Cells.{Position, InBox, CellData, contains}
use Rattle.nbody_model.specs.Bodies.{BodyData}
use Rattle.nbody_model.specs.Setups.{SetupData}
use Rattle.nbody_model.specs.Nodes.{positions_of, members, is_node, is_leaf}
use Rattle.nbody_model.specs.Moments.{mass_of}
use Rattle.node_moments.specs.Sums.{RawData, raw_of}
use Rattle.octree_build.specs.Trees.{key_at, Rises, low_of, high_of, opened, IsOver}
use Rattle.octree_build.specs.Slots.{SlotData, cells_in, IsNode, IsGrowth}

-- bodies of the box in the order of the curve, few and light enough
pub record AreLimited (S : List BodyData) : Type 0 where
  pub rises : Rises key_at S
  pub in_box : AllByRecursion (λ b. InBox b.motion.pos) S
  pub few : length S ≤ 1048576
  pub light : mass_of S ≤ 2 ^ 32

-- the sums over the members of a cell
abbrev pub sum_in : List ℕ → List BodyData → CellData → RawData
sum_in soft S c = raw_of soft c (members S c)

-- a node, and where its members begin and end
pub record IsRange (S : List BodyData) (c : CellData) (low high : ℕ) : Type 0 where
  pub limited : AreLimited S
  pub node : IsNode (positions_of S) c
  pub begins : low ≡ low_of S c
  pub ends : high ≡ high_of S c

-- bodies in the order of the curve that keep the limits in another order
pub record HaveWhole (soft : List ℕ) (S : List BodyData) : Type 0 where
  pub whole : List BodyData
  pub over : IsOver soft whole S

-- the sums over the members of a node d, all of whom lie in c
pub record IsChildSum (soft : List ℕ) (S : List BodyData) (c d : CellData) (r : RawData) : Type 0 where
  pub whole : HaveWhole soft S
  pub node : is_node (positions_of S) d ≡ true
  pub inside : (p : Position) → contains d p ≡ true → contains c p ≡ true
  pub sum : r ≡ sum_in soft S d

-- the sums over the members of each child of a node, the first child's below place top, the next below it
pub record HaveChildSums (soft : List ℕ) (S : List BodyData) (c : CellData) (raws : List RawData) (top number : ℕ) : Type 0 where
  pub whole : HaveWhole soft S
  pub node : IsNode (positions_of S) c
  pub inner : is_leaf (positions_of S) c ≡ false
  pub all : number ≡ length (opened (positions_of S) c)
  pub within : top ≤ length raws
  pub below : number ≤ top
  pub each : (j : ℕ) (d : RawData) (e : CellData) → j < number → slice_index_or raws (top - 1 - j) d ≡ sum_in soft S (slice_index_or (opened (positions_of S) c) j e)

-- the sums of the cells from place i on, the last cell's first
pub record AreSums (soft : List ℕ) (S : List BodyData) (cells : List CellData) (i : ℕ) (raws : List RawData) : Type 0 where
  pub from : i ≤ length cells
  pub long : length raws ≡ length cells - i
  pub each : (k : ℕ) (d : RawData) (e : CellData) → i ≤ k → k < length cells → slice_index_or raws (length cells - 1 - k) d ≡ sum_in soft S (slice_index_or cells k e)

-- a whole tree's cells with the sums of each
pub record IsMade (soft : List ℕ) (S : List BodyData) (slots : List SlotData) (firsts : List ℕ) (raws : List RawData) : Type 0 where
  pub whole : HaveWhole soft S
  pub growth : IsGrowth S slots firsts
  pub sums : AreSums soft S (cells_in slots) 0 raws

-- what holds for each setup and each order of the bodies over which the sums are made
abbrev pub OverMade : List BodyData → List SlotData → List ℕ → List RawData → (SetupData → List BodyData → Type 0) → Type 0
OverMade S slots firsts raws P = (s : SetupData) (B : List BodyData) → IsOver s.soft B S → IsMade s.soft S slots firsts raws → P s B
