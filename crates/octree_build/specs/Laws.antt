-- The laws of trees.
use Rattle.std.specs.Prelude.{◌≡◌, ◌≤◌, ◌<◌, ℕ, ◌+◌, ◌-◌, ◌*◌, if◌then◌else◌, false, List, [], ◌∷◌, ⊤, length, take, drop, slice_index_or}
use Rattle.std.specs.List.{count_by, AllByRecursion}
use Rattle.std.specs.List.Sorted.{IsPermutation}
use Rattle.cell_space.specs.Cells.{Position, InBox, CellData, same_cell}
use Rattle.std.proofs.Common.{◌⊎◌}
use Rattle.hilbert_keys.specs.Curve.{IsCell, number_of}
use Rattle.nbody_model.specs.Bodies.{BodyData}
use Rattle.nbody_model.specs.Setups.{SetupData}
use Rattle.nbody_model.specs.Nodes.{members}
use Rattle.nbody_model.specs.Covers.{Opening, leaf}
use Rattle.nbody_model.specs.Walks.{kids}
use Rattle.octree_build.specs.Trees.{opened, IsGrown, first_child, is_tree_node, key_at, Rises, low_of, high_of, TreeData, cells_of, IsTree}

-- the list has each cell with a member that isn't strictly inside a leaf once, and nothing else
pub record HasNodesOnce (ps : List Position) (cells : List CellData) : Type 0 where
  pub each : AllByRecursion IsCell cells
  pub once : (c : CellData) → IsCell c → count_by (same_cell c) cells ≡ (if is_tree_node ps c then 1 else 0)

abbrev pub TreesHaveNodes : Type 0
TreesHaveNodes = (ps : List Position) (cells : List CellData) → IsGrown ps cells → HasNodesOnce ps cells

-- the children of the cell at a place stand side by side, from its first child on, which comes behind it
pub record AreBeside (ps : List Position) (cells : List CellData) (i : ℕ) (c : CellData) : Type 0 where
  pub within : first_child ps cells i + length (opened ps c) ≤ length cells
  pub are : take (length (opened ps c)) (drop (first_child ps cells i) cells) ≡ opened ps c

abbrev pub ChildrenAreBeside : Type 0
ChildrenAreBeside = (ps : List Position) (cells : List CellData) → IsGrown ps cells → (d : CellData) (i : ℕ) → i < length cells → AreBeside ps cells i (slice_index_or cells i d)

-- the members of a cell are a range of the bodies in the order of the curve
abbrev pub MembersAreRange : Type 0
MembersAreRange = (S : List BodyData) → AllByRecursion (λ b. InBox b.motion.pos) S → Rises key_at S → (c : CellData) → IsCell c → members S c ≡ take (high_of S c - low_of S c) (drop (low_of S c) S)

-- the children that a cell is opened to are an order of its children
abbrev pub OpenedIsOrder : Type 0
OpenedIsOrder = (o : Opening) (c : CellData) → leaf o c ≡ false → IsPermutation (kids o c) (opened o.positions c)

-- a cell comes before another: on a higher level, or on the same level earlier along the curve
abbrev pub ComesBefore : CellData → CellData → Type 0
ComesBefore c d = (c.level < d.level) ⊎ ((c.level ≡ d.level) × (number_of c < number_of d))

abbrev pub AreInOrder : List CellData → Type 0
AreInOrder [] = ⊤
AreInOrder (c ∷ cs) = AllByRecursion (ComesBefore c) cs × AreInOrder cs

-- a tree has at most 33 nodes for each body
abbrev pub TreesAreSmall : Type 0
TreesAreSmall = (s : SetupData) (B : List BodyData) (t : TreeData) → IsTree s B t → length t.nodes ≤ 33 * length B

-- the nodes of a tree ascend by level, and in a level along the curve
abbrev pub TreesAreInOrder : Type 0
TreesAreInOrder = (s : SetupData) (B : List BodyData) (t : TreeData) → IsTree s B t → AreInOrder (cells_of t.nodes)
