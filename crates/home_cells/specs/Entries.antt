-- The entries that a rank's tree gives for a receiver.
use Rattle.std.specs.Prelude.{◌≡◌, ◌<◌, ℕ, ◌==◌, Bool, ◌&&◌, ◌||◌, nat_le, List, length, filter, slice_index_or}
use Rattle.std.specs.Int.{bit_at}
use Rattle.cell_space.specs.Cells.{CellData, below}
use Rattle.nbody_model.specs.Nodes.{positions_of}
use Rattle.nbody_model.specs.Moments.{MomentsData}
use Rattle.octree_build.specs.Trees.{NodeData, TreeData, IsTree, cell_of_node}
use Rattle.rank_laws.specs.Homes.{home, in_span}
use Rattle.rank_laws.specs.Whole.{Whole, own}
use Rattle.rank_laws.specs.Contents.{EntryData, entry_of, filled, table_sent}
use Rattle.rank_curve_laws.specs.Along.{keys_along}

-- the numbers below 8 whose bits are 1
abbrev pub numbers_in : ℕ → List ℕ
numbers_in bits = filter (λ k. bit_at bits k == 1) (below 8)

-- a tree is that of the bodies of rank r, and cells have their keys along the curve, with these bounds
pub record IsOfRank (w : Whole) (r : ℕ) (t : TreeData) (bounds : List ℕ) : Type 0 where
  pub keys : w.keys ≡ keys_along bounds
  pub tree : IsTree w.gravity.setup (own w r) t

-- whichever rank's tree it is, these are the entries that the rank sends to a receiver
abbrev pub AreEntriesFor : TreeData → List ℕ → ℕ → List EntryData → Type 0
AreEntriesFor t bounds to entries = (w : Whole) (r : ℕ) → IsOfRank w r t bounds → entries ≡ table_sent w r to

-- a node is told to a receiver: its home, or where it is a leaf, a rank in its span
abbrev pub is_told_by : List ℕ → ℕ → MomentsData → Bool
is_told_by bounds to m = home (keys_along bounds) m.cell == to || (m.leaf && in_span (keys_along bounds) to m.cell)

-- the span of a cell: its first rank, and its last, the cell's home
pub record IsSpanOf (bounds : List ℕ) (c : CellData) (s : ℕ × ℕ) : Type 0 where
  pub home : s.1 ≡ home (keys_along bounds) c
  pub exact : (r : ℕ) → in_span (keys_along bounds) r c ≡ (nat_le s.0 r && nat_le r s.1)

-- the spans of a tree's nodes, in their order
pub record AreSpansOf (t : TreeData) (bounds : List ℕ) (spans : List (ℕ × ℕ)) : Type 0 where
  pub long : length spans ≡ length t.nodes
  pub each : (i : ℕ) (s : ℕ × ℕ) (d : NodeData) → i < length spans → IsSpanOf bounds (cell_of_node t.nodes i d) (slice_index_or spans i s)

-- whichever rank's tree it is, this is the entry of the node at a place
abbrev pub IsEntryAt : TreeData → ℕ → EntryData → Type 0
IsEntryAt t i e = (w : Whole) (r : ℕ) → IsTree w.gravity.setup (own w r) t → (d : NodeData) → e ≡ entry_of w (own w r) (cell_of_node t.nodes i d)

-- and these are its children that have members, as bits
abbrev pub HasChildrenAt : TreeData → ℕ → ℕ → Type 0
HasChildrenAt t i bits = (w : Whole) (r : ℕ) → IsTree w.gravity.setup (own w r) t → (d : NodeData) → numbers_in bits ≡ filled (positions_of (own w r)) (cell_of_node t.nodes i d)
