-- The tree of nodes as one list, each level in the order of the curve, and the bodies in that order.
use Rattle.std.specs.Prelude.{◌≡◌, ◌≤◌, ◌<◌, ℕ, ◌+◌, ◌^◌, Bool, true, false, not, Option, MatchOption, ◌&&◌, nat_lt, if◌then◌else◌, ⊤, List, [], ◌∷◌, ◌++◌, length, map, filter, take, slice_index_or}
use Rattle.std.specs.List.{list_any, flat_map, count_by, AllByRecursion}
use Rattle.std.specs.List.Sorted.{IsPermutation}
use Rattle.cell_space.specs.Cells.{Position, CellData, root_cell, cell_at, corner, contains, below}
use Rattle.hilbert_keys.specs.Curve.{key, first_key, keys_in, children_along}
use Rattle.nbody_model.specs.Bodies.{BodyData}
use Rattle.nbody_model.specs.Setups.{SetupData, AreSoftenings}
use Rattle.nbody_model.specs.Nodes.{positions_of, is_node, is_leaf}
use Rattle.nbody_model.specs.Moments.{MomentsData, moments}
use Rattle.model_laws.specs.Laws.{AreBodies}

-- ---- the cells of the tree

-- the children of a cell that have members, in the order of the curve; a leaf isn't opened
unfoldable pub opened : List Position → CellData → List CellData
opened ps c = let some = filter (is_node ps) (children_along c) in if is_leaf ps c then [] else some

-- the root, where there is a body
abbrev pub top : List Position → List CellData
top ps = filter (is_node ps) (root_cell ∷ [])

-- the list begins with the root, and then come the children of each of its cells, in the order of the list
pub record IsGrown (ps : List Position) (cells : List CellData) : Type 0 where
  pub grown : cells ≡ top ps ++ flat_map (opened ps) cells

-- where the children of the cell at a place begin
abbrev pub first_child : List Position → List CellData → ℕ → ℕ
first_child ps cells i = length (top ps ++ flat_map (opened ps) (take i cells))

-- one of the cells above a cell is a leaf
unfoldable pub inside_leaf : List Position → CellData → Bool
inside_leaf ps c = list_any (λ l. is_leaf ps (cell_at l (corner c))) (below c.level)

-- a cell with a member that isn't strictly inside a leaf
abbrev pub is_tree_node : List Position → CellData → Bool
is_tree_node ps c = is_node ps c && not (inside_leaf ps c)

-- ---- the bodies in the order of the curve

abbrev pub key_at : BodyData → ℕ
key_at b = key b.motion.pos

-- a number doesn't fall along a list
abbrev pub Rises : {X : Type 0} → (X → ℕ) → List X → Type 0
Rises f [] = ⊤
Rises f (x ∷ xs) = AllByRecursion (λ y. f x ≤ f y) xs × Rises f xs

-- a body comes before another along the curve, or of one key by its id
pub record IsBefore (a b : BodyData) : Type 0 where
  pub key : key_at a ≤ key_at b
  pub id : key_at a ≡ key_at b → a.id ≤ b.id

-- bodies by key, and by id where keys are equal
abbrev pub AreOrdered : List BodyData → Type 0
AreOrdered [] = ⊤
AreOrdered (b ∷ bs) = AllByRecursion (IsBefore b) bs × AreOrdered bs

-- the bodies of a list in the order of the curve
pub record IsAlong (B S : List BodyData) : Type 0 where
  pub permuted : IsPermutation B S
  pub ordered : AreOrdered S

-- bodies that keep the limits, softening lengths in their range, and the bodies in the order of the curve
pub record IsOver (soft : List ℕ) (B S : List BodyData) : Type 0 where
  pub bodies : AreBodies B
  pub kinds : AllByRecursion (λ b. b.kind ≤ 5) B
  pub softenings : AreSoftenings soft
  pub along : IsAlong B S

-- where the members of a cell begin and end among bodies in the order of the curve
abbrev pub low_of : List BodyData → CellData → ℕ
low_of S c = count_by (λ b. nat_lt (key_at b) (first_key c)) S

abbrev pub high_of : List BodyData → CellData → ℕ
high_of S c = count_by (λ b. nat_lt (key_at b) (first_key c + keys_in c.level)) S

-- ---- the tree

-- a node: its moments, the place of its first child and their number, and where its members begin and end
pub record NodeData : Type 0 where
  pub moments : MomentsData
  pub first : ℕ
  pub number : ℕ
  pub low : ℕ
  pub high : ℕ

-- a tree: its bodies in the order of the curve, its nodes, and the softening lengths of the kinds
pub record TreeData : Type 0 where
  pub bodies : List BodyData
  pub nodes : List NodeData
  pub soft : List ℕ

-- the cells of nodes
abbrev pub cells_of : List NodeData → List CellData
cells_of nodes = map (λ n. n.moments.cell) nodes

-- the node of the cell at place i, over the bodies B, of which S is the order along the curve
pub record IsNodeOf (s : SetupData) (B S : List BodyData) (cells : List CellData) (i : ℕ) (n : NodeData) : Type 0 where
  pub cell : (d : CellData) → n.moments.cell ≡ slice_index_or cells i d
  pub moments : n.moments ≡ moments s B n.moments.cell
  pub first : n.first ≡ first_child (positions_of B) cells i
  pub later : i < n.first
  pub number : n.number ≡ length (opened (positions_of B) n.moments.cell)
  pub low : n.low ≡ low_of S n.moments.cell
  pub high : n.high ≡ high_of S n.moments.cell

-- all nodes of a tree
pub record AreNodes (s : SetupData) (B S : List BodyData) (nodes : List NodeData) : Type 0 where
  pub grown : IsGrown (positions_of B) (cells_of nodes)
  pub each : (d : NodeData) (i : ℕ) → i < length nodes → IsNodeOf s B S (cells_of nodes) i (slice_index_or nodes i d)

-- the tree of the bodies B
pub record IsTree (s : SetupData) (B : List BodyData) (t : TreeData) : Type 0 where
  pub over : IsOver s.soft B t.bodies
  pub soft : t.soft ≡ s.soft
  pub nodes : AreNodes s B t.bodies t.nodes

-- the node at a place of a tree is that of a cell
pub record IsPlaceOf (t : TreeData) (c : CellData) (k : ℕ) : Type 0 where
  pub within : k < length t.nodes
  pub there : (d : NodeData) → (slice_index_or t.nodes k d).moments.cell ≡ c

-- the node at a place from `first` on is that of a cell that contains a position; none of them is
pub record IsAround (nodes : List NodeData) (first number : ℕ) (p : Position) (k : ℕ) : Type 0 where
  pub from : first ≤ k
  pub to : k < first + number
  pub inside : (d : NodeData) → contains (slice_index_or nodes k d).moments.cell p ≡ true

abbrev pub NoneAround : List NodeData → ℕ → ℕ → Position → Type 0
NoneAround nodes first number p = (k : ℕ) (d : NodeData) → first ≤ k → k < first + number → contains (slice_index_or nodes k d).moments.cell p ≡ false

-- the tree of some bodies
pub record IsOfBodies (t : TreeData) : Type 0 where
  pub setup : SetupData
  pub whole : List BodyData
  pub tree : IsTree setup whole t

-- where a node's members and children stand lies within the tree
pub record IsWithin (bodies nodes : ℕ) (n : NodeData) : Type 0 where
  pub some : n.low < n.high
  pub members : n.high ≤ bodies
  pub children : n.first + n.number ≤ nodes

pub record AreWithin (t : TreeData) : Type 0 where
  pub few : length t.nodes < 2 ^ 32
  pub each : AllByRecursion (IsWithin (length t.bodies) (length t.nodes)) t.nodes

-- the cell of the node at a place
abbrev pub cell_of_node : List NodeData → ℕ → NodeData → CellData
cell_of_node nodes i d = (slice_index_or nodes i d).moments.cell

-- the child of a node that contains a position, or none
abbrev pub ChildTowards : Option ℕ → List NodeData → NodeData → Position → Type 0
ChildTowards found nodes n p = MatchOption found (NoneAround nodes n.first n.number p) (IsAround nodes n.first n.number p)
