-- Where a walk stands: what is on its list is still to be done, the rest is in the places.
use Rattle.std.specs.Prelude.{◌≡◌, ◌<◌, ◌≤◌, ◌≢◌, ℕ, ◌+◌, ◌-◌, ◌*◌, ◌^◌, max, Bool, true, false, ◌&&◌, ◌⊎◌, if◌then◌else◌, List, [], ◌∷◌, ◌++◌, ⊤, length, map, sum_by, zero, suc}
use Rattle.std.specs.List.{flat_map, AllByRecursion}
use Rattle.fixed_point.specs.declared.V3.{V3}
use Rattle.fixed_point.specs.Vectors.{sum_of, IsAtMost}
use Rattle.cell_space.specs.Cells.{Position, CellData, AreDisjoint, contains, before}
use Rattle.nbody_model.specs.Nodes.{positions_of}
use Rattle.nbody_model.specs.Covers.{leaf, orient}
use Rattle.model_laws.specs.InOrder.{down_in, gives_in, reached_in, is_visit, is_find}
use Rattle.octree_build.specs.Trees.{NodeData, opened}
use Rattle.dual_walk.specs.Places.{moved}
use Rattle.dual_walk.specs.declared.pairs.Pair.{Pair}
use Rattle.dual_walk.specs.Courses.{Course, opening_by, force_by, taken_by, asked_by, is_asked, cell_in, HasForces}

-- ---- pairs of places of nodes

abbrev pub pair : ℕ → ℕ → Pair
pair a b = record { a = a; b = b }

-- the cells of a pair of places
abbrev pub cells_at : List NodeData → Pair → CellData × CellData
cells_at nodes x = (cell_in nodes x.a, cell_in nodes x.b)

-- the n numbers from f on
abbrev pub range : ℕ → ℕ → List ℕ
range f zero = []
range f (suc n) = f ∷ range (suc f) n

-- each number of one list with each of another
abbrev pub cross : List ℕ → List ℕ → List Pair
cross ds es = flat_map (λ d. map (pair d) es) ds

-- each unordered pair of numbers of a list, equal ones included
abbrev pub self_pairs : List ℕ → List Pair
self_pairs [] = []
self_pairs (d ∷ ds) = map (pair d) (d ∷ ds) ++ self_pairs ds

-- the greater level of a pair
abbrev pub depth_of : CellData × CellData → ℕ
depth_of x = max x.0.level x.1.level

-- ---- what is reached

-- the pairs that are reached from a pair on, that pair among them
unfoldable pub reached_below : Course → CellData × CellData → List (CellData × CellData)
reached_below w x = reached_in (opening_by w) (opened (positions_of w.bodies)) (32 - depth_of x) x

-- over the pairs reached from each of a list on, the sum of a weight
unfoldable pub below_sum : Course → (CellData × CellData → ℕ) → List (CellData × CellData) → ℕ
below_sum w weight xs = sum_by (λ x. sum_by weight (reached_below w x)) xs

-- a reached pair of different cells is taken: it is final, and its cell of smaller corner is mine
abbrev pub is_taken : Course → CellData × CellData → Bool
is_taken w x = is_find (opening_by w) x && w.mine (orient x).0

-- the weight of a reached pair that is taken, the cell of smaller corner first
abbrev pub taken_weight : Course → (CellData × CellData → ℕ) → CellData × CellData → ℕ
taken_weight w weight x = if is_taken w x then weight (orient x) else 0

-- over the pairs reached from each of a list of places on, the sum of that weight
abbrev pub sum_to_take : Course → List NodeData → (CellData × CellData → ℕ) → List Pair → ℕ
sum_to_take w nodes weight list = below_sum w (taken_weight w weight) (map (cells_at nodes) list)

-- 1 for a reached pair about which the law is asked
abbrev pub asked_weight : Course → CellData × CellData → ℕ
asked_weight w x = if is_visit x && is_asked w x then 1 else 0

-- ---- the work list

-- the node at place d is that at place i, if it is a leaf, or else a child of it
pub record IsBelow (w : Course) (nodes : List NodeData) (i d : ℕ) : Type 0 where
  pub there : d < length nodes
  pub inside : (p : Position) → contains (cell_in nodes d) p ≡ true → contains (cell_in nodes i) p ≡ true
  pub stays : leaf (opening_by w) (cell_in nodes i) ≡ true → d ≡ i
  pub deeper : leaf (opening_by w) (cell_in nodes i) ≡ false → (cell_in nodes d).level ≡ (cell_in nodes i).level + 1

-- the nodes from place `first` on, so many of them, are that at place i, if it is a leaf, or else its children
pub record IsDown (w : Course) (nodes : List NodeData) (i first number : ℕ) : Type 0 where
  pub within : first + number ≤ length nodes
  pub few : number ≤ 8
  pub cells : map (cell_in nodes) (range first number) ≡ down_in (opening_by w) (opened (positions_of w.bodies)) (cell_in nodes i)
  pub each : (d : ℕ) → first ≤ d → d < first + number → IsBelow w nodes i d
  pub apart : (d e : ℕ) → first ≤ d → d < e → e < first + number → AreDisjoint (cell_in nodes d) (cell_in nodes e)

-- a pair on the list: two places of nodes, one and the same or apart; whichever is no leaf has the greater level
pub record IsListed (w : Course) (nodes : List NodeData) (x : Pair) : Type 0 where
  pub first : x.a < length nodes
  pub second : x.b < length nodes
  pub apart : (x.a ≡ x.b) ⊎ AreDisjoint (cell_in nodes x.a) (cell_in nodes x.b)
  pub left : (leaf (opening_by w) (cell_in nodes x.a) ≡ true) ⊎ ((cell_in nodes x.a).level ≡ depth_of (cells_at nodes x))
  pub right : (leaf (opening_by w) (cell_in nodes x.b) ≡ true) ⊎ ((cell_in nodes x.b).level ≡ depth_of (cells_at nodes x))

-- two nodes with nothing in common, not the one of greater corner first
pub record IsInOrder (nodes : List NodeData) (x : Pair) : Type 0 where
  pub first : x.a < length nodes
  pub second : x.b < length nodes
  pub apart : AreDisjoint (cell_in nodes x.a) (cell_in nodes x.b)
  pub turned : before (cell_in nodes x.b) (cell_in nodes x.a) ≡ false

-- a pair puts these pairs on the list: one level deeper, at most 64, and none if it is final
pub record Opens (w : Course) (nodes : List NodeData) (x : Pair) (ys : List Pair) : Type 0 where
  pub cells : map (cells_at nodes) ys ≡ gives_in (opening_by w) (opened (positions_of w.bodies)) (cells_at nodes x)
  pub listed : AllByRecursion (IsListed w nodes) ys
  pub deeper : AllByRecursion (λ y. depth_of (cells_at nodes y) ≡ depth_of (cells_at nodes x) + 1) ys
  pub few : length ys ≤ 64
  pub shallow : (ys ≡ []) ⊎ (depth_of (cells_at nodes x) < 32)

-- these pairs were put on the list
pub record Pushes (w : Course) (nodes : List NodeData) (x : Pair) (old new : List Pair) : Type 0 where
  pub more : List Pair
  pub opens : Opens w nodes x more
  pub list : new ≡ old ++ more

-- from place n of the list on, no pair stands further than 64 times its greater level
abbrev pub IsStacked : List NodeData → ℕ → List Pair → Type 0
IsStacked nodes n [] = ⊤
IsStacked nodes n (x ∷ xs) = (n ≤ 64 * depth_of (cells_at nodes x)) × IsStacked nodes (n + 1) xs

-- a pair is taken: its force was added to the place of its cell of smaller corner, and taken from the other's
pub record Takes (w : Course) (nodes : List NodeData) (x : Pair) (old new : List V3) (count : ℕ) : Type 0 where
  pub is : is_taken w (cells_at nodes x) ≡ true
  pub turned : Pair
  pub cells : cells_at nodes turned ≡ orient (cells_at nodes x)
  pub first : turned.a < length nodes
  pub second : turned.b < length nodes
  pub differ : turned.a ≢ turned.b
  pub small : IsAtMost (2 ^ 87 - 1) (force_by w (cells_at nodes turned))
  pub moved : new ≡ moved old turned.a turned.b (force_by w (cells_at nodes turned))
  pub counted : count ≡ 1

-- a pair isn't taken
pub record TakesNone (w : Course) (nodes : List NodeData) (x : Pair) (old new : List V3) (count : ℕ) : Type 0 where
  pub is : is_taken w (cells_at nodes x) ≡ false
  pub same : new ≡ old
  pub counted : count ≡ 0

-- what a walk does at a pair
pub record Looks (w : Course) (nodes : List NodeData) (x : Pair) (old_list new_list : List Pair) (old new : List V3) (count : ℕ) : Type 0 where
  pub pushes : Pushes w nodes x old_list new_list
  pub taken : Takes w nodes x old new count ⊎ TakesNone w nodes x old new count

-- where a walk stands
pub record IsAt (w : Course) (nodes : List NodeData) (list : List Pair) (start places : List V3) (accepts asked : ℕ) (count : ℕ) : Type 0 where
  pub listed : AllByRecursion (IsListed w nodes) list
  pub stacked : IsStacked nodes 0 list
  pub taken : List (CellData × CellData)
  pub worked : (weight : CellData × CellData → ℕ) → sum_by weight taken + sum_to_take w nodes weight list ≡ sum_by weight (taken_by w)
  pub looked : asked + below_sum w (asked_weight w) (map (cells_at nodes) list) ≡ accepts + length (asked_by w)
  pub counted : count ≡ length taken
  pub kept : sum_of (λ v. v) places ≡ sum_of (λ v. v) start
  pub forces : HasForces w nodes taken start places
  pub small : AllByRecursion (λ x. IsAtMost (2 ^ 87 - 1) (force_by w x)) taken

-- what is left to do
abbrev pub work_left : Course → List NodeData → List Pair → ℕ
work_left w nodes list = below_sum w (λ x. 1) (map (cells_at nodes) list)
