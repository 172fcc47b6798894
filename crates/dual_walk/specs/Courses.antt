-- What a walk over the nodes of a tree does, for any law of pairs.
use Rattle.std.specs.Prelude.{◌≡◌, ◌<◌, ℕ, Bool, not, ◌&&◌, List, length, filter, slice_index_or}
use Rattle.std.specs.Borrow.{Bor}
use Rattle.std.specs.Fn.{Shared}
use Rattle.fixed_point.specs.declared.V3.{V3}
use Rattle.fixed_point.specs.Vectors.{plus, sum_of}
use Rattle.cell_space.specs.Cells.{CellData, root_cell}
use Rattle.nbody_model.specs.Bodies.{BodyData}
use Rattle.nbody_model.specs.Setups.{SetupData}
use Rattle.nbody_model.specs.Moments.{MomentsData, moments}
use Rattle.nbody_model.specs.Nodes.{positions_of}
use Rattle.nbody_model.specs.Covers.{Opening, leaf, interactions, visited}
use Rattle.nbody_model.specs.Force.{force_on}
use Rattle.octree_build.specs.Trees.{NodeData, cells_of}
use Rattle.pair_law.specs.Laws.{PairLaw, Two, IsLaw, Answers}
use Rattle.dual_walk.specs.Places.{value_at}

-- what a walk goes by: the setup and the bodies of its tree, the answers of its law, and whose interactions it takes
pub record Course : Type 0 where
  pub setup : SetupData
  pub bodies : List BodyData
  pub law : PairLaw
  pub mine : CellData → Bool

-- the moments of a cell
abbrev pub moments_in : Course → CellData → MomentsData
moments_in w c = moments w.setup w.bodies c

-- chains end where both cells are leaves, or where the law accepts them
abbrev pub opening_by : Course → Opening
opening_by w = record { positions = positions_of w.bodies; accept = λ a b. w.law.accept (moments_in w a) (moments_in w b) }

-- the law's force on the first cell of a pair
unfoldable pub force_by : Course → CellData × CellData → V3
force_by w x = w.law.force (moments_in w x.0) (moments_in w x.1)

-- the interactions whose cell of smaller corner is mine
unfoldable pub taken_by : Course → List (CellData × CellData)
taken_by w = filter (λ x. w.mine x.0) (interactions (opening_by w))

-- the visited pairs that aren't two leaves: those about which the law is asked
abbrev pub is_asked : Course → CellData × CellData → Bool
is_asked w x = not (leaf (opening_by w) x.0 && leaf (opening_by w) x.1)

unfoldable pub asked_by : Course → List (CellData × CellData)
asked_by w = filter (is_asked w) (visited (opening_by w))

-- the cell of the node at a place
abbrev pub cell_in : List NodeData → ℕ → CellData
cell_in nodes k = slice_index_or (cells_of nodes) k root_cell

-- each node's place has changed by the forces on it of some interactions, and nothing else
pub record HasForces (w : Course) (nodes : List NodeData) (taken : List (CellData × CellData)) (old new : List V3) : Type 0 where
  pub long : length new ≡ length old
  pub each : (k : ℕ) → k < length old → value_at new k ≡ plus (value_at old k) (sum_of (force_on (force_by w) (cell_in nodes k)) taken)

-- a reference to a cell, as a closure takes it
abbrev pub One : Type 0
One = Bor CellData × Unit {0}

-- a closure may be asked about every cell, and its answers are whose interactions are taken
pub record Tells {M : Type 0} (asks : Shared M One Bool) (mine : M) (w : Course) : Type 0 where
  pub may_ask : (c : Bor CellData) → asks.pre mine (c, tt)
  pub says : (c : Bor CellData) (r : Bool) → asks.post mine (c, tt) r → r ≡ w.mine c.now

-- two closures keep the fact of a law, and answer as a walk goes
pub record Follows {A F : Type 0} (asks : Shared A Two Bool) (pulls : Shared F Two V3) (accept : A) (force : F) (w : Course) : Type 0 where
  pub law : IsLaw asks pulls accept force
  pub answers : Answers asks pulls accept force w.law
