-- The nodes around bodies.
use Rattle.std.specs.Prelude.{◌≡◌, ℕ, ◌+◌, ◌*◌, ◌<◌, List, [], ◌∷◌, ◌++◌, length, get_or, filter}
use Rattle.cell_space.specs.Cells.{CellData, cell_at, contains}
use Rattle.nbody_model.specs.Bodies.{BodyData}
use Rattle.nbody_model.specs.Setups.{SetupData}
use Rattle.nbody_model.specs.Moments.{moments}
use Rattle.node_moments.specs.Sums.{RawData, raw_of}
use Rattle.force_field.specs.declared.nodes.Node.{Node}
use Rattle.model_laws.specs.Firsts.{is_first}

-- the node of a level around a body of B
pub record IsNodeAround (s : SetupData) (B : List BodyData) (b : BodyData) (l : ℕ) (n : Node) : Type 0 where
  pub moments_are : n.moments ≡ moments s B (cell_at l b.motion.pos)
  pub first_is : n.first ≡ is_first B (cell_at l b.motion.pos) b

-- the 33 nodes around a body of B, the root first
pub record AreNodesAround (s : SetupData) (B : List BodyData) (b : BodyData) (nodes : List Node) : Type 0 where
  pub all : length nodes ≡ 33
  pub each : (l : ℕ) → l < 33 → (d : Node) → IsNodeAround s B b l (get_or nodes l d)

-- the nodes around each body of B, one body's after another's
pub record AreNodesOf (s : SetupData) (B : List BodyData) (nodes : List Node) : Type 0 where
  pub all : length nodes ≡ 33 * length B
  pub each : (i l : ℕ) → i < length B → l < 33 → (b : BodyData) (d : Node) → IsNodeAround s B (get_or B i b) l (get_or nodes (33 * i + l) d)

-- the sums over members of a cell, and over a body besides if it is in the cell
abbrev pub raw_with : List ℕ → CellData → List BodyData → BodyData → RawData
raw_with soft c ms b = raw_of soft c (ms ++ filter (λ b. contains c b.motion.pos) (b ∷ []))
