-- What sharing works in.
use Rattle.std.specs.Prelude.{◌≡◌, ℕ, ◌≤◌, List, length, map, take, count_by}
use Rattle.cell_space.specs.Cells.{CellData, contains}
use Rattle.nbody_model.specs.Bodies.{BodyData}
use Rattle.nbody_model.specs.Nodes.{members}
use Rattle.force_field.specs.declared.shares.Workspace.{Workspace}

-- there is room for so many members
pub record HasRoom (n : ℕ) (w : Workspace) : Type 0 where
  pub room : n ≤ w.scratch

-- the members of a cell are found, with room for them, and where the body at the place i stands among them
pub record IsReady (B : List BodyData) (c : CellData) (i place : ℕ) (w : Workspace) : Type 0 where
  pub members_are : w.members.items ≡ map (λ b. (b.id, b.mass)) (members B c)
  pub place_is : place ≡ count_by (λ b. contains c b.motion.pos) (take i B)
  pub room : length B ≤ w.scratch
