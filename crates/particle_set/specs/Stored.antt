-- Bodies that a file has room for.
use Rattle.std.specs.Prelude.{◌<◌, ◌≤◌, ◌^◌}
use Rattle.cell_space.specs.Cells.{InBox}
use Rattle.nbody_model.specs.Bodies.{BodyData, IsInRange}

-- a kind, a mass, an id, a position and a momentum that a file has room for
pub record IsStorable (b : BodyData) : Type 0 where
  pub kind_low : 1 ≤ b.kind
  pub kind_high : b.kind ≤ 5
  pub heavy : 1 ≤ b.mass
  pub light : b.mass < 2 ^ 32
  pub id : b.id < 2 ^ 64
  pub in_box : InBox b.motion.pos
  pub momentum : IsInRange b.motion.mom
