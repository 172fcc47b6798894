-- The moments of a node: mass, centre, second moments and softening of its members (GADGET's, in whole numbers).
use Rattle.std.specs.Prelude.{ℕ, ◌*◌, ◌/◌, max, ℤ, pos, ◌-ℤ◌, ◌*ℤ◌, Bool, List, map, fold, sum_by, slice_index}
use Rattle.fixed_point.specs.Vectors.{int_sum_by}
use Rattle.cell_space.specs.Cells.{Position, CellData}
use Rattle.nbody_model.specs.Bodies.{BodyData}
use Rattle.nbody_model.specs.Setups.{SetupData}
use Rattle.nbody_model.specs.Nodes.{positions_of, members, is_leaf}

-- a symmetric matrix
pub record Symmetric : Type 0 where
  pub xx : ℤ
  pub yy : ℤ
  pub zz : ℤ
  pub xy : ℤ
  pub xz : ℤ
  pub yz : ℤ

-- a cell, whether it is a leaf, and of its members the mass, the centre in length units, the second moments
-- about the centre, and the greatest softening length
pub record MomentsData : Type 0 where
  pub cell : CellData
  pub leaf : Bool
  pub mass : ℕ
  pub centre : Position
  pub quad : Symmetric
  pub eps : ℕ

abbrev pub mass_of : List BodyData → ℕ
mass_of ms = sum_by (λ b. b.mass) ms

-- the mean position by mass, rounded down on each axis, without wrapping
abbrev pub centre_of : List BodyData → Position
centre_of ms = record {
  x = sum_by (λ b. b.mass * b.motion.pos.x) ms / mass_of ms;
  y = sum_by (λ b. b.mass * b.motion.pos.y) ms / mass_of ms;
  z = sum_by (λ b. b.mass * b.motion.pos.z) ms / mass_of ms;
}

-- the sum of mass times two distances
abbrev pub moment_of : (BodyData → ℤ) → (BodyData → ℤ) → List BodyData → ℤ
moment_of d e ms = int_sum_by (λ b. pos b.mass *ℤ (d b *ℤ e b)) ms

-- the second moments about a position
abbrev pub quad_of : Position → List BodyData → Symmetric
quad_of c ms =
    let dx : BodyData → ℤ = λ b. pos b.motion.pos.x -ℤ pos c.x in
    let dy : BodyData → ℤ = λ b. pos b.motion.pos.y -ℤ pos c.y in
    let dz : BodyData → ℤ = λ b. pos b.motion.pos.z -ℤ pos c.z in
    record {
      xx = moment_of dx dx ms;
      yy = moment_of dy dy ms;
      zz = moment_of dz dz ms;
      xy = moment_of dx dy ms;
      xz = moment_of dx dz ms;
      yz = moment_of dy dz ms;
    }

-- the softening length of a body is that of its kind
abbrev pub soft_of : SetupData → BodyData → ℕ
soft_of s b = slice_index s.soft b.kind

abbrev pub greatest_soft : SetupData → List BodyData → ℕ
greatest_soft s ms = fold max 0 (map (soft_of s) ms)

-- the moments of a cell among the bodies B
unfoldable pub moments : SetupData → List BodyData → CellData → MomentsData
moments s B c =
    let ms = members B c in
    record {
      cell = c;
      leaf = is_leaf (positions_of B) c;
      mass = mass_of ms;
      centre = centre_of ms;
      quad = quad_of (centre_of ms) ms;
      eps = greatest_soft s ms;
    }
