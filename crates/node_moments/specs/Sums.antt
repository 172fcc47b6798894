-- Sums over the members of a cell, from its corner.
use Rattle.std.specs.Prelude.{ℕ, ◌-◌, ◌*◌, ◌^◌, ◌≤◌, min, max, List, [], ◌∷◌, length, map, fold, sum_by, slice_index}
use Rattle.cell_space.specs.Cells.{CellData, corner}
use Rattle.nbody_model.specs.Bodies.{BodyData}
use Rattle.nbody_model.specs.Moments.{mass_of}

-- what is known of the members of a cell: how many there are, their mass, the sums of mass times distance and of mass
-- times two distances from the cell's corner (the axes x, y, z; the pairs xx, yy, zz, xy, xz, yz), their least and
-- greatest coordinates, and their greatest softening length
pub record RawData : Type 0 where
  pub cell : CellData
  pub count : ℕ
  pub mass : ℕ
  pub mx : List ℕ
  pub mxx : List ℕ
  pub lo : List ℕ
  pub hi : List ℕ
  pub eps : ℕ

-- a coordinate, and how far it is from a cell's corner
abbrev pub at_x : BodyData → ℕ
at_x b = b.motion.pos.x

abbrev pub at_y : BodyData → ℕ
at_y b = b.motion.pos.y

abbrev pub at_z : BodyData → ℕ
at_z b = b.motion.pos.z

abbrev pub from_x : CellData → BodyData → ℕ
from_x c b = b.motion.pos.x - (corner c).x

abbrev pub from_y : CellData → BodyData → ℕ
from_y c b = b.motion.pos.y - (corner c).y

abbrev pub from_z : CellData → BodyData → ℕ
from_z c b = b.motion.pos.z - (corner c).z

-- the sum of mass times distance, and of mass times two distances
abbrev pub first : (BodyData → ℕ) → List BodyData → ℕ
first d ms = sum_by (λ b. b.mass * d b) ms

abbrev pub second : (BodyData → ℕ) → (BodyData → ℕ) → List BodyData → ℕ
second d e ms = sum_by (λ b. b.mass * (d b * e b)) ms

-- the least and the greatest, of numbers of 32 bits
abbrev pub least : (BodyData → ℕ) → List BodyData → ℕ
least f ms = fold min 4294967295 (map f ms)

abbrev pub greatest : (BodyData → ℕ) → List BodyData → ℕ
greatest f ms = fold max 0 (map f ms)

-- the sums over bodies in a cell, where the kinds have these softening lengths
unfoldable pub raw_of : List ℕ → CellData → List BodyData → RawData
raw_of soft c ms = record {
  cell = c;
  count = length ms;
  mass = mass_of ms;
  mx = first (from_x c) ms ∷ first (from_y c) ms ∷ first (from_z c) ms ∷ [];
  mxx = second (from_x c) (from_x c) ms ∷ second (from_y c) (from_y c) ms ∷ second (from_z c) (from_z c) ms ∷ second (from_x c) (from_y c) ms ∷ second (from_x c) (from_z c) ms ∷ second (from_y c) (from_z c) ms ∷ [];
  lo = least at_x ms ∷ least at_y ms ∷ least at_z ms ∷ [];
  hi = greatest at_x ms ∷ greatest at_y ms ∷ greatest at_z ms ∷ [];
  eps = greatest (λ b. slice_index soft b.kind) ms;
}

-- sums that members may have: few enough and light enough, and no distance is above 2^32
pub record IsRaw (count mass : ℕ) (mx mxx : List ℕ) : Type 0 where
  pub few : count ≤ 1048576
  pub light : mass ≤ 2 ^ 32
  pub first_x : slice_index mx 0 ≤ mass * 2 ^ 32
  pub first_y : slice_index mx 1 ≤ mass * 2 ^ 32
  pub first_z : slice_index mx 2 ≤ mass * 2 ^ 32
  pub second_xx : slice_index mxx 0 ≤ mass * 2 ^ 64
  pub second_yy : slice_index mxx 1 ≤ mass * 2 ^ 64
  pub second_zz : slice_index mxx 2 ≤ mass * 2 ^ 64
  pub second_xy : slice_index mxx 3 ≤ mass * 2 ^ 64
  pub second_xz : slice_index mxx 4 ≤ mass * 2 ^ 64
  pub second_yz : slice_index mxx 5 ≤ mass * 2 ^ 64
