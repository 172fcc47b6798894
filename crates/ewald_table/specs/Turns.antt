-- What a correction does where the way is turned to the other side on an axis.
use Rattle.std.specs.Prelude.{◌≡◌, ◌⊎◌, ◌^◌, ℤ, pos, neg_ℤ, unsigned_abs}
use Rattle.fixed_point.specs.declared.V3.{V3}
use Rattle.nbody_model.specs.Tables.{TableData, IsTable}
use Rattle.nbody_model.specs.Correction.{correction}

-- a way with its number on x, on y, or on z turned to the other side
abbrev pub turned_x : V3 → V3
turned_x d = record { x = neg_ℤ d.x; y = d.y; z = d.z }

abbrev pub turned_y : V3 → V3
turned_y d = record { x = d.x; y = neg_ℤ d.y; z = d.z }

abbrev pub turned_z : V3 → V3
turned_z d = record { x = d.x; y = d.y; z = neg_ℤ d.z }

-- a correction is odd in its own axis
pub record IsOdd (t : TableData) (d : V3) : Type 0 where
  pub on_x : (correction t (turned_x d)).x ≡ neg_ℤ (correction t d).x
  pub on_y : (correction t (turned_y d)).y ≡ neg_ℤ (correction t d).y
  pub on_z : (correction t (turned_z d)).z ≡ neg_ℤ (correction t d).z

abbrev pub OddInItsOwnAxis : Type 0
OddInItsOwnAxis = (t : TableData) (d : V3) → IsTable t → IsOdd t d

-- a correction is even in the other two axes
pub record IsEven (t : TableData) (d : V3) : Type 0 where
  pub x_by_y : (correction t (turned_y d)).x ≡ (correction t d).x
  pub x_by_z : (correction t (turned_z d)).x ≡ (correction t d).x
  pub y_by_x : (correction t (turned_x d)).y ≡ (correction t d).y
  pub y_by_z : (correction t (turned_z d)).y ≡ (correction t d).y
  pub z_by_x : (correction t (turned_x d)).z ≡ (correction t d).z
  pub z_by_y : (correction t (turned_y d)).z ≡ (correction t d).z

abbrev pub EvenInTheOtherAxes : Type 0
EvenInTheOtherAxes = (t : TableData) (d : V3) → IsEven t d

-- a number of a way is 0 or half the box
abbrev pub IsHalfWay : ℤ → Type 0
IsHalfWay z = (unsigned_abs z ≡ 0) ⊎ (unsigned_abs z ≡ 2 ^ 31)

-- a correction is 0 on an axis on which the way is 0 or half the box
pub record IsZeroOnEdges (t : TableData) (d : V3) : Type 0 where
  pub on_x : IsHalfWay d.x → (correction t d).x ≡ pos 0
  pub on_y : IsHalfWay d.y → (correction t d).y ≡ pos 0
  pub on_z : IsHalfWay d.z → (correction t d).z ≡ pos 0

abbrev pub ZeroOnTheEdges : Type 0
ZeroOnTheEdges = (t : TableData) (d : V3) → IsTable t → IsZeroOnEdges t d
