-- The correction of a force for the periodic images, out of a table (GADGET's idea, this project's own numbers).
use Rattle.std.specs.Prelude.{ℕ, ◌+◌, ◌-◌, ◌*◌, ◌/◌, ◌^◌, min, ℤ, pos, neg_ℤ, int_lt, unsigned_abs, nat_lt, List, [], ◌∷◌, if◌then◌else◌}
use Rattle.fixed_point.specs.declared.V3.{V3}
use Rattle.fixed_point.specs.Vectors.{each, sum_of}
use Rattle.cell_space.specs.Cells.{Position}
use Rattle.nbody_model.specs.Scaling.{◌·◌, ◌÷◌}
use Rattle.nbody_model.specs.Tables.{TableData, entry_at}

-- how far apart two points of the grid are, in length units
abbrev pub spacing : TableData → ℕ
spacing t = 2 ^ (31 - t.g)

-- the last point at or before a distance u, except the last point of the axis
abbrev pub step_of : TableData → ℕ → ℕ
step_of t u = min (u / spacing t) (2 ^ t.g - 1)

-- how much the nearer point (far = 0) and the farther one (far = 1) count at a distance u
abbrev pub weight : TableData → ℕ → ℕ → ℕ
weight t u far = let v = u - step_of t u * spacing t in if nat_lt 0 far then v else spacing t - v

-- the eight corners of a cell of the grid
abbrev pub corners : List Position
corners =
    record { x = 0; y = 0; z = 0 } ∷ record { x = 1; y = 0; z = 0 } ∷ record { x = 0; y = 1; z = 0 } ∷ record { x = 1; y = 1; z = 0 } ∷
    record { x = 0; y = 0; z = 1 } ∷ record { x = 1; y = 0; z = 1 } ∷ record { x = 0; y = 1; z = 1 } ∷ record { x = 1; y = 1; z = 1 } ∷ []

-- the trilinear mean of the entries around the distances u, v, w, times the cube of the spacing
unfoldable pub mean : TableData → ℕ → ℕ → ℕ → V3
mean t u v w =
    sum_of (λ c. each (λ e. weight t u c.x * weight t v c.y * weight t w c.z · e) (entry_at t (step_of t u + c.x) (step_of t v + c.y) (step_of t w + c.z))) corners

-- e with the sign of d
abbrev pub signed : ℤ → ℤ → ℤ
signed d e = if int_lt d (pos 0) then neg_ℤ e else e

-- the correction at a wrapped way d: odd in its own axis, even in the others
unfoldable pub correction : TableData → V3 → V3
correction t d =
    let m = mean t (unsigned_abs d.x) (unsigned_abs d.y) (unsigned_abs d.z) in
    let cube = spacing t * spacing t * spacing t in
    record { x = signed d.x (m.x ÷ cube); y = signed d.y (m.y ÷ cube); z = signed d.z (m.z ÷ cube) }
