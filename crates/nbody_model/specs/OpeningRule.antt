-- The opening rule: when two nodes act on each other as wholes (GADGET's geometric criterion, with this project's
-- own test in whole numbers).
use Rattle.std.specs.Prelude.{ℕ, ◌+◌, ◌*◌, unsigned_abs, Bool, nat_lt, if◌then◌else◌}
use Rattle.fixed_point.specs.declared.V3.{V3}
use Rattle.fixed_point.specs.Fixed.{wrapped}
use Rattle.cell_space.specs.Cells.{Position, width_of}
use Rattle.nbody_model.specs.Setups.{SetupData}
use Rattle.nbody_model.specs.Moments.{MomentsData}

-- the wrapped way from one position to another: on each axis the shorter way round the box
abbrev pub way : Position → Position → V3
way p q = record { x = wrapped p.x q.x; y = wrapped p.y q.y; z = wrapped p.z q.z }

-- the square of a length
abbrev pub square : V3 → ℕ
square d = unsigned_abs d.x * unsigned_abs d.x + unsigned_abs d.y * unsigned_abs d.y + unsigned_abs d.z * unsigned_abs d.z

-- the side of a node in length units: a leaf counts as a point
abbrev pub side : MomentsData → ℕ
side m = if m.leaf then 0 else width_of m.cell.level

-- the sides together, seen over the way between the centres, are less than the opening angle of theta / 256
unfoldable pub accept : SetupData → MomentsData → MomentsData → Bool
accept s A B =
    let sides = side A + side B in
    nat_lt (sides * sides * 65536) (s.theta * s.theta * square (way A.centre B.centre))
