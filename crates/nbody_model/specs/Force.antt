-- The force on each body: a node's total, shared among its members by largest remainders (this project's own).
use Rattle.std.specs.Prelude.{ℕ, ◌+◌, ◌-◌, ◌*◌, ◌/◌, ◌%◌, ℤ, pos, ◌+ℤ◌, ◌*ℤ◌, unsigned_abs, Bool, ◌&&◌, ◌||◌, ◌==◌, nat_lt, List, map, sum_by, count_by, if◌then◌else◌}
use Rattle.std.specs.List.{range_with_len}
use Rattle.std.specs.Int.{int_div_euclid, int_rem_euclid}
use Rattle.fixed_point.specs.declared.V3.{V3}
use Rattle.fixed_point.specs.Vectors.{origin, negative, sum_of}
use Rattle.cell_space.specs.Cells.{Position, CellData, cell_at, same_cell}
use Rattle.nbody_model.specs.Bodies.{BodyData}
use Rattle.nbody_model.specs.Tables.{Gravity}
use Rattle.nbody_model.specs.Nodes.{members}
use Rattle.nbody_model.specs.Moments.{moments, mass_of}
use Rattle.nbody_model.specs.PairForce.{pair}
use Rattle.nbody_model.specs.Covers.{opening_of, interactions}

-- ---- a node's total

-- the force of an interaction on its first cell, the one of smaller corner
unfoldable pub pair_force : Gravity → List BodyData → CellData × CellData → V3
pair_force g B x = pair g (moments g.setup B x.0) (moments g.setup B x.1)

-- what a pair of cells does to a cell, if f is its force on the first: the second gets the negative
unfoldable pub force_on : (CellData × CellData → V3) → CellData → CellData × CellData → V3
force_on f c x = if same_cell c x.0 then f x else (if same_cell c x.1 then negative (f x) else origin)

-- the sum of the forces on a cell over all interactions
unfoldable pub node_total : Gravity → List BodyData → CellData → V3
node_total g B c = sum_of (force_on (pair_force g B) c) (interactions (opening_of g.setup B))

-- ---- the share of a member b in a number s below the mass M, by largest remainders

-- what rounding down leaves of a part, in units of 1 / M
abbrev pub rest_of : ℕ → ℕ → BodyData → ℕ
rest_of s M b = s * b.mass % M

-- a is served before b: by the greater rest, then by the smaller id
abbrev pub is_served_before : ℕ → ℕ → BodyData → BodyData → Bool
is_served_before s M b a = nat_lt (rest_of s M b) (rest_of s M a) || (rest_of s M a == rest_of s M b && nat_lt a.id b.id)

-- what the parts, all rounded down, leave of s
abbrev pub left_of : ℕ → List BodyData → ℕ
left_of s ms = s - sum_by (λ a. s * a.mass / mass_of ms) ms

-- the part of b rounded down, and 1 more where fewer members than are left are served before it
unfoldable pub small_share : ℕ → List BodyData → BodyData → ℕ
small_share s ms b =
    let M = mass_of ms in
    let more = if nat_lt (count_by (is_served_before s M b) ms) (left_of s ms) then 1 else 0 in
    s * b.mass / M + more

-- the share in a whole number N = q · M + s
unfoldable pub share : List BodyData → ℤ → BodyData → ℤ
share ms N b =
    let M = pos (mass_of ms) in
    int_div_euclid N M *ℤ pos b.mass +ℤ pos (small_share (unsigned_abs (int_rem_euclid N M)) ms b)

-- the share on each axis
abbrev pub share_of : List BodyData → V3 → BodyData → V3
share_of ms N b = record { x = share ms N.x b; y = share ms N.y b; z = share ms N.z b }

-- ---- the force

-- the 33 cells around a position, the root first
abbrev pub cells_around : Position → List CellData
cells_around p = map (λ l. cell_at l p) (range_with_len 0 33)

-- the force on a body of B: its shares in the totals of the cells around it
unfoldable pub force_at : Gravity → List BodyData → BodyData → V3
force_at g B b = sum_of (λ c. share_of (members B c) (node_total g B c) b) (cells_around b.motion.pos)

-- the forces on all bodies of B, in their order
unfoldable pub forces : Gravity → List BodyData → List V3
forces g B = map (force_at g B) B
