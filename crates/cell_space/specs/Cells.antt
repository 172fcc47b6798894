-- Cells: a level, and the upper bits of three coordinates.
use Rattle.std.specs.Prelude.{◌≡◌, ◌≤◌, ◌<◌, slice_index, true, ℕ, ◌+◌, ◌-◌, ◌*◌, ◌/◌, ◌%◌, ◌^◌, Bool, not, ◌&&◌, ◌||◌, ◌==◌, nat_lt, List, [], ◌∷◌}
use Rattle.std.proofs.Common.{zero, suc}

-- a position in the box, in length units
pub record Position : Type 0 where
  pub x : ℕ
  pub y : ℕ
  pub z : ℕ

-- the position of three coordinates
abbrev pub place : List ℕ → Position
place xs = record { x = slice_index xs 0; y = slice_index xs 1; z = slice_index xs 2 }

-- a position of the box: each coordinate has 32 bits
pub record InBox (p : Position) : Type 0 where
  pub below_x : p.x < 2 ^ 32
  pub below_y : p.y < 2 ^ 32
  pub below_z : p.z < 2 ^ 32

-- a cell: the upper `level` bits of the coordinates in it
pub record CellData : Type 0 where
  pub level : ℕ
  pub x : ℕ
  pub y : ℕ
  pub z : ℕ

-- how wide the cells of a level are, in length units
abbrev pub width_of : ℕ → ℕ
width_of level = 2 ^ (32 - level)

-- a corner of three numbers whose lower bits are zero
pub record IsCorner (level : ℕ) (corner : List ℕ) : Type 0 where
  pub shallow : level ≤ 32
  pub three : corner ≡ slice_index corner 0 ∷ slice_index corner 1 ∷ slice_index corner 2 ∷ []
  pub whole_x : slice_index corner 0 / width_of level * width_of level ≡ slice_index corner 0
  pub whole_y : slice_index corner 1 / width_of level * width_of level ≡ slice_index corner 1
  pub whole_z : slice_index corner 2 / width_of level * width_of level ≡ slice_index corner 2

-- the cell of a level that contains a position
abbrev pub cell_at : ℕ → Position → CellData
cell_at l p = let width = width_of l in record { level = l; x = p.x / width; y = p.y / width; z = p.z / width }

-- the whole box
abbrev pub root_cell : CellData
root_cell = record { level = 0; x = 0; y = 0; z = 0 }

-- two cells are one
abbrev pub same_cell : CellData → CellData → Bool
same_cell a b = a.level == b.level && (a.x == b.x && (a.y == b.y && a.z == b.z))

-- two positions are one
abbrev pub same_place : Position → Position → Bool
same_place p q = p.x == q.x && (p.y == q.y && p.z == q.z)

-- a position lies in a cell
abbrev pub contains : CellData → Position → Bool
contains c p = same_cell (cell_at c.level p) c

-- the bit of a coordinate that chooses the child of a cell of level l
abbrev pub bit_of : ℕ → ℕ → ℕ
bit_of n l = n / 2 ^ (31 - l) % 2

-- which child of its cell of level l contains a position: 4 · z + 2 · y + x of the next bits
unfoldable pub digit : Position → ℕ → ℕ
digit p l = 4 * bit_of p.z l + (2 * bit_of p.y l + bit_of p.x l)

-- the child of a cell with a number below 8
abbrev pub child : CellData → ℕ → CellData
child c k = record { level = c.level + 1; x = 2 * c.x + k % 2; y = 2 * c.y + k / 2 % 2; z = 2 * c.z + k / 4 % 2 }

-- the least position of a cell
abbrev pub corner : CellData → Position
corner c = let width = width_of c.level in record { x = c.x * width; y = c.y * width; z = c.z * width }

-- the order by two numbers, and by something else where they are one
abbrev pub less_or : ℕ → ℕ → Bool → Bool
less_or m n other = nat_lt m n || (m == n && other)

-- the order of all cells: by the corner's x, y and z, and then by the level
abbrev pub before : CellData → CellData → Bool
before a b = let p = corner a in let q = corner b in less_or p.x q.x (less_or p.y q.y (less_or p.z q.z (nat_lt a.level b.level)))

-- two cells have nothing in common: neither contains the corner of the other
abbrev pub disjoint : CellData → CellData → Bool
disjoint a b = not (contains a (corner b)) && not (contains b (corner a))

-- no position lies in both cells
pub record AreDisjoint (a b : CellData) : Type 0 where
  pub apart : (p : Position) → contains a p ≡ true → contains b p ≡ true → ⊥

-- whatever lies in the first cell lies in the second
pub record IsWithin (a b : CellData) : Type 0 where
  pub within : (p : Position) → contains a p ≡ true → contains b p ≡ true

-- the numbers below n, the greatest first
abbrev pub below : ℕ → List ℕ
below zero = []
below (suc n) = n ∷ below n
