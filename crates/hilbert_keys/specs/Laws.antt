-- The laws of the curve.
use Rattle.std.specs.Prelude.{◌≡◌, ◌≤◌, ◌<◌, ℕ, ◌+◌, ◌-◌, ◌*◌, ◌/◌, ◌==◌}
use Rattle.cell_space.specs.Cells.{Position, InBox, CellData, cell_at, contains, same_cell}
use Rattle.hilbert_keys.specs.Curve.{key, keys_in, number_of, turn_of, place_of, child_at, child_along, first_key, last_key, IsCell}

-- two positions share the cell of a level exactly where their keys share their first digits, as many as the level
abbrev pub KeysTellCells : Type 0
KeysTellCells = (p q : Position) → InBox p → InBox q → (l : ℕ) → l ≤ 32 → same_cell (cell_at l p) (cell_at l q) ≡ (key p / keys_in l == key q / keys_in l)

-- a cell contains exactly the positions whose keys begin with its number
abbrev pub CellsAreRanges : Type 0
CellsAreRanges = (c : CellData) → IsCell c → (p : Position) → InBox p → contains c p ≡ (key p / keys_in c.level == number_of c)

-- the child at place w of a cell has the number after 8 times the cell's
abbrev pub ChildrenAreNext : Type 0
ChildrenAreNext = (c : CellData) → IsCell c → c.level < 32 → (w : ℕ) → w < 8 → IsCell (child_along c w) × (number_of (child_along c w) ≡ 8 * number_of c + w)

-- the children in the order of the curve are all children: each stands at one place
pub record IsPlace (c : CellData) (k : ℕ) : Type 0 where
  pub below : place_of (turn_of c) k < 8
  pub back : child_at (turn_of c) (place_of (turn_of c) k) ≡ k

abbrev pub EachChildHasPlace : Type 0
EachChildHasPlace = (c : CellData) → (k : ℕ) → k < 8 → IsPlace c k

-- the keys of the children part those of their cell, in the order of the curve
pub record RangesOfChildren (c : CellData) : Type 0 where
  pub begins : first_key (child_along c 0) ≡ first_key c
  pub goes_on : (w : ℕ) → w < 7 → first_key (child_along c (w + 1)) ≡ last_key (child_along c w) + 1
  pub ends : last_key (child_along c 7) ≡ last_key c

abbrev pub RangesPart : Type 0
RangesPart = (c : CellData) → IsCell c → c.level < 32 → RangesOfChildren c

-- how far apart two numbers are, and two positions on all axes together
abbrev pub apart : ℕ → ℕ → ℕ
apart m n = (m - n) + (n - m)

abbrev pub steps_apart : Position → Position → ℕ
steps_apart p q = apart p.x q.x + apart p.y q.y + apart p.z q.z

-- positions of consecutive keys differ by 1 on one axis, and on no other
abbrev pub NeighboursFollow : Type 0
NeighboursFollow = (p q : Position) → InBox p → InBox q → key q ≡ key p + 1 → steps_apart p q ≡ 1
