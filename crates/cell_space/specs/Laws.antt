-- The laws of cells.
use Rattle.std.specs.Prelude.{◌≡◌, ◌≤◌, ◌<◌, ℕ, ◌==◌, Bool, if◌then◌else◌, true, false}
use Rattle.std.specs.List.{count_by}
use Rattle.std.proofs.Common.{◌⊎◌}
use Rattle.cell_space.specs.Cells.{Position, InBox, CellData, contains, child, digit, below, root_cell, before, AreDisjoint, IsWithin, same_place}

-- of the eight children of a cell exactly one contains a position of the cell, and none any other position
abbrev pub ChildrenPart : Type 0
ChildrenPart = (c : CellData) → c.level < 32 → (p : Position) → count_by (λ k. contains (child c k) p) (below 8) ≡ (if contains c p then 1 else 0)

-- the child that contains a position of the cell is the one that the position's next bits number
abbrev pub DigitNames : Type 0
DigitNames = (c : CellData) → c.level < 32 → (p : Position) (k : ℕ) → k < 8 → contains c p ≡ true → contains (child c k) p ≡ (k == digit p c.level)

-- two cells are disjoint, or one lies in the other
abbrev pub DisjointOrNested : Type 0
DisjointOrNested = (a b : CellData) → a.level ≤ 32 → b.level ≤ 32 → AreDisjoint a b ⊎ (IsWithin a b ⊎ IsWithin b a)

-- the root contains each position of the box
abbrev pub RootIsAll : Type 0
RootIsAll = (p : Position) → InBox p → contains root_cell p ≡ true

-- a cell of level 32 contains one position
abbrev pub DeepestIsOne : Type 0
DeepestIsOne = (c : CellData) → c.level ≡ 32 → (p q : Position) → contains c p ≡ true → contains c q ≡ true → same_place p q ≡ true

-- a strict order in which of two different cells one comes first
pub record IsOrder (earlier : CellData → CellData → Bool) : Type 0 where
  pub never : (a : CellData) → earlier a a ≡ false
  pub handed_on : (a b c : CellData) → earlier a b ≡ true → earlier b c ≡ true → earlier a c ≡ true
  pub total : (a b : CellData) → earlier a b ≡ false → earlier b a ≡ false → a ≡ b

-- the order of the cells is strict and total
abbrev pub BeforeIsOrder : Type 0
BeforeIsOrder = IsOrder before
