-- What a walk down the tree looks for.
use Rattle.std.specs.Prelude.{◌≡◌, ◌<◌, ◌==◌, ℕ, Bool, true, not, ◌&&◌, nat_le, List, map, filter}
use Rattle.cell_space.specs.Cells.{CellData, InBox, Position, contains, place}
use Rattle.nbody_model.specs.Bodies.{BodyData}
use Rattle.nbody_model.specs.OpeningRule.{way, square}
use Rattle.neighbour_find.specs.declared.walk.Around.{Around}

-- a body is looked for: its id is another, and it's near enough, by the square of the way
abbrev pub is_found : Around → BodyData → Bool
is_found a b = not (a.id == b.id) && nat_le (square (way (place a.pos) b.motion.pos)) a.square

-- the ids of those bodies that are looked for
abbrev pub found : Around → List BodyData → List ℕ
found a bs = map (λ b. b.id) (filter (is_found a) bs)

-- no position of a cell is near enough
abbrev pub IsFar : Around → CellData → Type 0
IsFar a c = (p : Position) → InBox p → contains c p ≡ true → a.square < square (way (place a.pos) p)
