-- What ranks find forces over, the rules of their machine, and what each rank counts.
use Rattle.std.specs.Prelude.{◌≡◌, ◌≤◌, ◌<◌, ℕ, ◌+◌, ◌-◌, ◌==◌, Bool, true, false, ⊤, ◌&&◌, ◌||◌, nat_lt, List, [], ◌∷◌, length, map, filter, if◌then◌else◌}
use Rattle.std.specs.List.{flat_map, AllByRecursion, range_with_len}
use Rattle.cell_space.specs.Cells.{Position, CellData, InBox, root_cell, same_cell, child, contains, before}
use Rattle.nbody_model.specs.Bodies.{BodyData}
use Rattle.nbody_model.specs.Tables.{Gravity}
use Rattle.nbody_model.specs.Covers.{Opening, opening_of, orient, distinct}
use Rattle.nbody_model.specs.Walks.{gives}
use Rattle.model_laws.specs.InOrder.{is_find}
use Rattle.model_laws.specs.Laws.{AreBodies}
use Rattle.rank_laws.specs.Homes.{Keys, home, concerned, counts}
use Rattle.rank_laws.specs.Trees.{all_from}
use Rattle.rank_laws.specs.Machine.{Pair, Rules}

-- the bodies, the owner of each by its id, the keys of cells with the bounds of the ranks, and what a force depends on
-- besides
pub record Whole : Type 0 where
  pub bodies : List BodyData
  pub owner : ℕ → ℕ
  pub keys : Keys CellData
  pub gravity : Gravity

-- keys of cells: there is a rank; no last key is below the first; the keys of a child lie within those of its parent, where
-- it has a position of the box
pub record AreKeys (keys : Keys CellData) : Type 0 where
  pub some : 0 < length keys.bounds
  pub ranged : (c : CellData) → keys.first c ≤ keys.last c
  pub low : (c : CellData) (k : ℕ) (p : Position) → c.level < 32 → k < 8 → InBox p → contains (child c k) p ≡ true → keys.first c ≤ keys.first (child c k)
  pub high : (c : CellData) (k : ℕ) (p : Position) → c.level < 32 → k < 8 → InBox p → contains (child c k) p ≡ true → keys.last (child c k) ≤ keys.last c

abbrev pub ranks_of : Whole → ℕ
ranks_of w = length w.keys.bounds

-- all ranks, ascending
abbrev pub ranks : Whole → List ℕ
ranks w = range_with_len 0 (ranks_of w)

-- what forces may be found over: the bodies keep the limits, and each owner is a rank; nothing is asked of the bounds
pub record IsWhole (w : Whole) : Type 0 where
  pub bodies : AreBodies w.bodies
  pub keys : AreKeys w.keys
  pub owned : (id : ℕ) → w.owner id < ranks_of w

abbrev pub opening : Whole → Opening
opening w = opening_of w.gravity.setup w.bodies

-- the bodies of a rank
abbrev pub own : Whole → ℕ → List BodyData
own w q = filter (λ b. w.owner b.id == q) w.bodies

-- ---- the order of cells

-- a cell goes before another: by level, and then by first key
abbrev pub goes_first : Keys CellData → CellData → CellData → Bool
goes_first keys c d = nat_lt c.level d.level || (c.level == d.level && nat_lt (keys.first c) (keys.first d))

abbrev pub put_in : Keys CellData → CellData → List CellData → List CellData
put_in keys c [] = c ∷ []
put_in keys c (d ∷ ds) = if goes_first keys d c then d ∷ put_in keys c ds else (c ∷ d ∷ ds)

abbrev pub sorted : Keys CellData → List CellData → List CellData
sorted keys [] = []
sorted keys (c ∷ cs) = put_in keys c (sorted keys cs)

-- the cells of a list, each once, ascending by level and then by first key
unfoldable pub in_order : Keys CellData → List CellData → List CellData
in_order keys cs = sorted keys (distinct same_cell cs)

-- no cell of a list goes before one in front of it
abbrev pub IsInOrder : Keys CellData → List CellData → Type 0
IsInOrder keys [] = ⊤
IsInOrder keys (c ∷ cs) = AllByRecursion (λ d. goes_first keys d c ≡ false) cs × IsInOrder keys cs

-- ---- the rules of the machine

-- how many levels lie below both cells
abbrev pub depth_of : Pair → ℕ
depth_of x = (32 - x.0.level) + (32 - x.1.level)

-- the reached pairs that a pair gives and with which a rank is concerned
abbrev pub next_of : Whole → ℕ → Pair → List Pair
next_of w r x = filter (concerned w.keys r) (gives (opening w) x)

-- a rank begins with the pair of the root and itself, if it is concerned with it
abbrev pub root_pair : Pair
root_pair = (root_cell, root_cell)

abbrev pub start_of : Whole → ℕ → List Pair
start_of w r = if concerned w.keys r root_pair then root_pair ∷ [] else []

abbrev pub rules_of : Whole → Rules
rules_of w = record { ranks = ranks_of w; depth = depth_of; start = start_of w; next = next_of w; home = home w.keys; in_order = in_order w.keys }

-- ---- what a rank counts

-- a rank counts a reached pair: it is a final pair of different cells, and its cell of smaller corner has this home
abbrev pub is_counted : Whole → ℕ → Pair → Bool
is_counted w r x = is_find (opening w) x && counts w.keys before r x

-- those of some pairs, the cell of smaller corner first
abbrev pub counted_in : Whole → ℕ → List Pair → List Pair
counted_in w r xs = map orient (filter (is_counted w r) xs)

-- the interactions that a rank counts, of all pairs that its walk reaches
unfoldable pub counted : Whole → ℕ → List Pair
counted w r = counted_in w r (flat_map (all_from depth_of (next_of w r)) (start_of w r))
