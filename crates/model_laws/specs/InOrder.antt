-- A walk over pairs of nodes that takes the children of a cell in an order of its own, as a program does that stores
-- them in one.
use Rattle.std.specs.Prelude.{ℕ, zero, suc, Bool, not, ◌&&◌, List, [], ◌∷◌, filter, if◌then◌else◌, ◌≡◌, false}
use Rattle.std.specs.List.{flat_map}
use Rattle.std.specs.List.Sorted.{IsPermutation}
use Rattle.cell_space.specs.Cells.{CellData, root_cell, same_cell}
use Rattle.nbody_model.specs.Covers.{Opening, leaf, final}
use Rattle.nbody_model.specs.Walks.{kids, over_both, over_pairs}

-- an order of the children of each cell that isn't a leaf
pub record IsOrderOfChildren (o : Opening) (order : CellData → List CellData) : Type 0 where
  pub permuted : (c : CellData) → leaf o c ≡ false → IsPermutation (kids o c) (order c)

-- a leaf stays, any other cell is replaced by its children
abbrev pub down_in : Opening → (CellData → List CellData) → CellData → List CellData
down_in o order c = if leaf o c then c ∷ [] else order c

-- the reached pairs that a reached pair gives
unfoldable pub gives_in : Opening → (CellData → List CellData) → CellData × CellData → List (CellData × CellData)
gives_in o order x =
    let parts = over_pairs (λ d. (d, d) ∷ []) (λ d e. (d, e) ∷ []) (order x.0) in
    let later = over_both (λ d e. (d, e) ∷ []) (down_in o order x.0) (down_in o order x.1) in
    if same_cell x.0 x.1 then (if leaf o x.0 then [] else parts) else (if final o x.0 x.1 then [] else later)

-- the pairs that are reached from a pair, that pair first, over at most n steps
unfoldable pub reached_in : Opening → (CellData → List CellData) → ℕ → CellData × CellData → List (CellData × CellData)
reached_in o order zero x = x ∷ []
reached_in o order (suc n) x = x ∷ flat_map (reached_in o order n) (gives_in o order x)

-- a pair of different cells
abbrev pub is_visit : CellData × CellData → Bool
is_visit x = not (same_cell x.0 x.1)

-- a final pair of different cells
abbrev pub is_find : Opening → CellData × CellData → Bool
is_find o x = is_visit x && final o x.0 x.1

-- the pairs of different cells that such a walk looks at, from the root down
unfoldable pub visits_in : Opening → (CellData → List CellData) → List (CellData × CellData)
visits_in o order = filter is_visit (reached_in o order 32 (root_cell, root_cell))

-- and the final ones among them
unfoldable pub found_in : Opening → (CellData → List CellData) → List (CellData × CellData)
found_in o order = filter (is_find o) (reached_in o order 32 (root_cell, root_cell))
