-- A walk over pairs of nodes, from the root down (GADGET's own way to the interactions): the pairs that it reaches,
-- the pairs of different nodes among them, and those that are final.
use Rattle.std.specs.Prelude.{ℕ, zero, suc, Bool, List, [], ◌∷◌, ◌++◌, map, filter, if◌then◌else◌}
use Rattle.std.specs.List.{flat_map}
use Rattle.cell_space.specs.Cells.{CellData, root_cell, same_cell, child, below}
use Rattle.nbody_model.specs.Nodes.{is_node}
use Rattle.nbody_model.specs.Covers.{Opening, leaf, final}

-- the cell has a member
abbrev pub has_member : Opening → CellData → Bool
has_member o c = is_node o.positions c

-- the children that have members
abbrev pub kids : Opening → CellData → List CellData
kids o c = map (child c) (filter (λ k. has_member o (child c k)) (below 8))

-- a leaf stays, any other cell is replaced by each of its children that have members
abbrev pub down : Opening → CellData → List CellData
down o c = if leaf o c then c ∷ [] else kids o c

-- h of each cell of one list with each of another
abbrev pub over_both : {X : Type 0} → (CellData → CellData → List X) → List CellData → List CellData → List X
over_both h ds es = flat_map (λ d. flat_map (h d) es) ds

-- f of each cell of a list, and h of each unordered pair of two
abbrev pub over_pairs : {X : Type 0} → (CellData → List X) → (CellData → CellData → List X) → List CellData → List X
over_pairs f h [] = []
over_pairs f h (d ∷ ds) = f d ++ (flat_map (h d) ds ++ over_pairs f h ds)

-- ---- the pairs of different cells that a walk looks at

-- from different cells on, for at most n further steps
unfoldable pub visits_apart : Opening → ℕ → CellData → CellData → List (CellData × CellData)
visits_apart o zero a b = (a, b) ∷ []
visits_apart o (suc n) a b =
    let later = over_both (visits_apart o n) (down o a) (down o b) in
    if final o a b then (a, b) ∷ [] else ((a, b) ∷ later)

-- from a cell and itself on
unfoldable pub visits_same : Opening → ℕ → CellData → List (CellData × CellData)
visits_same o zero c = []
visits_same o (suc n) c =
    let later = over_pairs (visits_same o n) (visits_apart o n) (kids o c) in
    if leaf o c then [] else later

unfoldable pub visits : Opening → List (CellData × CellData)
visits o = visits_same o 32 root_cell

-- the final ones: what a walk finds
unfoldable pub found : Opening → List (CellData × CellData)
found o = filter (λ x. final o x.0 x.1) (visits o)

-- ---- the pairs that are reached, pairs of a node and itself among them

-- the reached pairs that a reached pair gives: a node that is no leaf gives the unordered pairs of its children,
-- equal ones included; a pair of different nodes that isn't final gives those of what stands below both
unfoldable pub gives : Opening → CellData × CellData → List (CellData × CellData)
gives o x =
    let parts = over_pairs (λ d. (d, d) ∷ []) (λ d e. (d, e) ∷ []) (kids o x.0) in
    let later = over_both (λ d e. (d, e) ∷ []) (down o x.0) (down o x.1) in
    if same_cell x.0 x.1 then (if leaf o x.0 then [] else parts) else (if final o x.0 x.1 then [] else later)

-- the pairs that are reached from a pair, that pair first, over at most n steps
unfoldable pub reached_from : Opening → ℕ → CellData × CellData → List (CellData × CellData)
reached_from o zero x = x ∷ []
reached_from o (suc n) x = x ∷ flat_map (reached_from o n) (gives o x)

-- the reached pairs, from (root, root) on
unfoldable pub reached : Opening → List (CellData × CellData)
reached o = reached_from o 32 (root_cell, root_cell)
