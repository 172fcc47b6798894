-- The pairs of nodes that act on each other (GADGET's symmetric walk, told by pairs of bodies: the definition
-- follows one pair of bodies down, and knows no walk).
use Rattle.std.specs.Prelude.{ℕ, zero, suc, Bool, ◌&&◌, ◌||◌, ◌==◌, List, [], ◌∷◌, map, if◌then◌else◌}
use Rattle.std.specs.List.{list_any, flat_map}
use Rattle.cell_space.specs.Cells.{Position, CellData, root_cell, same_cell, same_place, digit, child, before}
use Rattle.nbody_model.specs.Bodies.{BodyData}
use Rattle.nbody_model.specs.Setups.{SetupData}
use Rattle.nbody_model.specs.Nodes.{positions_of, is_leaf}
use Rattle.nbody_model.specs.Moments.{moments}
use Rattle.nbody_model.specs.OpeningRule.{accept}

-- what chains are taken over: the positions of the bodies, and a test that ends a chain early
pub record Opening : Type 0 where
  pub positions : List Position
  pub accept : CellData → CellData → Bool

-- over the bodies B the opening rule ends it
abbrev pub opening_of : SetupData → List BodyData → Opening
opening_of s B = record { positions = positions_of B; accept = λ a b. accept s (moments s B a) (moments s B b) }

-- a cell whose members are at one place
abbrev pub leaf : Opening → CellData → Bool
leaf o c = is_leaf o.positions c

-- a pair of different cells is final: both are leaves, or it is accepted
abbrev pub final : Opening → CellData → CellData → Bool
final o a b = leaf o a && leaf o b || o.accept a b

-- a leaf stays, any other cell is replaced by its child that contains p
abbrev pub step : Opening → Position → CellData → CellData
step o p c = if leaf o c then c else child c (digit p c.level)

-- ---- the chain of two bodies at p and q: its pairs of different cells, the final pair last

-- from different cells on, for at most n further steps
unfoldable pub chain_apart : Opening → ℕ → Position → Position → CellData → CellData → List (CellData × CellData)
chain_apart o zero p q a b = (a, b) ∷ []
chain_apart o (suc n) p q a b =
    let later = chain_apart o n p q (step o p a) (step o q b) in
    if final o a b then (a, b) ∷ [] else ((a, b) ∷ later)

-- from one cell on that contains both: while the cells are the same, both are replaced by their children
unfoldable pub chain_same : Opening → ℕ → Position → Position → CellData → List (CellData × CellData)
chain_same o zero p q c = []
chain_same o (suc n) p q c =
    let k = digit p c.level in
    let m = digit q c.level in
    let together = chain_same o n p q (child c k) in
    let parted = chain_apart o n p q (child c k) (child c m) in
    if k == m then together else parted

unfoldable pub chain : Opening → Position → Position → List (CellData × CellData)
chain o p q = chain_same o 32 p q root_cell

-- the last of a list, or what stands in for it
abbrev pub last_of : {X : Type 0} → X → List X → X
last_of d [] = d
last_of d (x ∷ xs) = last_of x xs

-- the cover of two bodies: the final pair of their chain
unfoldable pub cover : Opening → Position → Position → CellData × CellData
cover o p q = last_of (root_cell, root_cell) (chain o p q)

-- ---- interactions

-- an unordered pair of cells: the one of smaller corner first
abbrev pub orient : CellData × CellData → CellData × CellData
orient x = if before x.1 x.0 then (x.1, x.0) else x

abbrev pub same_pair : CellData × CellData → CellData × CellData → Bool
same_pair x y = same_cell x.0 y.0 && same_cell x.1 y.1

-- the elements of a list, each once
abbrev pub distinct : {X : Type 0} → (X → X → Bool) → List X → List X
distinct same [] = []
distinct same (x ∷ xs) = let rest = distinct same xs in if list_any (same x) xs then rest else (x ∷ rest)

-- what f lists for each two of the positions that differ, in both orders
abbrev pub of_two : {X : Type 0} → (Position → Position → List X) → Position → Position → List X
of_two f p q = if same_place p q then [] else f p q

abbrev pub over_two : {X : Type 0} → (Position → Position → List X) → List Position → List X
over_two f ps = flat_map (λ p. flat_map (of_two f p) ps) ps

-- the covers of all pairs of bodies at different positions, each once
unfoldable pub interactions : Opening → List (CellData × CellData)
interactions o = distinct same_pair (over_two (λ p q. orient (cover o p q) ∷ []) o.positions)

-- the pairs of different cells on their chains, each once
unfoldable pub visited : Opening → List (CellData × CellData)
visited o = distinct same_pair (over_two (λ p q. map orient (chain o p q)) o.positions)
