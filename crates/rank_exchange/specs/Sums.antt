-- Sums of forces on cells, added up cell by cell.
use Rattle.std.specs.Prelude.{◌≤◌, ◌<◌, ◌≡◌, ℕ, ◌+◌, ◌*◌, ◌^◌, ⊤, unsigned_abs, max, List, [], ◌∷◌, ◌++◌, map, filter, sum_by}
use Rattle.std.specs.List.{AllByRecursion}
use Rattle.std.specs.List.Sorted.{IsNonDecreasingBy}
use Rattle.fixed_point.specs.declared.V3.{V3}
use Rattle.fixed_point.specs.Vectors.{plus}
use Rattle.cell_space.specs.Cells.{CellData, same_cell}
use Rattle.hilbert_keys.specs.Curve.{first_key, IsCell}
use Rattle.rank_laws.specs.Homes.{Keys}
use Rattle.rank_laws.specs.Machine.{is_one}
use Rattle.rank_laws.specs.Whole.{in_order}
use Rattle.rank_laws.specs.Contents.{Summed, sum_at}
use Rattle.rank_exchange.specs.declared.sums.Placed.{Placed}

abbrev pub cells_in : List Summed → List CellData
cells_in es = map (λ e. e.cell) es

-- each cell of a list once, in order, with the sum of all that stands at it
unfoldable pub totals_of : Keys CellData → List Summed → List Summed
totals_of keys es = map (λ c. record { cell = c; sum = sum_at c es }) (in_order keys (cells_in es))

-- the greatest component of a vector, in size
abbrev pub extent : V3 → ℕ
extent v = max (unsigned_abs v.x) (max (unsigned_abs v.y) (unsigned_abs v.z))

-- how much stands at a cell, in size
abbrev pub extent_at : CellData → List Summed → ℕ
extent_at c es = sum_by (λ e. extent e.sum) (filter (λ e. same_cell c e.cell) es)

-- what stands at each cell adds up within 128 bits, in any order
abbrev pub IsLight : List Summed → Type 0
IsLight es = (c : CellData) → extent_at c es ≤ 2 ^ 126

-- ---- how they are added up

-- where a cell stands in the order: by level, and then by first key
unfoldable pub place_of : CellData → ℕ
place_of c = c.level * 2 ^ 96 + first_key c

-- cells of which each comes before all behind it
abbrev pub Climbs : List CellData → Type 0
Climbs [] = ⊤
Climbs (c ∷ cs) = AllByRecursion (λ d. place_of c < place_of d) cs × Climbs cs

-- each cell of a list once, ascending, with the sum of all that stands at it, and no more in size
pub record IsAdded (es totals : List Summed) : Type 0 where
  pub climbs : Climbs (cells_in totals)
  pub boxed : AllByRecursion IsCell (cells_in totals)
  pub cells : (c : CellData) → is_one c (cells_in totals) ≡ is_one c (cells_in es)
  pub sums : (c : CellData) → sum_at c totals ≡ sum_at c es
  pub light : (c : CellData) → extent_at c totals ≤ extent_at c es

abbrev pub placed : Summed → Placed
placed e = record { place = place_of e.cell; entry = e }

-- entries with their places
pub record ArePlaced (es : List Summed) (ps : List Placed) : Type 0 where
  pub are : ps ≡ map placed es
  pub boxed : AllByRecursion IsCell (cells_in es)

abbrev pub entries_in : List Placed → List Summed
entries_in ps = map (λ p. p.entry) ps

-- entries of the box, ascending by their places
pub record AreInOrder (es : List Summed) : Type 0 where
  pub rises : IsNonDecreasingBy (λ e. place_of e.cell) es
  pub boxed : AllByRecursion IsCell (cells_in es)

-- what two entries of one cell come to
abbrev pub joined : Summed → Summed → Summed
joined a b = record { cell = a.cell; sum = plus a.sum b.sum }

-- an entry comes behind all of a list
pub record IsNext (es : List Summed) (e : Summed) : Type 0 where
  pub behind : AllByRecursion (λ f. place_of f.cell ≤ place_of e.cell) es
  pub boxed : IsCell e.cell

-- sums that are added up, the last of them apart
abbrev pub IsAddedWith : List Summed → List Summed → Summed → Type 0
IsAddedWith es out last = IsAdded es (out ++ last ∷ [])

-- with one entry more, what stands at its cell still fits
abbrev pub StaysLight : List Summed → Summed → Type 0
StaysLight es e = extent_at e.cell (es ++ e ∷ []) ≤ 2 ^ 126
