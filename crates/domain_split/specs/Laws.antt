-- The laws of homes along the curve.
use Rattle.std.specs.Prelude.{◌≡◌, ◌≤◌, ◌<◌, ℕ, true, List, length}
use Rattle.cell_space.specs.Cells.{CellData, contains, corner}
use Rattle.hilbert_keys.specs.Curve.{IsCell, last_key}
use Rattle.rank_laws.specs.Homes.{home, in_span}
use Rattle.rank_curve_laws.specs.Along.{keys_along}

-- the home of a cell lies in the span of each cell around it
abbrev pub HomesLieInSpans : Type 0
HomesLieInSpans = (bounds : List ℕ) → 0 < length bounds → (c d : CellData) → IsCell c → d.level ≤ c.level → contains d (corner c) ≡ true → in_span (keys_along bounds) (home (keys_along bounds) c) d ≡ true

-- homes don't fall along the curve
abbrev pub HomesRise : Type 0
HomesRise = (bounds : List ℕ) (c d : CellData) → last_key c ≤ last_key d → home (keys_along bounds) c ≤ home (keys_along bounds) d
