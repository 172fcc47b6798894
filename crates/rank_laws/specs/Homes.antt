-- Homes and spans: which ranks are concerned with a cell, by its first and its last key along a curve and the bounds of
-- the ranks.
use Rattle.std.specs.Prelude.{ℕ, ◌==◌, ◌&&◌, ◌||◌, Bool, nat_le, List, [], ◌∷◌, cond, filter, length, max, slice_index}
use Rattle.cell_space.specs.Cells.{below}

-- the greatest of some numbers, and 0 of none
abbrev pub greatest_of : List ℕ → ℕ
greatest_of [] = 0
greatest_of (n ∷ ns) = max n (greatest_of ns)

-- the rank of a key: the greatest rank whose bound is at most the key, or 0
unfoldable pub rank_of_key : List ℕ → ℕ → ℕ
rank_of_key bounds k = greatest_of (filter (λ r. nat_le (slice_index bounds r) k) (below (length bounds)))

-- the first and the last key of each cell, and for each rank its bound
pub record Keys (C : Type 0) : Type 0 where
  pub first : C → ℕ
  pub last : C → ℕ
  pub bounds : List ℕ

-- of two cells the one that comes before the other
abbrev pub lesser : {C : Type 0} → (C → C → Bool) → C × C → C
lesser before x = cond (before x.1 x.0) x.1 x.0

module _ {C : Type 0} (keys : Keys C) where
  -- the home of a cell: the rank of its last key
  abbrev pub home : C → ℕ
  home c = rank_of_key keys.bounds (keys.last c)

  -- a rank lies in the span of a cell: it is one from the rank of the first key to the home
  abbrev pub in_span : ℕ → C → Bool
  in_span r c = nat_le (rank_of_key keys.bounds (keys.first c)) r && nat_le r (home c)

  -- a rank is concerned with a pair: it lies in the span of one of the two cells
  abbrev pub concerned : ℕ → C × C → Bool
  concerned r x = in_span r x.0 || in_span r x.1

  -- a rank counts a pair: it is the home of the pair's lesser cell
  abbrev pub counts : (C → C → Bool) → ℕ → C × C → Bool
  counts before r x = home (lesser before x) == r
