-- The sums of two lists together.
use Rattle.std.specs.Prelude.{◌≡◌, ℕ, ◌+◌, min, max, List, [], ◌∷◌, ◌++◌, slice_index}
use Rattle.nbody_model.specs.Bodies.{BodyData}
use Rattle.node_moments.specs.Sums.{RawData, raw_of}

abbrev pub plus_at : List ℕ → List ℕ → ℕ → ℕ
plus_at xs ys k = slice_index xs k + slice_index ys k

abbrev pub min_at : List ℕ → List ℕ → ℕ → ℕ
min_at xs ys k = min (slice_index xs k) (slice_index ys k)

abbrev pub max_at : List ℕ → List ℕ → ℕ → ℕ
max_at xs ys k = max (slice_index xs k) (slice_index ys k)

-- of two sets of sums over lists in one cell, those over both
abbrev pub joined : RawData → RawData → RawData
joined a b = record {
  cell = a.cell;
  count = a.count + b.count;
  mass = a.mass + b.mass;
  mx = plus_at a.mx b.mx 0 ∷ plus_at a.mx b.mx 1 ∷ plus_at a.mx b.mx 2 ∷ [];
  mxx = plus_at a.mxx b.mxx 0 ∷ plus_at a.mxx b.mxx 1 ∷ plus_at a.mxx b.mxx 2 ∷ plus_at a.mxx b.mxx 3 ∷ plus_at a.mxx b.mxx 4 ∷ plus_at a.mxx b.mxx 5 ∷ [];
  lo = min_at a.lo b.lo 0 ∷ min_at a.lo b.lo 1 ∷ min_at a.lo b.lo 2 ∷ [];
  hi = max_at a.hi b.hi 0 ∷ max_at a.hi b.hi 1 ∷ max_at a.hi b.hi 2 ∷ [];
  eps = max a.eps b.eps;
}

-- sums over two lists in one cell become those over both
abbrev pub Joins : RawData → RawData → RawData → Type 0
Joins a b r = (soft : List ℕ) (ms ns : List BodyData) → a ≡ raw_of soft a.cell ms → b ≡ raw_of soft b.cell ns → r ≡ raw_of soft a.cell (ms ++ ns)
