-- Sums by rank and id, handed to the ranks.
use Rattle.std.specs.Prelude.{◌≤◌, ◌<◌, ℕ, ◌/◌, ◌%◌, ◌^◌, ◌==◌, List, filter, length, map, slice_index_or}
use Rattle.rank_laws.specs.Contents.{Given}
use Rattle.rank_exchange.specs.declared.keyed.Keyed.{Keyed}

-- the sum for the id in a key
abbrev pub given_at : Keyed → Given
given_at e = record { id = e.key % 2 ^ 64; sum = e.sum }

-- what a body got at a home, with its id for a key
abbrev pub by_id : Given → Keyed
by_id g = record { key = g.id; sum = g.sum }

-- those of a rank
abbrev pub handed_to : List Keyed → ℕ → List Given
handed_to es to = map given_at (filter (λ e. e.key / 2 ^ 64 == to) es)

-- all keys before a place are below a key, and none from the place on
pub record IsPlace (es : List Keyed) (key place : ℕ) : Type 0 where
  pub within : place ≤ length es
  pub before : (i : ℕ) (d : Keyed) → i < place → (slice_index_or es i d).key < key
  pub from : (i : ℕ) (d : Keyed) → place ≤ i → i < length es → key ≤ (slice_index_or es i d).key
