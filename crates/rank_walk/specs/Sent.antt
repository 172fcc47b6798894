-- The sums that a rank sends to the home of cells, by their places.
use Rattle.std.specs.Prelude.{◌≡◌, ℕ, ◌==◌, Bool, false, ◌&&◌, List, length, map, filter, slice_index_or}
use Rattle.std.specs.List.{range_with_len}
use Rattle.std.specs.List.Sorted.{IsNonDecreasingBy, IsPermutation}
use Rattle.fixed_point.specs.declared.V3.{V3}
use Rattle.rank_walk.specs.declared.ranked.Ranked.{Ranked}
use Rattle.rank_walk.specs.declared.sending.Summed.{Summed}
use Rattle.rank_walk.specs.Asked.{ranked_at}
use Rattle.rank_walk.specs.Slots.{SlotData, slot_at, cell_at_place, sum_at_place}

-- a place is that of a cell that took part, with this home
abbrev pub picks_at : List SlotData → List Bool → ℕ → ℕ → Bool
picks_at ss touched home i = slice_index_or touched i false && (slot_at ss i).home == home

-- the places below n that are picked
abbrev pub ArePicked : List SlotData → List Bool → ℕ → ℕ → List Ranked → Type 0
ArePicked ss touched home n out = out ≡ map (ranked_at ss) (filter (picks_at ss touched home) (range_with_len 0 n))

abbrev pub sum_of_place : List SlotData → List V3 → ℕ → Summed
sum_of_place ss vs i = record { cell = cell_at_place ss i; sum = sum_at_place vs i }

-- these cells with their sums are those at the places that are picked, in order
pub record IsSending (ss : List SlotData) (touched : List Bool) (vs : List V3) (home : ℕ) (out : List Summed) : Type 0 where
  pub ranked : List Ranked
  pub permuted : IsPermutation (map (ranked_at ss) (filter (picks_at ss touched home) (range_with_len 0 (length ss)))) ranked
  pub up : IsNonDecreasingBy (λ r. r.order) ranked
  pub sums : out ≡ map (λ r. sum_of_place ss vs r.place) ranked
