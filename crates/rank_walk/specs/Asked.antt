-- The cells that a rank asks for, by their places.
use Rattle.std.specs.Prelude.{◌≡◌, ◌<◌, ℕ, ◌==◌, Bool, false, ◌&&◌, ◌||◌, not, List, [], ◌∷◌, length, map, sum_by, slice_index_or, Option, Some, is_some, if◌then◌else◌}
use Rattle.std.specs.List.{AllByRecursion, flat_map}
use Rattle.std.specs.List.Sorted.{IsNonDecreasingBy, IsPermutation}
use Rattle.std.specs.BTreeMap.{BTreeMap, get}
use Rattle.std.specs.Ordering.{nat_cmp}
use Rattle.cell_space.specs.Cells.{CellData, same_cell}
use Rattle.rank_laws.specs.Machine.{cells_of, is_one}
use Rattle.rank_walk.specs.declared.places.Places.{Places}
use Rattle.rank_walk.specs.declared.ranked.Ranked.{Ranked}
use Rattle.rank_walk.specs.Slots.{SlotData, slot_at, cell_at_place, cells_in, cells, flag_at}
use Rattle.rank_walk.specs.Tables.{known_at}

-- no cell stands at two places
abbrev pub AreDistinct : List SlotData → Type 0
AreDistinct ss = (i j : ℕ) → i < length ss → j < length ss → cell_at_place ss i ≡ cell_at_place ss j → i ≡ j

abbrev pub ranked_at : List SlotData → ℕ → Ranked
ranked_at ss i = record { order = (slot_at ss i).order; place = i }

-- a place is that of a cell with this number
pub record IsRanked (ss : List SlotData) (r : Ranked) : Type 0 where
  pub low : r.place < length ss
  pub order : r.order ≡ (slot_at ss r.place).order

abbrev pub cells_at : List SlotData → List Ranked → List CellData
cells_at ss rs = map (λ r. cell_at_place ss r.place) rs

-- how often a cell stands in a list
abbrev pub times : CellData → List CellData → ℕ
times c cs = sum_by (λ d. if same_cell c d then 1 else 0) cs

-- a place is that of a cell that is neither known nor asked for
abbrev pub asks_at : List SlotData → List Bool → ℕ → Bool
asks_at ss asked i = not (known_at ss i) && not (slice_index_or asked i false)

-- a cell is known where it stands
abbrev pub known_cell : List SlotData → CellData → Bool
known_cell ss c = flag_at (cells_in ss) (map (λ s. is_some s.moments) ss) c

-- a cell stands on a list of pairs
abbrev pub on_list : List SlotData → List Places → CellData → Bool
on_list ss xs c = is_one c (flat_map cells_of (map (cells ss) xs))

-- of a list these cells are found that are neither known nor were asked for, each once, and they are flagged
pub record IsAsking (ss : List SlotData) (start : List Bool) (list : List Places) (asked : List Bool) (out : List Ranked) : Type 0 where
  pub long : length asked ≡ length ss
  pub each : AllByRecursion (IsRanked ss) out
  pub flags : (c : CellData) → flag_at (cells_in ss) asked c ≡ (flag_at (cells_in ss) start c || (not (known_cell ss c) && on_list ss list c))
  pub once : (c : CellData) → times c (cells_at ss out) ≡ (if flag_at (cells_in ss) asked c && not (flag_at (cells_in ss) start c) then 1 else 0)

-- what is noted at a number after some places were noted
abbrev pub noted : List Ranked → ℕ → Option ℕ → Option ℕ
noted [] o p = p
noted (r ∷ rs) o p = noted rs o (if r.order == o then Some r.place else p)

-- these cells are asked for, in order, and it is noted where they stand
pub record IsAskedFor (ss : List SlotData) (start : List Bool) (before : BTreeMap ℕ ℕ) (list : List Places) (asked : List Bool) (after : BTreeMap ℕ ℕ) (cs : List CellData) : Type 0 where
  pub found : List Ranked
  pub ranked : List Ranked
  pub asking : IsAsking ss start list asked found
  pub permuted : IsPermutation found ranked
  pub up : IsNonDecreasingBy (λ r. r.order) ranked
  pub cells : cs ≡ cells_at ss ranked
  pub noted : (o : ℕ) → get nat_cmp after o ≡ noted ranked o (get nat_cmp before o)
