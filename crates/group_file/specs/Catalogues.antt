-- Groups of bodies, and catalogues of them.
use Rattle.std.specs.Prelude.{◌≡◌, ℕ, ◌^◌, ◌<◌, ◌≤◌, ◌==◌, List, length, map, get_or}
use Rattle.std.specs.List.{All, flat_map, count_by}
use Rattle.std.specs.List.Sorted.{IsStrictlyIncreasing}

-- a group: its label, the mass of its bodies, and their ids
pub record GroupData : Type 0 where
  pub label : ℕ
  pub mass : ℕ
  pub ids : List ℕ

-- a group as a file may have it: some ids, ascending, the label the first of them
pub record IsGroup (g : GroupData) : Type 0 where
  pub some : 1 ≤ length g.ids
  pub few : length g.ids ≤ 1048576
  pub ascending : IsStrictlyIncreasing g.ids
  pub first : get_or g.ids 0 0 ≡ g.label

-- the ids of all groups, one group behind the other
abbrev pub all_ids : List GroupData → List ℕ
all_ids C = flat_map (λ g. g.ids) C

-- how often an id stands in a list
abbrev pub times : ℕ → List ℕ → ℕ
times id ids = count_by (λ i. i == id) ids

-- a catalogue as a file may have it: groups ascending by label that share no id
pub record IsGood (C : List GroupData) : Type 0 where
  pub ascending : IsStrictlyIncreasing (map (λ g. g.label) C)
  pub each : All IsGroup C
  pub apart : (id : ℕ) → times id (all_ids C) ≤ 1

-- a group's numbers fit eight bytes each
pub record FitsWords (g : GroupData) : Type 0 where
  pub mass : g.mass < 2 ^ 64
  pub ids : All (λ id. id < 2 ^ 64) g.ids
