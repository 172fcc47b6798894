-- Which group of a catalogue has an id.
use Rattle.std.specs.Prelude.{◌≢◌, ℕ, suc, ◌+◌, ◌<◌, ◌≤◌, if◌then◌else◌, List, [], ◌∷◌, ◌++◌, length, map, get_or, Option, Some, None}
use Rattle.std.specs.Option.{option_map}
use Rattle.std.specs.List.Sorted.{IsPermutation, IsNonDecreasingBy}
use Rattle.group_file.specs.Catalogues.{GroupData}
use Rattle.merger_links.specs.declared.owners.Owner.{Owner}
use Rattle.merger_links.specs.Links.{has}

-- the place of the first group that has an id
abbrev pub owner_in : List GroupData → ℕ → Option ℕ
owner_in [] id = None
owner_in (g ∷ C) id = if has g.ids id then Some 0 else option_map suc (owner_in C id)

-- an entry for each of these ids, which are in the group at a place
abbrev pub owned : ℕ → List ℕ → List Owner
owned place ids = map (λ id. record { id = id; group = place }) ids

-- an entry for each id of these groups, which stand from a place on
abbrev pub all_owned : ℕ → List GroupData → List Owner
all_owned place [] = []
all_owned place (g ∷ C) = owned place g.ids ++ all_owned (place + 1) C

-- an entry for each id of the groups of C, ascending in id
pub record AreOwners (C : List GroupData) (owners : List Owner) : Type 0 where
  pub permuted : IsPermutation (all_owned 0 C) owners
  pub up : IsNonDecreasingBy (λ o. o.id) owners

-- no entry has an id
abbrev pub HasNone : List Owner → ℕ → Type 0
HasNone owners id = (k : ℕ) (d : Owner) → k < length owners → (get_or owners k d).id ≢ id

-- the entries before a place have lower ids than this, and those from it on don't
pub record IsBound (owners : List Owner) (id at : ℕ) : Type 0 where
  pub within : at ≤ length owners
  pub low : (k : ℕ) (d : Owner) → k < at → (get_or owners k d).id < id
  pub high : (k : ℕ) (d : Owner) → at ≤ k → k < length owners → id ≤ (get_or owners k d).id

-- the entries before `low` have lower ids than this, and those from `high` on don't
pub record IsBetween (owners : List Owner) (id low high : ℕ) : Type 0 where
  pub order : low ≤ high
  pub within : high ≤ length owners
  pub below : (k : ℕ) (d : Owner) → k < low → (get_or owners k d).id < id
  pub above : (k : ℕ) (d : Owner) → high ≤ k → k < length owners → id ≤ (get_or owners k d).id
