-- Which group shares the most ids with another, by places.
use Rattle.std.specs.Prelude.{◌≡◌, ◌⊎◌, ℕ, ◌<◌, ◌≤◌, List, [], length, get_or}
use Rattle.group_file.specs.Catalogues.{GroupData, times}
use Rattle.merger_links.specs.declared.ties.Tie.{Tie}
use Rattle.merger_links.specs.Links.{shared}

-- what stands behind the last group
abbrev pub no_group : GroupData
no_group = record { label = 0; mass = 0; ids = [] }

-- the number that stands most often in a list, of equals the least, and how often; 0 where the list is empty
pub record IsMostOften (xs : List ℕ) (t : Tie) : Type 0 where
  pub often : times t.group xs ≡ t.shared
  pub most : (v : ℕ) → (times v xs < t.shared) ⊎ ((times v xs ≡ t.shared) × (t.group ≤ v))

-- the group of D that shares the most ids with g, of equals the first, and how many; none where that is 0
pub record IsTie (D : List GroupData) (g : GroupData) (t : Tie) : Type 0 where
  pub within : 1 ≤ t.shared → t.group < length D
  pub as_many : 1 ≤ t.shared → shared g (get_or D t.group no_group) ≡ t.shared
  pub most : (j : ℕ) → j < length D → (shared g (get_or D j no_group) < t.shared) ⊎ ((shared g (get_or D j no_group) ≡ t.shared) × (t.group ≤ j))

-- the ties of the first n groups of C
pub record AreTies (C D : List GroupData) (n : ℕ) (ties : List Tie) : Type 0 where
  pub long : length ties ≡ n
  pub each : (k : ℕ) (d : Tie) → k < n → IsTie D (get_or C k no_group) (get_or ties k d)

-- of the first n groups those that are tied to the group at a place: the one that shares the most, of equals the first
pub record IsMainOf (ties : List Tie) (n place : ℕ) (m : Tie) : Type 0 where
  pub within : 1 ≤ m.shared → m.group < n
  pub tied : 1 ≤ m.shared → (d : Tie) → ((get_or ties m.group d).group ≡ place) × ((get_or ties m.group d).shared ≡ m.shared)
  pub most : (k : ℕ) (d : Tie) → k < n → (get_or ties k d).group ≡ place → 1 ≤ (get_or ties k d).shared
      → ((get_or ties k d).shared < m.shared) ⊎ (((get_or ties k d).shared ≡ m.shared) × (m.group ≤ k))

-- the main group of each place
pub record AreMains (ties : List Tie) (n places : ℕ) (mains : List Tie) : Type 0 where
  pub long : length mains ≡ places
  pub each : (place : ℕ) (d : Tie) → place < places → IsMainOf ties n place (get_or mains place d)

-- each tie names a place below a number, or is none
abbrev pub AreWithin : List Tie → ℕ → Type 0
AreWithin ties places = (k : ℕ) (d : Tie) → k < length ties → 1 ≤ (get_or ties k d).shared → (get_or ties k d).group < places
