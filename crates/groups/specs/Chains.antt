-- The members of each group as a chain of places.
use Rattle.std.specs.Prelude.{◌≡◌, ◌<◌, ◌≤◌, ℕ, ◌+◌, true, List, ◌++◌, length, get_or, filter}
use Rattle.std.specs.List.{range_with_len}
use Rattle.groups.specs.Groups.{has_head, members}

-- each head is a place
abbrev pub AreBelow : List ℕ → Type 0
AreBelow heads = (k : ℕ) → k < length heads → get_or heads k 0 < length heads

-- the first place from k on that has a head, or the number of places
pub record IsFirst (heads : List ℕ) (p k place : ℕ) : Type 0 where
  pub «from» : k ≤ place
  pub within : place ≤ length heads
  pub on : place < length heads → has_head heads p place ≡ true
  pub rest : (m n : ℕ) → k + m ≡ length heads → place + n ≡ length heads
      → filter (has_head heads p) (range_with_len k m) ≡ filter (has_head heads p) (range_with_len place n)

-- the chains of the places from k on
pub record AreChains (heads : List ℕ) (k : ℕ) (first next : List ℕ) : Type 0 where
  pub within : k ≤ length heads
  pub first_long : length first ≡ length heads
  pub next_long : length next ≡ length heads
  pub starts : (p d : ℕ) → p < length heads → IsFirst heads p k (get_or first p d)
  pub goes : (j d : ℕ) → k ≤ j → j < length heads → IsFirst heads (get_or heads j 0) (j + 1) (get_or next j d)

-- the members of a head before a place, which has it too
pub record IsFollowed (heads : List ℕ) (p place : ℕ) (list : List ℕ) : Type 0 where
  pub within : place ≤ length heads
  pub on : place < length heads → has_head heads p place ≡ true
  pub whole : (n : ℕ) → place + n ≡ length heads → list ++ filter (has_head heads p) (range_with_len place n) ≡ members heads p
