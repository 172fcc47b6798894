-- Ids that stand more than once.
use Rattle.std.specs.Prelude.{◌≤◌, ℕ, List}
use Rattle.group_file.specs.Catalogues.{times}

-- an id stands twice in a list, and no lower one does
pub record IsLeastRepeated (ids : List ℕ) (id : ℕ) : Type 0 where
  pub twice : 2 ≤ times id ids
  pub least : (i : ℕ) → 2 ≤ times i ids → id ≤ i
