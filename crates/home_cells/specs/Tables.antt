-- A table of entries, and the numbers by which they are found.
use Rattle.std.specs.Prelude.{◌≡◌, ◌≤◌, ◌<◌, ℕ, ◌+◌, ◌*◌, ◌/◌, ◌%◌, ◌^◌, if◌then◌else◌, List, [], ◌∷◌, length, slice_index_or}
use Rattle.std.specs.List.{AllByRecursion}
use Rattle.std.specs.List.Sorted.{IsPermutation}
use Rattle.cell_space.specs.Cells.{CellData, corner}
use Rattle.octree_build.specs.Trees.{Rises}
use Rattle.rank_laws.specs.Contents.{EntryData}
use Rattle.rank_entry_laws.specs.Given.{at_one}

-- the number of a cell: its level, and the x, y and z of its corner
abbrev pub code_of : CellData → ℕ
code_of c = let p = corner c in ((c.level * 2 ^ 32 + p.x) * 2 ^ 32 + p.y) * 2 ^ 32 + p.z

-- an entry is found by its cell, and by whether its members stand at one place
abbrev pub mark_of : EntryData → ℕ
mark_of e = code_of e.raw.cell * 2 + (if at_one e.raw then 1 else 0)

-- the numbers of entries: each one's mark, and its place below it, from a place on
abbrev pub marked : ℕ → List EntryData → List ℕ
marked i [] = []
marked i (e ∷ es) = (mark_of e * 2 ^ 25 + i) ∷ marked (i + 1) es

-- a number has the mark of the entry at its place
pub record IsMarkOf (es : List EntryData) (n : ℕ) : Type 0 where
  pub within : n % 2 ^ 25 < length es
  pub mark : (d : EntryData) → n / 2 ^ 25 ≡ mark_of (slice_index_or es (n % 2 ^ 25) d)

-- the numbers of all entries, the smallest first
pub record IsOrderOf (es : List EntryData) (order : List ℕ) : Type 0 where
  pub few : length es ≤ 2 ^ 25
  pub permuted : IsPermutation (marked 0 es) order
  pub rises : Rises (λ n. n) order
  pub each : AllByRecursion (IsMarkOf es) order
