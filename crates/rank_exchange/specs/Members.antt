-- Own bodies, and which of them lie in which cells.
use Rattle.std.specs.Prelude.{◌≡◌, ◌≤◌, ◌<◌, ℕ, ◌+◌, ◌*◌, ◌/◌, ◌%◌, ◌^◌, List, length, map}
use Rattle.std.specs.List.{AllByRecursion}
use Rattle.std.specs.List.Sorted.{IsPermutation}
use Rattle.cell_space.specs.Cells.{CellData}
use Rattle.nbody_model.specs.Bodies.{BodyData}
use Rattle.nbody_model.specs.Nodes.{members}
use Rattle.model_laws.specs.Laws.{AreBodies}
use Rattle.octree_build.specs.Trees.{IsAlong, Rises}
use Rattle.octree_build.proofs.Parts.{part}
use Rattle.rank_laws.specs.Contents.{Listed, member_of}

-- bodies that keep the limits, and these bodies in the order of the curve
pub record AreOwn (B S : List BodyData) : Type 0 where
  pub bodies : AreBodies B
  pub along : IsAlong B S

-- a cell with each of the bodies in it
abbrev pub listed_in : List BodyData → CellData → List Listed
listed_in B c = map (λ b. record { cell = c; member = member_of b }) (members B c)

-- where the members of a cell begin and end among bodies in the order of the curve
pub record IsMembersRange (S : List BodyData) (c : CellData) (low high : ℕ) : Type 0 where
  pub order : low ≤ high
  pub within : high ≤ length S
  pub are : part S low high ≡ members S c

-- ---- bodies as numbers: the id, and the mass below it

abbrev pub number_of : BodyData → ℕ
number_of b = b.id * 2 ^ 33 + b.mass

-- a cell with the body of a number
abbrev pub listed_at : CellData → ℕ → Listed
listed_at c n = record { cell = c; member = (n / 2 ^ 33, n % 2 ^ 33) }

-- the number of an id and a mass of the program
pub record IsNumber (n : ℕ) : Type 0 where
  pub id : n / 2 ^ 33 < 2 ^ 64
  pub mass : n % 2 ^ 33 < 2 ^ 32

-- some bodies as numbers
pub record AreNumbered (bs : List BodyData) (ns : List ℕ) : Type 0 where
  pub are : ns ≡ map number_of bs
  pub each : AllByRecursion IsNumber ns

-- the same in ascending order
pub record AreSorted (bs : List BodyData) (ns : List ℕ) : Type 0 where
  pub permuted : IsPermutation (map number_of bs) ns
  pub rises : Rises (λ n. n) ns
  pub each : AllByRecursion IsNumber ns
