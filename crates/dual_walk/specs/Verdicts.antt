-- What a law says of two nodes.
use Rattle.std.specs.Prelude.{◌≡◌, ℕ, ◌-◌, ◌^◌, true, false, List}
use Rattle.fixed_point.specs.declared.V3.{V3}
use Rattle.fixed_point.specs.Vectors.{IsAtMost}
use Rattle.nbody_model.specs.Covers.{final}
use Rattle.octree_build.specs.Trees.{NodeData}
use Rattle.dual_walk.specs.declared.pairs.Pair.{Pair}
use Rattle.dual_walk.specs.declared.verdicts.Verdict.{Verdict}
use Rattle.dual_walk.specs.declared.verdicts.Verdict.TheVariants.{Opens, Drops, Takes}
use Rattle.dual_walk.specs.Courses.{Course, opening_by, force_by, cell_in}
use Rattle.dual_walk.specs.Steps.{cells_at}

-- two nodes act on each other as wholes
abbrev pub AreWhole : Course → List NodeData → Pair → Type 0
AreWhole w nodes x = final (opening_by w) (cell_in nodes x.a) (cell_in nodes x.b) ≡ true

-- two nodes whose interaction is another's
pub record IsDropped (w : Course) (nodes : List NodeData) (x : Pair) : Type 0 where
  pub whole : AreWhole w nodes x
  pub other : w.mine (cell_in nodes x.a) ≡ false

-- two nodes whose interaction is mine, and its force
pub record IsTaken (w : Course) (nodes : List NodeData) (x : Pair) (force : V3) : Type 0 where
  pub whole : AreWhole w nodes x
  pub mine : w.mine (cell_in nodes x.a) ≡ true
  pub is : force ≡ force_by w (cells_at nodes x)
  pub small : IsAtMost (2 ^ 87 - 1) force

-- what is said of two nodes, the one of smaller corner first
abbrev pub IsVerdict : Course → List NodeData → Pair → Verdict → Type 0
IsVerdict w nodes x Opens = final (opening_by w) (cell_in nodes x.a) (cell_in nodes x.b) ≡ false
IsVerdict w nodes x Drops = IsDropped w nodes x
IsVerdict w nodes x (Takes force) = IsTaken w nodes x force

-- how many forces were asked for
abbrev pub pulls_of : Verdict → ℕ
pulls_of Opens = 0
pulls_of Drops = 0
pulls_of (Takes force) = 1
