-- A walk by the opening rule and the forces of a gravity.
use Rattle.std.specs.Prelude.{◌≡◌, Bool, true, List, filter}
use Rattle.fixed_point.specs.declared.V3.{V3}
use Rattle.fixed_point.specs.Vectors.{sum_of}
use Rattle.cell_space.specs.Cells.{CellData}
use Rattle.nbody_model.specs.Bodies.{BodyData}
use Rattle.nbody_model.specs.Tables.{Gravity}
use Rattle.nbody_model.specs.OpeningRule.{accept}
use Rattle.nbody_model.specs.PairForce.{pair}
use Rattle.nbody_model.specs.Covers.{interactions, opening_of}
use Rattle.nbody_model.specs.Force.{force_on, node_total}
use Rattle.dual_walk.specs.Courses.{Course, force_by, taken_by}

-- a walk that goes by them
abbrev pub gravity_course : Gravity → List BodyData → (CellData → Bool) → Course
gravity_course g B mine = record { setup = g.setup; bodies = B; law = record { accept = accept g.setup; force = pair g }; mine = mine }

-- the interactions of bodies whose cell of smaller corner is mine
abbrev pub mine_among : Gravity → List BodyData → (CellData → Bool) → List (CellData × CellData)
mine_among g B mine = filter (λ x. mine x.0) (interactions (opening_of g.setup B))

-- it takes them
abbrev pub TakesInteractions : Type 0
TakesInteractions = (g : Gravity) (B : List BodyData) (mine : CellData → Bool) → taken_by (gravity_course g B mine) ≡ mine_among g B mine

-- what a walk that takes all adds to the place of a cell's node
abbrev pub added_to : Gravity → List BodyData → CellData → V3
added_to g B c = let w = gravity_course g B (λ d. true) in sum_of (force_on (force_by w) c) (taken_by w)

-- it is the cell's total
abbrev pub AddsTotals : Type 0
AddsTotals = (g : Gravity) (B : List BodyData) (c : CellData) → added_to g B c ≡ node_total g B c
