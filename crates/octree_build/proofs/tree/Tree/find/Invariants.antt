use Rattle.std.proofs.Common.{List}
use Rattle.nbody_model.specs.Bodies.{BodyData}
use Rattle.nbody_model.specs.Setups.{SetupData}
use Rattle.hilbert_keys.specs.Curve.{IsCell}
use Rattle.octree_build.specs.Trees.{IsTree}
use Rattle.octree_build.proofs.Found.{IsAbove}
use Rattle.octree_build.proofs.tree.Tree.find.Given as goal

abbrev pub invariant-loop-level : goal.invariant-loop-level
invariant-loop-level l = (s : SetupData) (B : List BodyData) (h : IsTree s B l.self) (i : IsCell l.cell) → IsAbove s B l.self h l.cell i l.at l._level
