use Rattle.std.proofs.Common.{◌≡◌, ◌∷◌, [], List, subst, sym, Result, Ok, Err}
use Rattle.std.specs.Prelude.{IfOk}
use Rattle.nbody_model.specs.Bodies.{BodyData}
use Rattle.nbody_model.specs.Setups.{SetupData}
use Rattle.octree_build.specs.Trees.{IsTree}
use Rattle.dual_walk.proofs.tests.tree_of.Goals as goal

if_ok : {T E : Type 0} (r : Result T E) (P Q : T → Type 0) → ((v : T) → P v → Q v) → IfOk r P → IfOk r Q
if_ok (Ok v) P Q h k = h v k
if_ok (Err e) P Q h k = k

pub returns : goal.returns
returns g c = if_ok c.build.result (λ t. (s : SetupData) → s.soft ≡ 256 ∷ 256 ∷ 512 ∷ 1024 ∷ 2048 ∷ 4096 ∷ [] → IsTree s c.args.bodies.now t) (λ t. IsTree g.w.setup g.w.bodies t)
    (λ t h. subst (λ (B : List BodyData). IsTree g.w.setup B t) (sym c.requires.1.0) (h g.w.setup c.requires.1.1)) c.build.ensures.tree
