use Rattle.std.proofs.Common.{◌≡◌, ℕ, ◌+◌, ◌<◌, List, [], ◌∷◌, length, take, get_or, subst}
use Rattle.std.specs.List.{AllByRecursion}
use Rattle.std.proofs.lemmas.List.{take_more, take_all}
use Rattle.nbody_model.specs.Bodies.{BodyData, IsInRange}
use Rattle.model_laws.proofs.Among.{each-append}
use Rattle.rewind.proofs.kicks.keep_range.Goals as goal

abbrev In : BodyData → Type 0
In b = IsInRange b.motion.mom

grow : (B : List BodyData) (i : ℕ) (b : BodyData) → i < length B → b ≡ get_or B i b → AllByRecursion In (take i B) → In b → AllByRecursion In (take (i + 1) B)
grow B i b h e a k = rw (take_more B i b h) (each-append In (take i B) (get_or B i b ∷ []) a (subst In e k, tt))

pub loop-body-init : goal.loop-body-init
loop-body-init c = tt

pub loop-body-preserved : goal.loop-body-preserved
loop-body-preserved c = grow c.args.bodies.now c.loop-body.body-index c.body-item.result c.loop-body-test.true c.body-item.is c.loop-body.invariant c.keeps_range.ensures

pub returns : goal.returns
returns c = subst (AllByRecursion In) (take_all c.loop-body.body-index c.args.bodies.now c.loop-body-test.false) c.loop-body.invariant
