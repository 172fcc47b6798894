use Rattle.std.proofs.Common.{◌≡◌, ℕ, ◌+◌, ◌<◌, ◌≤◌, List, [], ◌∷◌, length, take, get_or, subst}
use Rattle.std.specs.List.{AllByRecursion}
use Rattle.std.proofs.lemmas.List.{take_more, take_all}
use Rattle.cell_space.specs.Cells.{InBox}
use Rattle.nbody_model.specs.Bodies.{BodyData, IsValid}
use Rattle.model_laws.specs.Laws.{AreBodies, KeepsLimits}
use Rattle.model_laws.proofs.Among.{each-append, each-weaker}
use Rattle.model_laws.proofs.laws.bodies.keep_limits.Goals as goal

grow : (B : List BodyData) (i : ℕ) (b : BodyData) → i < length B → b ≡ get_or B i b → AllByRecursion KeepsLimits (take i B) → KeepsLimits b → AllByRecursion KeepsLimits (take (i + 1) B)
grow B i b h e a k = rw (take_more B i b h) (each-append KeepsLimits (take i B) (get_or B i b ∷ []) a (subst KeepsLimits e k, tt))

whole : (B : List BodyData) (i : ℕ) → length B ≤ i → IsValid B → AllByRecursion KeepsLimits (take i B) → AreBodies B
whole B i h v a =
    let all : AllByRecursion KeepsLimits B = subst (AllByRecursion KeepsLimits) (take_all i B h) a in
    record { valid = v; heavy = each-weaker KeepsLimits (λ b. 1 ≤ b.mass) (λ b k. k.heavy) B all; in_box = each-weaker KeepsLimits (λ b. InBox b.motion.pos) (λ b k. k.in_box) B all }

pub loop-body-init : goal.loop-body-init
loop-body-init c = tt

pub loop-body-preserved : goal.loop-body-preserved
loop-body-preserved c = grow c.args.bodies.now c.loop-body.body-index c.body-item.result c.loop-body-test.true c.body-item.is c.loop-body.invariant c.keeps_limits.ensures

pub returns-clause-bodies : goal.returns-clause-bodies
returns-clause-bodies c = whole c.args.bodies.now c.loop-body.body-index c.loop-body-test.false c.requires c.loop-body.invariant

pub returns-clause-kinds : goal.returns-clause-kinds
returns-clause-kinds c =
    each-weaker KeepsLimits (λ b. b.kind ≤ 5) (λ b k. k.kind) c.args.bodies.now
    (subst (AllByRecursion KeepsLimits) (take_all c.loop-body.body-index c.args.bodies.now c.loop-body-test.false) c.loop-body.invariant)
