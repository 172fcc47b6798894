use Rattle.std.proofs.Common.{◌≡◌, ap, sym, ◌∙◌, arith}
use Rattle.cell_space.specs.Cells.{contains}
use Rattle.nbody_model.specs.Bodies.{BodyData}
use Rattle.node_moments.specs.Sums.{raw_of}
use Rattle.octree_build.proofs.Parts.{part, part_one, part_more, range_some, range_within, range_inside, range_all, range_room, range_light, sum_cell}
use Rattle.octree_build.proofs.sums.sum_of_range.Goals as goal

pub bounds-bodies-low : goal.bounds-bodies-low
bounds-bodies-low c = omega (arith, range_some c.args.bodies.now c.args.cell.now c.args.low c.args.high c.requires, range_within c.args.bodies.now c.args.cell.now c.args.low c.args.high c.requires)

pub of_body-sum-requires : goal.of_body-sum-requires
of_body-sum-requires c = ap (λ (b : BodyData). contains c.args.cell.now b.motion.pos) c.index-bodies-low.is ∙ range_inside c.args.bodies.now c.args.cell.now c.args.low c.args.high c.requires c.args.low _ (omega arith) (range_some c.args.bodies.now c.args.cell.now c.args.low c.args.high c.requires)

pub loop-k-init : goal.loop-k-init
loop-k-init c = (omega arith, c.of_body-sum.ensures ∙ ap (raw_of c.args.soft.now c.args.cell.now) (sym (part_one c.args.bodies.now c.args.low c.index-bodies-low.result (omega (arith, range_some c.args.bodies.now c.args.cell.now c.args.low c.args.high c.requires, range_within c.args.bodies.now c.args.cell.now c.args.low c.args.high c.requires)) c.index-bodies-low.is)))

pub bounds-bodies-k : goal.bounds-bodies-k
bounds-bodies-k c = omega (arith, c.loop-k-test.true, range_within c.args.bodies.now c.args.cell.now c.args.low c.args.high c.requires)

pub with_member-sum-requires-clause-inside : goal.with_member-sum-requires-clause-inside
with_member-sum-requires-clause-inside c = ap (λ (b : BodyData). contains c.args.cell.now b.motion.pos) c.index-bodies-k.is ∙ range_inside c.args.bodies.now c.args.cell.now c.args.low c.args.high c.requires c.loop-k.k _ (omega (arith, c.loop-k.invariant.0)) c.loop-k-test.true

pub with_member-sum-requires-clause-same_cell : goal.with_member-sum-requires-clause-same_cell
with_member-sum-requires-clause-same_cell c = sum_cell _ _ _ c.loop-k.sum c.loop-k.invariant.1

pub with_member-sum-requires-clause-few : goal.with_member-sum-requires-clause-few
with_member-sum-requires-clause-few c = range_room c.args.bodies.now c.args.cell.now c.args.low c.args.high c.requires c.args.soft.now c.loop-k.k c.loop-k.sum c.index-bodies-k.result (omega (arith, c.loop-k.invariant.0)) c.loop-k-test.true c.index-bodies-k.is c.loop-k.invariant.1

pub with_member-sum-requires-clause-light : goal.with_member-sum-requires-clause-light
with_member-sum-requires-clause-light c = range_light c.args.bodies.now c.args.cell.now c.args.low c.args.high c.requires c.args.soft.now c.loop-k.k c.loop-k.sum c.index-bodies-k.result (omega (arith, c.loop-k.invariant.0)) c.loop-k-test.true c.index-bodies-k.is c.loop-k.invariant.1

pub loop-k-preserved : goal.loop-k-preserved
loop-k-preserved c = (
  omega (arith, c.loop-k.invariant.0),
  c.with_member-sum.ensures (part c.args.bodies.now c.args.low c.loop-k.k) c.loop-k.invariant.1 ∙ ap (raw_of c.args.soft.now c.args.cell.now) (sym (part_more c.args.bodies.now c.args.low c.loop-k.k c.index-bodies-k.result (omega (arith, c.loop-k.invariant.0)) (omega (arith, c.loop-k-test.true, range_within c.args.bodies.now c.args.cell.now c.args.low c.args.high c.requires)) c.index-bodies-k.is)),
)

pub returns : goal.returns
returns c =
    let e : c.loop-k.k ≡ c.args.high = omega (arith, c.loop-k.auto.k-end, c.loop-k-test.false, range_some c.args.bodies.now c.args.cell.now c.args.low c.args.high c.requires) in
    c.loop-k.invariant.1 ∙ ap (λ t. raw_of c.args.soft.now c.args.cell.now (part c.args.bodies.now c.args.low t)) e ∙ ap (raw_of c.args.soft.now c.args.cell.now) (range_all c.args.bodies.now c.args.cell.now c.args.low c.args.high c.requires)
