use Rattle.std.proofs.Common.{ap, sym, ◌∙◌, take}
use Rattle.node_moments.specs.Sums.{raw_of}
use Rattle.force_field.proofs.Sums.{raw-cell, room_for, mass_for, inside, next_inside, first_inside, all_inside}
use Rattle.force_field.proofs.nodes.sums_of.Goals as goal

pub with_body-sums-requires-clause-same_cell : goal.with_body-sums-requires-clause-same_cell
with_body-sums-requires-clause-same_cell c = raw-cell _ _ _ c.loop-k.sums c.loop-k.invariant

pub with_body-sums-requires-clause-few : goal.with_body-sums-requires-clause-few
with_body-sums-requires-clause-few c = room_for c.args.soft.now c.args.cell.now c.args.bodies.now c.loop-k.k c.loop-k.sums c.requires.valid c.loop-k-test.true c.loop-k.invariant

pub with_body-sums-requires-clause-light : goal.with_body-sums-requires-clause-light
with_body-sums-requires-clause-light c = mass_for c.args.soft.now c.args.cell.now c.args.bodies.now c.loop-k.k c.index-bodies-k.result c.loop-k.sums c.requires.valid c.loop-k-test.true c.index-bodies-k.is c.loop-k.invariant

pub loop-k-init : goal.loop-k-init
loop-k-init c = first_inside c.args.soft.now c.args.cell.now c.args.bodies.now c.args.first c.index-bodies-first.result c.of_body-sums.result c.requires.within c.index-bodies-first.is (c.requires.inside _) c.requires.first c.of_body-sums.ensures

pub loop-k-preserved : goal.loop-k-preserved
loop-k-preserved c =
    c.with_body-sums.ensures (inside c.args.cell.now (take c.loop-k.k c.args.bodies.now)) c.loop-k.invariant
    ∙ ap (raw_of c.args.soft.now c.args.cell.now) (sym (next_inside c.args.cell.now c.args.bodies.now c.loop-k.k c.index-bodies-k.result c.loop-k-test.true c.index-bodies-k.is))

pub returns : goal.returns
returns c = all_inside c.args.soft.now c.args.cell.now c.args.bodies.now c.loop-k.k c.loop-k.sums c.loop-k-test.false c.loop-k.invariant
