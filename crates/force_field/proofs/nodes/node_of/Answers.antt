use Rattle.std.proofs.Common.{ap, subst, arith}
use Rattle.nbody_model.specs.Setups.{SetupData, AreSoftenings}
use Rattle.force_field.proofs.Leaders.{sums-are, node-around}
use Rattle.force_field.proofs.nodes.node_of.Goals as goal

pub moments-requires : goal.moments-requires
moments-requires c =
    let soft = ap (λ (s : SetupData). s.soft) c.setup.view_is in
    record {
      setup = c.args.setup.now;
      all = c.args.bodies.now;
      sums = sums-are c.args.setup.now c.args.bodies.now c.sums_of-sums.result c.cell_around-cell.result _ c.first_in-first.result c.index-bodies-i.result soft c.requires.bodies c.requires.kinds (subst AreSoftenings soft c.setup.invariant.softenings)
          (omega (arith, c.first_in-first.ensures.within, c.requires.within)) (c.first_in-first.ensures.inside _) c.sums_of-sums.ensures;
    }

pub returns : goal.returns
returns c =
    let soft = ap (λ (s : SetupData). s.soft) c.setup.view_is in
    let sums = sums-are c.args.setup.now c.args.bodies.now c.sums_of-sums.result c.cell_around-cell.result _ c.first_in-first.result c.index-bodies-i.result soft c.requires.bodies c.requires.kinds (subst AreSoftenings soft c.setup.invariant.softenings)
    (omega (arith, c.first_in-first.ensures.within, c.requires.within)) (c.first_in-first.ensures.inside _) c.sums_of-sums.ensures in
    node-around c.args.setup.now c.args.bodies.now c.cell_around-cell.result _ c.sums_of-sums.result c.args.i c.first_in-first.result c.args.level c.index-bodies-i.result c.index-bodies-first.result c.index-bodies-i-2.result c.moments.result c.same_id.result
    c.requires.within c.first_in-first.ensures.within c.index-bodies-i.is c.index-bodies-first.is c.cell_around-cell.ensures (c.first_in-first.ensures.inside _) c.first_in-first.ensures.first
    c.sums_of-sums.ensures (c.moments.ensures c.args.setup.now c.args.bodies.now sums) c.index-bodies-i-2.is c.same_id.ensures
