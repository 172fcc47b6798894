use Rattle.std.proofs.Common.{ap, arith, ◌∙◌}
use Rattle.nbody_model.specs.Correction.{spacing}
use Rattle.ewald_table.proofs.Places.{Lies, lies}
use Rattle.ewald_table.proofs.place.place_of.Goals as goal

pub overflow_sub-result : goal.overflow_sub-result
overflow_sub-result c =
    let at : Lies c.table.inside.g c.args.distance c.min-step.result = lies c.table.inside.g c.args.distance c.min-step.result c.table.invariant.fine c.requires c.min-step.ensures in
    omega (arith, at.before, at.near, at.narrow)

pub returns-clause-whole : goal.returns-clause-whole
returns-clause-whole c =
    let at : Lies c.table.inside.g c.args.distance c.min-step.result = lies c.table.inside.g c.args.distance c.min-step.result c.table.invariant.fine c.requires c.min-step.ensures in
    omega (arith, at.before, at.near, at.narrow) ∙ ap spacing c.table.view_is

pub returns-clause-small : goal.returns-clause-small
returns-clause-small c = (lies c.table.inside.g c.args.distance c.min-step.result c.table.invariant.fine c.requires c.min-step.ensures).small
