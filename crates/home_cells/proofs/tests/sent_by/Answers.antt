use Rattle.std.proofs.Common.{◌∙◌}
use Rattle.home_cells.proofs.Divided.{own_valid, sends}
use Rattle.home_cells.proofs.tests.sent_by.Goals as goal

pub build-requires-clause-bodies : goal.build-requires-clause-bodies
build-requires-clause-bodies c =
    let all = c.args.all.now in
    own_valid all.bodies.now all.owners.now all.bounds.now all.soft.now c.requires.division c.keep_limits.ensures.bodies c.args.rank c.deref.result.now (c.deref.ensures.value ∙ c.in_ok-own.ensures)

pub returns : goal.returns
returns c =
    let all = c.args.all.now in
    sends all.bodies.now all.owners.now all.bounds.now all.soft.now c.requires.division c.keep_limits.ensures.bodies c.args.to c.args.rank c.deref.result.now c.in_ok-tree.tree c.in_ok-entries_for.field-0.items
    (c.deref.ensures.value ∙ c.in_ok-own.ensures) c.in_ok-tree.ensures.tree c.in_ok-entries_for.ensures
