use Rattle.std.proofs.Common.{ap, ◌∙◌}
use Rattle.rank_laws.specs.Machine.{start_world}
use Rattle.rank_laws.specs.Whole.{rules_of}
use Rattle.rank_curve_laws.specs.Along.{divided}
use Rattle.rank_field.specs.Fields.{picks_of}
use Rattle.rank_field.specs.Machines.{IsGathered}
use Rattle.rank_field.proofs.Divided.{gone_nowhere, gone_on_among, is_split, played_among}
use Rattle.rank_field.proofs.field.RankFieldForces.force.Goals as goal

pub gather-requires : goal.gather-requires
gather-requires g c =
    let w = divided c.args.bodies.now c.args.self.now.kit.now c.in_ok-owners.owners.items c.in_ok-bounds.bounds in
    let played = c.in_ok-events.ensures.played w (start_world (rules_of w)) c.in_ok-machine.ensures in
    (w, (played.last, played.finished))

pub returns-clause-forces : goal.returns-clause-forces
returns-clause-forces g c =
    let w = divided c.args.bodies.now c.args.self.now.kit.now c.in_ok-owners.owners.items c.in_ok-bounds.bounds in
    let played = c.in_ok-events.ensures.played w (start_world (rules_of w)) c.in_ok-machine.ensures in
    let found : IsGathered w c.in_ok-found.found = c.in_ok-found.ensures w played.last played.finished in
    ap (λ f. f.forces) c.found.view_is ∙ found.forces

pub returns-clause-interactions : goal.returns-clause-interactions
returns-clause-interactions g c =
    let w = divided c.args.bodies.now c.args.self.now.kit.now c.in_ok-owners.owners.items c.in_ok-bounds.bounds in
    let played = c.in_ok-events.ensures.played w (start_world (rules_of w)) c.in_ok-machine.ensures in
    let found : IsGathered w c.in_ok-found.found = c.in_ok-found.ensures w played.last played.finished in
    ap (λ f. f.interactions) c.found.view_is ∙ found.interactions

pub returns-clause-passes : goal.returns-clause-passes
returns-clause-passes g c =
    let w = divided c.args.bodies.now c.args.self.now.kit.now c.in_ok-owners.owners.items c.in_ok-bounds.bounds in
    let split = is_split c.args.self.now.kit.now _ _ _ _ _ _ c.get-ranks.ensures.is c.in_ok-owners.ensures.owners c.deref.ensures.value c.in_ok-bounds.ensures.value in
    let played = c.in_ok-events.ensures.played w (start_world (rules_of w)) c.in_ok-machine.ensures in
    played_among _ _ _ (picks_of g.K.Schedule) _ _ w _ _ split played.played

pub returns-clause-gone_on : goal.returns-clause-gone_on
returns-clause-gone_on g c =
    let w = divided c.args.bodies.now c.args.self.now.kit.now c.in_ok-owners.owners.items c.in_ok-bounds.bounds in
    let split = is_split c.args.self.now.kit.now _ _ _ _ _ _ c.get-ranks.ensures.is c.in_ok-owners.ensures.owners c.deref.ensures.value c.in_ok-bounds.ensures.value in
    gone_on_among _ _ _ (picks_of g.K.Schedule) _ _ w split (c.in_ok-events.ensures.gone_on w (start_world (rules_of w)) c.in_ok-machine.ensures)

pub returns-in_err-found-clause-gone_on : goal.returns-in_err-found-clause-gone_on
returns-in_err-found-clause-gone_on g c =
    let w = divided c.args.bodies.now c.args.self.now.kit.now c.in_ok-owners.owners.items c.in_ok-bounds.bounds in
    let split = is_split c.args.self.now.kit.now _ _ _ _ _ _ c.get-ranks.ensures.is c.in_ok-owners.ensures.owners c.deref.ensures.value c.in_ok-bounds.ensures.value in
    gone_on_among _ _ _ (picks_of g.K.Schedule) _ _ w split (c.in_ok-events.ensures.gone_on w (start_world (rules_of w)) c.in_ok-machine.ensures)

pub returns-in_err-events-clause-gone_on : goal.returns-in_err-events-clause-gone_on
returns-in_err-events-clause-gone_on g c =
    let w = divided c.args.bodies.now c.args.self.now.kit.now c.in_ok-owners.owners.items c.in_ok-bounds.bounds in
    let split = is_split c.args.self.now.kit.now _ _ _ _ _ _ c.get-ranks.ensures.is c.in_ok-owners.ensures.owners c.deref.ensures.value c.in_ok-bounds.ensures.value in
    gone_on_among _ _ _ (picks_of g.K.Schedule) _ _ w split (c.in_err-events.ensures.gone_on w (start_world (rules_of w)) c.in_ok-machine.ensures)

pub returns-in_err-machine-clause-gone_on : goal.returns-in_err-machine-clause-gone_on
returns-in_err-machine-clause-gone_on g c = gone_nowhere c.args.self.now.kit.now c.args.bodies.now c.args.self.now.ranks (picks_of g.K.Schedule) _

pub returns-in_err-bounds-clause-gone_on : goal.returns-in_err-bounds-clause-gone_on
returns-in_err-bounds-clause-gone_on g c = gone_nowhere c.args.self.now.kit.now c.args.bodies.now c.args.self.now.ranks (picks_of g.K.Schedule) _

pub returns-in_err-owners-clause-gone_on : goal.returns-in_err-owners-clause-gone_on
returns-in_err-owners-clause-gone_on g c = gone_nowhere c.args.self.now.kit.now c.args.bodies.now c.args.self.now.ranks (picks_of g.K.Schedule) _
