use Rattle.std.proofs.Common.{◌≡◌, not, refl, ap, sym, ◌∙◌, subst, option_copied}
use Rattle.nbody_model.specs.declared.field.Field.{Field}
use Rattle.nbody_model.specs.Bodies.{only}
use Rattle.nbody_model.specs.Setups.{SetupData}
use Rattle.nbody_model.specs.Tables.{Gravity}
use Rattle.nbody_model.specs.Evolve.{Going, ask_if}
use Rattle.kick_drift.specs.Parts.{ids_at, AreAscending}
use Rattle.model_laws.specs.Nests.{ids_of}
use Rattle.step_engine.specs.Told.{AreForcesAmong}
use Rattle.step_engine.specs.Stands.{now}
use Rattle.step_engine.specs.Stages.{rules}
use Rattle.step_engine.specs.BaseSteps.{is_known}
use Rattle.step_engine.proofs.Keeps.{ascending_on}
use Rattle.step_engine.proofs.Leaves.{leads_any}
use Rattle.step_engine.proofs.Closing.{ready_made}
use Rattle.step_engine.proofs.Stepping.{most_of}
use Rattle.step_engine.proofs.Whole.{only_all, all_still, forces_of_all, known_of_all, whole_wants, whole_halts, whole_made}
use Rattle.step_engine.proofs.base.step_whole.Goals as goal

pub returns-in-Err-clause-makes : goal.returns-in-Err-clause-makes
returns-in-Err-clause-makes g c =
    let gr = g.F.Forces.gravity c.args.forces.now in
    let e = option_copied c.args.course.now.expansion in
    let top = c.args.course.now.setup.now.top_bin in
    let t = c.args.tick in
    let B = c.args.set.now in
    let asks = not (is_known c.args.known) in
    let a = now c.args.set.now (g.F.Forces.gravity c.args.forces.now) (g.F.Forces.fixed c.args.forces.now) (g.F.Forces.state c.args.forces.now) (g.O.KickOut.faults c.args.out.now) (g.O.KickOut.yes c.args.out.now) (g.O.KickOut.took c.args.out.now) c.args.work.now in
    whole_wants g.F.Forces.passes {T = Field} (rules gr e) top (ids_of B) t asks a a (leads_any (most_of top) a c.requires.ready.bodies) refl refl

pub first_forces-requires-clause-known : goal.first_forces-requires-clause-known
first_forces-requires-clause-known g c =
    let gr = g.F.Forces.gravity c.args.forces.now in
    let e = option_copied c.args.course.now.expansion in
    let top = c.args.course.now.setup.now.top_bin in
    let t = c.args.tick in
    let B = c.args.set.now in
    let asks = not (is_known c.args.known) in
    let a = now c.args.set.now (g.F.Forces.gravity c.args.forces.now) (g.F.Forces.fixed c.args.forces.now) (g.F.Forces.state c.args.forces.now) (g.O.KickOut.faults c.args.out.now) (g.O.KickOut.yes c.args.out.now) (g.O.KickOut.took c.args.out.now) c.args.work.now in
    let part = c.as_slice-part.result.now in
    let places : AreAscending B part = subst (AreAscending B) (sym c.as_slice-part.ensures.value) c.in-Ok.ensures.places in
    let all : ids_at B part ≡ ids_of B = ap (ids_at B) c.as_slice-part.ensures.value ∙ c.in-Ok.ensures.all in
    let everyone : only B (ids_at B part) ≡ B = only_all B part c.requires.ready.bodies.valid.ascending places all in
    known_of_all c.args.known gr B (only B (ids_at B part)) (sym everyone) c.requires.known

pub returns-in-Err-first_forces-clause-makes : goal.returns-in-Err-first_forces-clause-makes
returns-in-Err-first_forces-clause-makes g c =
    let gr = g.F.Forces.gravity c.args.forces.now in
    let e = option_copied c.args.course.now.expansion in
    let top = c.args.course.now.setup.now.top_bin in
    let t = c.args.tick in
    let B = c.args.set.now in
    let asks = not (is_known c.args.known) in
    let a = now c.args.set.now (g.F.Forces.gravity c.args.forces.now) (g.F.Forces.fixed c.args.forces.now) (g.F.Forces.state c.args.forces.now) (g.O.KickOut.faults c.args.out.now) (g.O.KickOut.yes c.args.out.now) (g.O.KickOut.took c.args.out.now) c.args.work.now in
    let part = c.as_slice-part.result.now in
    let places : AreAscending B part = subst (AreAscending B) (sym c.as_slice-part.ensures.value) c.in-Ok.ensures.places in
    let all : ids_at B part ≡ ids_of B = ap (ids_at B) c.as_slice-part.ensures.value ∙ c.in-Ok.ensures.all in
    let everyone : only B (ids_at B part) ≡ B = only_all B part c.requires.ready.bodies.valid.ascending places all in
    let b = now c.args.set.now (g.F.Forces.gravity c.first_forces.new.forces) (g.F.Forces.fixed c.first_forces.new.forces) (g.F.Forces.state c.first_forces.new.forces) (g.O.KickOut.faults c.first_forces.new.out) (g.O.KickOut.yes c.first_forces.new.out) (g.O.KickOut.took c.first_forces.new.out) c.args.work.now in
    whole_halts g.F.Forces.passes {T = Field} {U = Field} (rules gr e) top (ids_at B part) (ids_of B) t asks c.in-Err-first_forces.e a b all (c.in-Err-first_forces.ensures.makes c.args.work.now top t)

pub evolve-requires-clause-ready : goal.evolve-requires-clause-ready
evolve-requires-clause-ready g c =
    let gr = g.F.Forces.gravity c.args.forces.now in
    let e = option_copied c.args.course.now.expansion in
    let top = c.args.course.now.setup.now.top_bin in
    let t = c.args.tick in
    let B = c.args.set.now in
    let asks = not (is_known c.args.known) in
    let a = now c.args.set.now (g.F.Forces.gravity c.args.forces.now) (g.F.Forces.fixed c.args.forces.now) (g.F.Forces.state c.args.forces.now) (g.O.KickOut.faults c.args.out.now) (g.O.KickOut.yes c.args.out.now) (g.O.KickOut.took c.args.out.now) c.args.work.now in
    let part = c.as_slice-part.result.now in
    let places : AreAscending B part = subst (AreAscending B) (sym c.as_slice-part.ensures.value) c.in-Ok.ensures.places in
    let all : ids_at B part ≡ ids_of B = ap (ids_at B) c.as_slice-part.ensures.value ∙ c.in-Ok.ensures.all in
    let everyone : only B (ids_at B part) ≡ B = only_all B part c.requires.ready.bodies.valid.ascending places all in
    let b = now c.args.set.now (g.F.Forces.gravity c.first_forces.new.forces) (g.F.Forces.fixed c.first_forces.new.forces) (g.F.Forces.state c.first_forces.new.forces) (g.O.KickOut.faults c.first_forces.new.out) (g.O.KickOut.yes c.first_forces.new.out) (g.O.KickOut.took c.first_forces.new.out) c.args.work.now in
    let one = c.in-Ok-first_forces.ensures.makes c.args.work.now top t in
    ready_made g.F.Forces.passes top 0 t t (λ stop p. Going (ask_if asks (ids_at B part) p)) c.in-Ok-first_forces.field c.args.course.now.setup.now c.args.course.now.total a b one c.requires.ready

pub evolve-requires-clause-known : goal.evolve-requires-clause-known
evolve-requires-clause-known g c =
    let gr = g.F.Forces.gravity c.args.forces.now in
    let e = option_copied c.args.course.now.expansion in
    let top = c.args.course.now.setup.now.top_bin in
    let t = c.args.tick in
    let B = c.args.set.now in
    let asks = not (is_known c.args.known) in
    let a = now c.args.set.now (g.F.Forces.gravity c.args.forces.now) (g.F.Forces.fixed c.args.forces.now) (g.F.Forces.state c.args.forces.now) (g.O.KickOut.faults c.args.out.now) (g.O.KickOut.yes c.args.out.now) (g.O.KickOut.took c.args.out.now) c.args.work.now in
    let part = c.as_slice-part.result.now in
    let places : AreAscending B part = subst (AreAscending B) (sym c.as_slice-part.ensures.value) c.in-Ok.ensures.places in
    let all : ids_at B part ≡ ids_of B = ap (ids_at B) c.as_slice-part.ensures.value ∙ c.in-Ok.ensures.all in
    let everyone : only B (ids_at B part) ≡ B = only_all B part c.requires.ready.bodies.valid.ascending places all in
    let b = now c.args.set.now (g.F.Forces.gravity c.first_forces.new.forces) (g.F.Forces.fixed c.first_forces.new.forces) (g.F.Forces.state c.first_forces.new.forces) (g.O.KickOut.faults c.first_forces.new.out) (g.O.KickOut.yes c.first_forces.new.out) (g.O.KickOut.took c.first_forces.new.out) c.args.work.now in
    let one = c.in-Ok-first_forces.ensures.makes c.args.work.now top t in
    record { places = places; forces = subst (λ (x : Gravity). AreForcesAmong x (only B (ids_at B part)) c.in-Ok-first_forces.field) (sym one.gravity) c.in-Ok-first_forces.ensures.forces }

pub returns-clause-forces : goal.returns-clause-forces
returns-clause-forces g c =
    let gr = g.F.Forces.gravity c.args.forces.now in
    let e = option_copied c.args.course.now.expansion in
    let top = c.args.course.now.setup.now.top_bin in
    let t = c.args.tick in
    let B = c.args.set.now in
    let asks = not (is_known c.args.known) in
    let a = now c.args.set.now (g.F.Forces.gravity c.args.forces.now) (g.F.Forces.fixed c.args.forces.now) (g.F.Forces.state c.args.forces.now) (g.O.KickOut.faults c.args.out.now) (g.O.KickOut.yes c.args.out.now) (g.O.KickOut.took c.args.out.now) c.args.work.now in
    let part = c.as_slice-part.result.now in
    let places : AreAscending B part = subst (AreAscending B) (sym c.as_slice-part.ensures.value) c.in-Ok.ensures.places in
    let all : ids_at B part ≡ ids_of B = ap (ids_at B) c.as_slice-part.ensures.value ∙ c.in-Ok.ensures.all in
    let everyone : only B (ids_at B part) ≡ B = only_all B part c.requires.ready.bodies.valid.ascending places all in
    let b = now c.args.set.now (g.F.Forces.gravity c.first_forces.new.forces) (g.F.Forces.fixed c.first_forces.new.forces) (g.F.Forces.state c.first_forces.new.forces) (g.O.KickOut.faults c.first_forces.new.out) (g.O.KickOut.yes c.first_forces.new.out) (g.O.KickOut.took c.first_forces.new.out) c.args.work.now in
    let one = c.in-Ok-first_forces.ensures.makes c.args.work.now top t in
    let two = c.evolve.ensures.makes in
    let S = c.evolve.new.set in
    forces_of_all c.evolve.result (g.F.Forces.gravity c.first_forces.new.forces) gr (only S (ids_at S part)) S one.gravity (only_all S part two.conserved.bodies.valid.ascending (ascending_on B S part two.conserved places) (all_still B S part two.conserved all)) c.evolve.ensures.forces

pub returns-clause-makes : goal.returns-clause-makes
returns-clause-makes g c =
    let gr = g.F.Forces.gravity c.args.forces.now in
    let e = option_copied c.args.course.now.expansion in
    let top = c.args.course.now.setup.now.top_bin in
    let t = c.args.tick in
    let B = c.args.set.now in
    let asks = not (is_known c.args.known) in
    let a = now c.args.set.now (g.F.Forces.gravity c.args.forces.now) (g.F.Forces.fixed c.args.forces.now) (g.F.Forces.state c.args.forces.now) (g.O.KickOut.faults c.args.out.now) (g.O.KickOut.yes c.args.out.now) (g.O.KickOut.took c.args.out.now) c.args.work.now in
    let part = c.as_slice-part.result.now in
    let places : AreAscending B part = subst (AreAscending B) (sym c.as_slice-part.ensures.value) c.in-Ok.ensures.places in
    let all : ids_at B part ≡ ids_of B = ap (ids_at B) c.as_slice-part.ensures.value ∙ c.in-Ok.ensures.all in
    let everyone : only B (ids_at B part) ≡ B = only_all B part c.requires.ready.bodies.valid.ascending places all in
    let b = now c.args.set.now (g.F.Forces.gravity c.first_forces.new.forces) (g.F.Forces.fixed c.first_forces.new.forces) (g.F.Forces.state c.first_forces.new.forces) (g.O.KickOut.faults c.first_forces.new.out) (g.O.KickOut.yes c.first_forces.new.out) (g.O.KickOut.took c.first_forces.new.out) c.args.work.now in
    let one = c.in-Ok-first_forces.ensures.makes c.args.work.now top t in
    let z = now c.evolve.new.set (g.F.Forces.gravity c.evolve.new.forces) (g.F.Forces.fixed c.evolve.new.forces) (g.F.Forces.state c.evolve.new.forces) (g.O.KickOut.faults c.evolve.new.out) (g.O.KickOut.yes c.evolve.new.out) (g.O.KickOut.took c.evolve.new.out) c.evolve.new.work in
    whole_made g.F.Forces.passes {T = Field} {U = Field} e c.setup.inside.top_bin top (ids_at B part) (ids_of B) t asks c.in-Ok-first_forces.field c.evolve.result a b z all (ap (λ (s : SetupData). s.top_bin) c.setup.view_is) one c.evolve.ensures.makes
