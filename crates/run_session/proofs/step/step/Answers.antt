use Rattle.std.proofs.Common.{◌≡◌, ◌+◌, ◌*◌, ◌<◌, ◌^◌, [], None, refl, sym, ◌∙◌, subst}
use Rattle.std.specs.Option.{option_copied}
use Rattle.nbody_model.specs.Setups.{SetupData, IsSetup}
use Rattle.nbody_model.specs.States.{StateData}
use Rattle.restart_files.specs.Stored.{IsKept}
use Rattle.step_engine.specs.BaseSteps.{AreKnown, is_known}
use Rattle.run_session.specs.declared.step.Counters.{Counters}
use Rattle.run_session.specs.RunEnds.{plan_of}
use Rattle.run_session.specs.Steps.{CanStep, IsRecorded, state_with, stepped_by}
use Rattle.run_session.proofs.Stepped.{can_step, has_room, whole_made, halt_made, rests_with}
use Rattle.run_session.specs.Worlds.{world}
use Rattle.run_session.proofs.step.step.Goals as goal

pub record_step-log-requires-clause-begun : goal.record_step-log-requires-clause-begun
record_step-log-requires-clause-begun g c =
    let s = c.args.course.now.setup.now in
    let e = option_copied c.args.course.now.expansion in
    let limits = subst IsSetup c.requires.setup c.keeps_setup.ensures in
    subst (λ (σ : StateData). CanStep s e σ.bodies σ.depths σ.tick) (sym c.state.view_is)
    (subst (λ (x : SetupData). CanStep x e c.args.run.state.bodies c.args.run.state.depths c.args.run.state.tick) (sym c.requires.setup) (can_step _ e c.args.run.state limits c.requires.spans c.requires.begun))

pub after_step-requires : goal.after_step-requires
after_step-requires g c =
    let s = c.args.course.now.setup.now in
    let begun = subst (λ (x : SetupData). IsKept x c.args.run.state) (sym c.requires.setup) c.requires.begun in
    subst (λ (σ : StateData). (σ.steps + 1) * 2 ^ s.top_bin < 2 ^ 64) (sym c.state.view_is) (has_room s c.args.run.state c.keeps_setup.ensures begun)

pub made_of-requires : goal.made_of-requires
made_of-requires g c =
    let gr = g.F.Forces.gravity c.args.forces.now in
    let σ = c.args.run.state in
    let plan = plan_of gr (option_copied c.args.course.now.expansion) c.args.course.now.params.now c.args.course.now.outputs.now in
    let passes = g.F.Forces.passes gr (g.F.Forces.fixed c.args.forces.now) in
    let A = world (λ q. None) [] 0 None (g.F.Forces.state c.args.forces.now) (g.Q.Stopper.yes c.args.stop.now) (g.Q.Stopper.left c.args.stop.now) in
    let Z = world (λ q. None) [] 0 None (g.F.Forces.state c.record_step-log.new.forces) (g.Q.Stopper.yes c.record_step-log.new.stop) (g.Q.Stopper.left c.record_step-log.new.stop) in
    let log = c.record_step-log.result.log in
    let B = c.record_step-log.new.set in
    let told = c.record_step-log.ensures.recorded plan σ (λ q. None) [] 0 None refl (λ i. (sym c.state.view_is i).bodies) (λ i. (sym c.state.view_is i).depths) (λ i. (sym c.state.view_is i).tick) in
    rests_with plan c.args.course.now.own.now passes (is_known c.args.run.known) σ B log A Z c.in-Err.end (subst (IsRecorded plan c.args.course.now.own.now passes (is_known c.args.run.known) σ B log A Z) c.in-Err.is told)

pub returns-in-Ok-clause-made : goal.returns-in-Ok-clause-made
returns-in-Ok-clause-made g c = λ f k n l.
    let gr = g.F.Forces.gravity c.args.forces.now in
    let σ = c.args.run.state in
    let was = c.state.inside in
    let counters : Counters = record { steps = was.steps; tick = was.tick; next_snapshot = was.next_snapshot; next_restart = was.next_restart; kicks = was.kicks; interactions = was.interactions } in
    let plan = plan_of gr (option_copied c.args.course.now.expansion) c.args.course.now.params.now c.args.course.now.outputs.now in
    let o = c.args.course.now.own.now in
    let known = is_known c.args.run.known in
    let passes = g.F.Forces.passes gr (g.F.Forces.fixed c.args.forces.now) in
    let A = world f k n l (g.F.Forces.state c.args.forces.now) (g.Q.Stopper.yes c.args.stop.now) (g.Q.Stopper.left c.args.stop.now) in
    let Z = world f k n l (g.F.Forces.state c.record_step-log.new.forces) (g.Q.Stopper.yes c.record_step-log.new.stop) (g.Q.Stopper.left c.record_step-log.new.stop) in
    let log = c.record_step-log.result.log in
    let B = c.record_step-log.new.set in
    let count = c.in-Ok.count in
    let same : c.args.course.now.setup.now ≡ gr.setup = c.requires.setup ∙ sym c.requires.forces.setup in
    let begun = subst (λ (x : SetupData). IsKept x σ) (sym c.requires.forces.setup) c.requires.begun in
    let limits = subst IsSetup same c.keeps_setup.ensures in
    let told = c.record_step-log.ensures.recorded plan σ f k n l refl (λ i. (sym c.state.view_is i).bodies) (λ i. (sym c.state.view_is i).depths) (λ i. (sym c.state.view_is i).tick) in
    whole_made plan o passes known σ B log A Z counters was.set was.depth count _ limits begun c.state.view_is
    (c.state_of-state.ensures ∙ (λ i. state_with B ((c.from_list-none.ensures ∙ c.new.ensures.items) i) ((c.after_step.ensures ∙ (λ j. stepped_by (same j).top_bin count counters)) i)))
    (subst (λ x. AreKnown x gr B c.record_step-log.new.known) c.in-Ok.is c.record_step-log.ensures.known)
    (subst (IsRecorded plan o passes known σ B log A Z) c.in-Ok.is told)

pub returns-in-Some-clause-made : goal.returns-in-Some-clause-made
returns-in-Some-clause-made g c = λ f k n l.
    let gr = g.F.Forces.gravity c.args.forces.now in
    let σ = c.args.run.state in
    let was = c.state.inside in
    let counters : Counters = record { steps = was.steps; tick = was.tick; next_snapshot = was.next_snapshot; next_restart = was.next_restart; kicks = was.kicks; interactions = was.interactions } in
    let plan = plan_of gr (option_copied c.args.course.now.expansion) c.args.course.now.params.now c.args.course.now.outputs.now in
    let o = c.args.course.now.own.now in
    let known = is_known c.args.run.known in
    let passes = g.F.Forces.passes gr (g.F.Forces.fixed c.args.forces.now) in
    let A = world f k n l (g.F.Forces.state c.args.forces.now) (g.Q.Stopper.yes c.args.stop.now) (g.Q.Stopper.left c.args.stop.now) in
    let Z = world f k n l (g.F.Forces.state c.record_step-log.new.forces) (g.Q.Stopper.yes c.record_step-log.new.stop) (g.Q.Stopper.left c.record_step-log.new.stop) in
    let log = c.record_step-log.result.log in
    let B = c.record_step-log.new.set in
    let begun = subst (λ (x : SetupData). IsKept x σ) (sym c.requires.forces.setup) c.requires.begun in
    let told = c.record_step-log.ensures.recorded plan σ f k n l refl (λ i. (sym c.state.view_is i).bodies) (λ i. (sym c.state.view_is i).depths) (λ i. (sym c.state.view_is i).tick) in
    halt_made plan o passes known σ B log A Z counters was.set was.depth c.in-Err.end c.in-Some.made begun c.state.view_is (sym c.made_of.ensures ∙ c.in-Some.is)
    (subst (IsRecorded plan o passes known σ B log A Z) c.in-Err.is told)
