use Rattle.std.proofs.Common.{List, [], ◌≡◌, ◌<◌, ◌*◌, ◌^◌, ℕ, Option, Result, Ok, Err, refl, sym, ap, ◌∙◌, subst, arith, option_copied}
use Rattle.std.specs.Prelude.{IfErr, IfOk, OnOk}
use Rattle.nbody_model.specs.Setups.{SetupData}
use Rattle.nbody_model.specs.Session.{SessionData}
use Rattle.step_engine.specs.BaseSteps.{is_known}
use Rattle.run_session.specs.RunEnds.{plan_of}
use Rattle.run_session.specs.Stages.{KeepsOwn}
use Rattle.run_session.specs.Causes.{fault_of}
use Rattle.run_session.specs.Courses.{basis_of}
use Rattle.run_session.specs.Promises.{BreaksFrom, FollowBreaks, Follows, TakesTurn}
use Rattle.run_session.specs.Spans.{span_by, stop_span}
use Rattle.run_session.specs.Turned.{Comes, FollowsMade, GoesLater, HasBroken, IsMadeIn, AreStanding, TurnEnds}
use Rattle.run_session.proofs.Taking.{begins_early, made_in, made_breaks, none_breaks, can_follow, goes_later, made_at, stands_on}
use Rattle.nbody_model.specs.Tables.{Gravity}
use Rattle.param_file.specs.Settings.{setup_of}
use Rattle.run_session.specs.Worlds.{World, world_by}
use Rattle.run_session.proofs.turn.take_turn.Goals as goal

-- what holds of an answer holds so of it
on_ok_by : {T E : Type 0} (r : Result T E) (P Q : T → Type 0) → ((t : T) → P t → Q t) → IfOk r P → IfOk r Q
on_ok_by (Ok t) P Q f h = f t h
on_ok_by (Err e) P Q f h = tt

on_ok_only : {T E : Type 0} (r : Result T E) (P Q : Type 0) → (P → Q) → OnOk r P → OnOk r Q
on_ok_only (Ok t) P Q f h = f h
on_ok_only (Err e) P Q f h = tt

on_err_by : {T E : Type 0} (r : Result T E) (P Q : E → Type 0) → ((e : E) → P e → Q e) → IfErr r P → IfErr r Q
on_err_by (Ok t) P Q f h = tt
on_err_by (Err e) P Q f h = f e h

pub last_sync-before-requires : goal.last_sync-before-requires
last_sync-before-requires g c =
    let p = c.args.course.now.params.now in
    let e = begins_early p c.args.run.state c.requires.limits c.requires.begun in
    let s : c.args.course.now.setup.now.top_bin ≡ p.top_bin = ap (λ (s : SetupData). s.top_bin) c.requires.setup in
    subst (λ b. c.args.run.state.steps * 2 ^ b < 2 ^ 63) (sym s) (omega (arith, e))

pub returns-in-Err-clause-err : goal.returns-in-Err-clause-err
returns-in-Err-clause-err g c = λ A sessions comes.
    let gr = g.F.Forces.gravity c.args.forces.now in
    let passes = g.F.Forces.passes gr (g.F.Forces.fixed c.args.forces.now) in
    let p = c.args.course.now.params.now in
    let σ = c.args.run.state in
    let known = is_known c.args.run.known in
    let C = basis_of gr c.args.course.now (g.S.Store.tells c.args.store.now) A in
    let old = world_by g.S.Store g.Q.Stopper c.args.store.now c.args.stop.now (g.F.Forces.state c.args.forces.now) in
    let new = world_by g.S.Store g.Q.Stopper c.args.store.now c.step.new.stop (g.F.Forces.state c.step.new.forces) in
    subst (λ e. HasBroken C passes sessions (fault_of e) new) (sym c.in-Err.ensures.err)
    (none_breaks C passes sessions p σ known (record { kicks = []; trace = []; bins = [] }) old new refl c.requires.forces.setup c.requires.limits c.requires.begun comes refl refl c.in-Err.ensures.quiet)

pub returns-in-Err-append_own-clause-err : goal.returns-in-Err-append_own-clause-err
returns-in-Err-append_own-clause-err g c = λ A sessions comes.
    let gr = g.F.Forces.gravity c.args.forces.now in
    let passes = g.F.Forces.passes gr (g.F.Forces.fixed c.args.forces.now) in
    let p = c.args.course.now.params.now in
    let σ = c.args.run.state in
    let known = is_known c.args.run.known in
    let C = basis_of gr c.args.course.now (g.S.Store.tells c.args.store.now) A in
    let old = world_by g.S.Store g.Q.Stopper c.args.store.now c.args.stop.now (g.F.Forces.state c.args.forces.now) in
    let new = world_by g.S.Store g.Q.Stopper c.append_own.new.store c.step.new.stop (g.F.Forces.state c.step.new.forces) in
    made_breaks C passes sessions p σ known c.in-Ok.stepped.log old new refl c.requires.forces.setup c.requires.limits c.requires.begun comes (fault_of c.in-Err-append_own.failure) c.in-Err-append_own.ensures.fault c.in-Ok.stepped.made
    (made_at C.plan c.args.course.now.own.now passes known σ c.in-Ok.stepped.log (g.S.Store.file c.args.store.now) (g.S.Store.file c.args.store.now) (g.S.Store.file c.append_own.new.store) (g.S.Store.closed c.args.store.now) (g.S.Store.closed c.args.store.now) (g.S.Store.closed c.append_own.new.store) (g.S.Store.faults c.args.store.now) (g.S.Store.faults c.args.store.now) (g.S.Store.faults c.append_own.new.store) (g.S.Store.last c.args.store.now) (g.S.Store.last c.args.store.now) (g.S.Store.last c.append_own.new.store) (g.F.Forces.state c.args.forces.now) (g.F.Forces.state c.step.new.forces) (g.Q.Stopper.yes c.args.stop.now) (g.Q.Stopper.yes c.step.new.stop) (g.Q.Stopper.left c.args.stop.now) (g.Q.Stopper.left c.step.new.stop) c.in-Ok.stepped.made
    (c.in-Ok.ensures.made (g.S.Store.file c.args.store.now) (g.S.Store.closed c.args.store.now) (g.S.Store.faults c.args.store.now) (g.S.Store.last c.args.store.now))) c.in-Err-append_own.ensures.closed c.in-Err-append_own.ensures.err

pub after_made-requires-clause-before : goal.after_made-requires-clause-before
after_made-requires-clause-before g c =
    let p = c.args.course.now.params.now in
    let e = begins_early p c.args.run.state c.requires.limits c.requires.begun in
    let s : c.args.course.now.setup.now.top_bin ≡ p.top_bin = ap (λ (s : SetupData). s.top_bin) c.requires.setup in
    let h : c.last_sync-before.result ≡ c.args.run.state.steps * 2 ^ p.top_bin = c.last_sync-before.ensures ∙ ap (λ b. c.args.run.state.steps * 2 ^ b) s in
    omega (arith, e, h)

pub after_made-requires-clause-made : goal.after_made-requires-clause-made
after_made-requires-clause-made g c =
    let gr = g.F.Forces.gravity c.args.forces.now in
    let passes = g.F.Forces.passes gr (g.F.Forces.fixed c.args.forces.now) in
    let plan = plan_of gr (option_copied c.args.course.now.expansion) c.args.course.now.params.now c.args.course.now.outputs.now in
    let old = world_by g.S.Store g.Q.Stopper c.args.store.now c.args.stop.now (g.F.Forces.state c.args.forces.now) in
    let new = world_by g.S.Store g.Q.Stopper c.args.store.now c.step.new.stop (g.F.Forces.state c.step.new.forces) in
    can_follow plan c.args.course.now.own.now passes c.args.course.now.params.now c.args.run.state (is_known c.args.run.known) c.in-Ok.stepped.log old new c.requires.forces.setup c.requires.limits c.requires.begun c.in-Ok.stepped.made
    (c.in-Ok.ensures.made (g.S.Store.file c.args.store.now) (g.S.Store.closed c.args.store.now) (g.S.Store.faults c.args.store.now) (g.S.Store.last c.args.store.now))

pub returns-clause-keeps : goal.returns-clause-keeps
returns-clause-keeps g c = on_ok_only c.after_made.result (KeepsOwn c.args.course.now.own.now (g.S.Store.tells c.append_own.new.store) (g.S.Store.file c.append_own.new.store) (g.S.Store.file c.after_made.new.store)) (AreStanding c.args.course.now.own.now (g.S.Store.tells c.args.store.now) (g.S.Store.file c.after_made.new.store))
    (λ k. stands_on c.args.course.now.own.now (g.S.Store.tells c.args.store.now) c.in-Ok.stepped.log (g.S.Store.file c.args.store.now) (g.S.Store.file c.append_own.new.store) (g.S.Store.file c.after_made.new.store) c.requires.there c.in-Ok-append_own.ensures.ok
    (subst (λ b. KeepsOwn c.args.course.now.own.now b (g.S.Store.file c.append_own.new.store) (g.S.Store.file c.after_made.new.store)) c.in-Ok-append_own.ensures.tells k)) c.after_made.ensures.keeps

pub returns-clause-later : goal.returns-clause-later
returns-clause-later g c =
    let gr = g.F.Forces.gravity c.args.forces.now in
    let passes = g.F.Forces.passes gr (g.F.Forces.fixed c.args.forces.now) in
    let p = c.args.course.now.params.now in
    let plan = plan_of gr (option_copied c.args.course.now.expansion) p c.args.course.now.outputs.now in
    let old = world_by g.S.Store g.Q.Stopper c.args.store.now c.args.stop.now (g.F.Forces.state c.args.forces.now) in
    let new = world_by g.S.Store g.Q.Stopper c.args.store.now c.step.new.stop (g.F.Forces.state c.step.new.forces) in
    on_ok_by c.after_made.result (FollowsMade c.in-Ok.stepped.made) (GoesLater gr p c.args.run.state.tick)
    (λ t f. goes_later plan c.args.course.now.own.now passes p c.args.run.state (is_known c.args.run.known) c.in-Ok.stepped.log old new c.requires.forces.setup c.requires.limits c.requires.begun c.in-Ok.stepped.made t
    (c.in-Ok.ensures.made (g.S.Store.file c.args.store.now) (g.S.Store.closed c.args.store.now) (g.S.Store.faults c.args.store.now) (g.S.Store.last c.args.store.now)) f) c.after_made.ensures.same

pub returns-clause-ok : goal.returns-clause-ok
returns-clause-ok g c =
    let gr = g.F.Forces.gravity c.args.forces.now in
    let fixed = g.F.Forces.fixed c.args.forces.now in
    let passes = g.F.Forces.passes gr fixed in
    let p = c.args.course.now.params.now in
    let σ = c.args.run.state in
    let known = is_known c.args.run.known in
    let before = c.last_sync-before.result in
    let old = world_by g.S.Store g.Q.Stopper c.args.store.now c.args.stop.now (g.F.Forces.state c.args.forces.now) in
    let mid = world_by g.S.Store g.Q.Stopper c.append_own.new.store c.step.new.stop (g.F.Forces.state c.step.new.forces) in
    let new = world_by g.S.Store g.Q.Stopper c.after_made.new.store c.after_made.new.stop (g.F.Forces.state c.step.new.forces) in
    let same : before ≡ σ.steps * 2 ^ p.top_bin = c.last_sync-before.ensures ∙ ap (λ (s : SetupData). σ.steps * 2 ^ s.top_bin) c.requires.setup in
    on_ok_by c.after_made.result
    (Follows c.args.course.now before c.in-Ok.stepped.made (stop_span g.F.Forces g.S.Store g.Q.Stopper c.append_own.new.store c.step.new.stop c.after_made.new.store c.after_made.new.stop))
    (TakesTurn c.args.course.now c.args.run (span_by g.F.Forces g.S.Store g.Q.Stopper c.args.forces.now c.args.store.now c.args.stop.now c.step.new.forces c.after_made.new.store c.after_made.new.stop))
    (λ t k A sessions comes.
    let C = basis_of gr c.args.course.now (g.S.Store.tells c.args.store.now) A in
    let m = subst (λ b. IsMadeIn C passes sessions b mid c.in-Ok.stepped.made) (sym same)
    (made_in C passes sessions p σ known c.in-Ok.stepped.log old mid refl c.requires.forces.setup c.requires.limits c.requires.begun comes c.in-Ok.stepped.made (made_at C.plan c.args.course.now.own.now passes known σ c.in-Ok.stepped.log (g.S.Store.file c.args.store.now) (g.S.Store.file c.args.store.now) (g.S.Store.file c.append_own.new.store) (g.S.Store.closed c.args.store.now) (g.S.Store.closed c.args.store.now) (g.S.Store.closed c.append_own.new.store) (g.S.Store.faults c.args.store.now) (g.S.Store.faults c.args.store.now) (g.S.Store.faults c.append_own.new.store) (g.S.Store.last c.args.store.now) (g.S.Store.last c.args.store.now) (g.S.Store.last c.append_own.new.store) (g.F.Forces.state c.args.forces.now) (g.F.Forces.state c.step.new.forces) (g.Q.Stopper.yes c.args.stop.now) (g.Q.Stopper.yes c.step.new.stop) (g.Q.Stopper.left c.args.stop.now) (g.Q.Stopper.left c.step.new.stop) c.in-Ok.stepped.made
    (c.in-Ok.ensures.made (g.S.Store.file c.args.store.now) (g.S.Store.closed c.args.store.now) (g.S.Store.faults c.args.store.now) (g.S.Store.last c.args.store.now))) c.in-Ok-append_own.ensures.closed c.in-Ok-append_own.ensures.ok c.in-Ok-append_own.ensures.cause.faults c.in-Ok-append_own.ensures.cause.last) in
    subst (λ b. TurnEnds (basis_of gr c.args.course.now b A) passes sessions new t) c.in-Ok-append_own.ensures.tells
    (k gr fixed A sessions (g.F.Forces.state c.step.new.forces) c.requires.forces.setup (subst (λ b. IsMadeIn (basis_of gr c.args.course.now b A) passes sessions before mid c.in-Ok.stepped.made) (sym c.in-Ok-append_own.ensures.tells) m))) c.after_made.ensures.ok

pub returns-clause-err : goal.returns-clause-err
returns-clause-err g c =
    let gr = g.F.Forces.gravity c.args.forces.now in
    let fixed = g.F.Forces.fixed c.args.forces.now in
    let passes = g.F.Forces.passes gr fixed in
    let p = c.args.course.now.params.now in
    let σ = c.args.run.state in
    let known = is_known c.args.run.known in
    let before = c.last_sync-before.result in
    let old = world_by g.S.Store g.Q.Stopper c.args.store.now c.args.stop.now (g.F.Forces.state c.args.forces.now) in
    let mid = world_by g.S.Store g.Q.Stopper c.append_own.new.store c.step.new.stop (g.F.Forces.state c.step.new.forces) in
    let new = world_by g.S.Store g.Q.Stopper c.after_made.new.store c.after_made.new.stop (g.F.Forces.state c.step.new.forces) in
    let same : before ≡ σ.steps * 2 ^ p.top_bin = c.last_sync-before.ensures ∙ ap (λ (s : SetupData). σ.steps * 2 ^ s.top_bin) c.requires.setup in
    on_err_by c.after_made.result (FollowBreaks c.args.course.now before c.in-Ok.stepped.made (stop_span g.F.Forces g.S.Store g.Q.Stopper c.append_own.new.store c.step.new.stop c.after_made.new.store c.after_made.new.stop))
    (BreaksFrom c.args.course.now c.args.run (span_by g.F.Forces g.S.Store g.Q.Stopper c.args.forces.now c.args.store.now c.args.stop.now c.step.new.forces c.after_made.new.store c.after_made.new.stop))
    (λ e k A sessions comes.
    let C = basis_of gr c.args.course.now (g.S.Store.tells c.args.store.now) A in
    let m = subst (λ b. IsMadeIn C passes sessions b mid c.in-Ok.stepped.made) (sym same)
    (made_in C passes sessions p σ known c.in-Ok.stepped.log old mid refl c.requires.forces.setup c.requires.limits c.requires.begun comes c.in-Ok.stepped.made (made_at C.plan c.args.course.now.own.now passes known σ c.in-Ok.stepped.log (g.S.Store.file c.args.store.now) (g.S.Store.file c.args.store.now) (g.S.Store.file c.append_own.new.store) (g.S.Store.closed c.args.store.now) (g.S.Store.closed c.args.store.now) (g.S.Store.closed c.append_own.new.store) (g.S.Store.faults c.args.store.now) (g.S.Store.faults c.args.store.now) (g.S.Store.faults c.append_own.new.store) (g.S.Store.last c.args.store.now) (g.S.Store.last c.args.store.now) (g.S.Store.last c.append_own.new.store) (g.F.Forces.state c.args.forces.now) (g.F.Forces.state c.step.new.forces) (g.Q.Stopper.yes c.args.stop.now) (g.Q.Stopper.yes c.step.new.stop) (g.Q.Stopper.left c.args.stop.now) (g.Q.Stopper.left c.step.new.stop) c.in-Ok.stepped.made
    (c.in-Ok.ensures.made (g.S.Store.file c.args.store.now) (g.S.Store.closed c.args.store.now) (g.S.Store.faults c.args.store.now) (g.S.Store.last c.args.store.now))) c.in-Ok-append_own.ensures.closed c.in-Ok-append_own.ensures.ok c.in-Ok-append_own.ensures.cause.faults c.in-Ok-append_own.ensures.cause.last) in
    subst (λ b. HasBroken (basis_of gr c.args.course.now b A) passes sessions (fault_of e) new) c.in-Ok-append_own.ensures.tells
    (k gr fixed A sessions (g.F.Forces.state c.step.new.forces) c.requires.forces.setup (subst (λ b. IsMadeIn (basis_of gr c.args.course.now b A) passes sessions before mid c.in-Ok.stepped.made) (sym c.in-Ok-append_own.ensures.tells) m))) c.after_made.ensures.err
