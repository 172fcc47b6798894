use Rattle.std.proofs.Common.{◌≡◌, ◌≤◌, ℕ, Bool, IsTrue, Option, Err, refl, sym, ◌∙◌, subst, option_copied}
use Rattle.nbody_model.specs.States.{StateData}
use Rattle.nbody_model.specs.Session.{SessionData, session}
use Rattle.param_file.specs.Settings.{ParamsData}
use Rattle.nbody_model.specs.Passes.{Passes}
use Rattle.store_io.specs.Causes.{Rose}
use Rattle.run_session.specs.declared.failure.Failure.{Failure}
use Rattle.run_session.specs.declared.failure.Failure.TheVariants as failures
use Rattle.run_session.specs.Causes.{HasFailed, fault_of}
use Rattle.run_session.specs.Own.{AreApart, IsOther, Stands, followed}
use Rattle.run_session.specs.Outputs.{FinishesSome, end_mark, file_name}
use Rattle.run_session.specs.RunEnds.{IsBrokenOff, plan_of}
use Rattle.run_session.specs.Stages.{Matches}
use Rattle.run_session.specs.Courses.{basis_of}
use Rattle.run_session.specs.Sessions.{SessionLeaves, came_to_last, start_session}
use Rattle.run_session.specs.Turned.{HasBroken, StepsEnd}
use Rattle.run_session.proofs.NamesApart.{own_apart, written_other}
use Rattle.run_session.proofs.Ending.{AreKept, finished, not_finished, not_opened, opened_matches, was_broken}
use Rattle.run_session.specs.Worlds.{World, world_by}
use Rattle.run_session.proofs.session.make_session.Goals as goal

-- by its failure
fails_by : (p : ParamsData) (resumed : Bool) (σ : StateData) (passes : Passes) (told : Bool) (sessions : Option ℕ → SessionData) (A Z : World) (before : ℕ) (e : Failure) → before ≡ A.faults → IsBrokenOff p resumed σ passes told sessions (fault_of e) A Z → HasFailed before Z.faults Z.last e → SessionLeaves p resumed σ passes told sessions A Z (Err e)
fails_by p resumed σ passes told sessions A Z before (failures.WriteFault name) same h f = (h, subst (λ n. Rose n Z.faults) same f.0, f.1)
fails_by p resumed σ passes told sessions A Z before failures.Memory same h f = (h, subst (λ n. n ≤ Z.faults) same f)

pub open_own-requires : goal.open_own-requires
open_own-requires g c = subst AreApart (sym c.requires.own) (own_apart c.args.course.now.params.now c.args.resumed c.args.state c.requires.limits)

pub session_steps-requires-clause-others : goal.session_steps-requires-clause-others
session_steps-requires-clause-others g c = λ w. subst (λ o. IsOther o (file_name c.args.course.now.params.now w)) (sym c.requires.own) (written_other c.args.course.now.params.now c.args.resumed c.args.state c.requires.limits w)

pub session_steps-requires-clause-apart : goal.session_steps-requires-clause-apart
session_steps-requires-clause-apart g c = subst AreApart (sym c.requires.own) (own_apart c.args.course.now.params.now c.args.resumed c.args.state c.requires.limits)

pub finish_own-requires-clause-apart : goal.finish_own-requires-clause-apart
finish_own-requires-clause-apart g c = subst AreApart (sym c.requires.own) (own_apart c.args.course.now.params.now c.args.resumed c.args.state c.requires.limits)

pub returns-in-Err-clause-leaves : goal.returns-in-Err-clause-leaves
returns-in-Err-clause-leaves g c =
    let gr = g.F.Forces.gravity c.args.forces.now in
    let fx = g.F.Forces.fixed c.args.forces.now in
    let passes = g.F.Forces.passes gr fx in
    let told = g.S.Store.tells c.args.store.now in
    let p = c.args.course.now.params.now in
    let σ = c.args.state in
    let plan = plan_of gr (option_copied c.args.course.now.expansion) p c.args.course.now.outputs.now in
    let sessions : Option ℕ → SessionData = λ s. session plan c.args.resumed s σ in
    let A = world_by g.S.Store g.Q.Stopper c.args.store.now c.args.stop.now (g.F.Forces.state c.args.forces.now) in
    let C = basis_of gr c.args.course.now told A in
    let kept : AreKept σ sessions = λ s. (c.sessions_conserve.ensures plan c.args.resumed s σ c.requires.bodies).told in
    let Z = world_by g.S.Store g.Q.Stopper c.open_own.new.store c.args.stop.now (g.F.Forces.state c.args.forces.now) in
    fails_by p c.args.resumed σ passes told sessions A Z (g.S.Store.faults c.args.store.now) c.in-Err.failure refl
    (not_opened C passes c.args.resumed σ sessions c.requires.own kept Z Z refl refl refl (fault_of c.in-Err.failure)
    (record { blamed = c.in-Err.ensures.fault; files = c.in-Err.ensures.err; closed = c.in-Err.ensures.closed; state = refl; yes = refl; left = refl })) c.in-Err.ensures.cause

pub returns-in-Err-session_steps-clause-leaves : goal.returns-in-Err-session_steps-clause-leaves
returns-in-Err-session_steps-clause-leaves g c =
    let gr = g.F.Forces.gravity c.args.forces.now in
    let fx = g.F.Forces.fixed c.args.forces.now in
    let passes = g.F.Forces.passes gr fx in
    let told = g.S.Store.tells c.args.store.now in
    let p = c.args.course.now.params.now in
    let σ = c.args.state in
    let plan = plan_of gr (option_copied c.args.course.now.expansion) p c.args.course.now.outputs.now in
    let sessions : Option ℕ → SessionData = λ s. session plan c.args.resumed s σ in
    let A = world_by g.S.Store g.Q.Stopper c.args.store.now c.args.stop.now (g.F.Forces.state c.args.forces.now) in
    let C = basis_of gr c.args.course.now told A in
    let kept : AreKept σ sessions = λ s. (c.sessions_conserve.ensures plan c.args.resumed s σ c.requires.bodies).told in
    let one = world_by g.S.Store g.Q.Stopper c.open_own.new.store c.args.stop.now (g.F.Forces.state c.args.forces.now) in
    let opened : Matches C passes (start_session σ) σ one = opened_matches C passes σ one c.in-Ok.ensures.ok c.in-Ok.ensures.closed c.in-Ok.ensures.cause.faults c.in-Ok.ensures.cause.last refl refl refl in
    let Z = world_by g.S.Store g.Q.Stopper c.session_steps.new.store c.session_steps.new.stop (g.F.Forces.state c.session_steps.new.forces) in
    fails_by p c.args.resumed σ passes told sessions A Z (g.S.Store.faults c.open_own.new.store) c.in-Err-session_steps.failure c.in-Ok.ensures.cause.faults
    (was_broken C passes c.args.resumed σ sessions c.requires.own kept Z Z refl refl refl (fault_of c.in-Err-session_steps.failure)
    (subst (λ b. HasBroken (basis_of gr c.args.course.now b A) passes sessions (fault_of c.in-Err-session_steps.failure) Z) c.in-Ok.ensures.tells (c.in-Err-session_steps.ensures.err A (subst (λ b. Matches (basis_of gr c.args.course.now b A) passes (start_session σ) σ one) (sym c.in-Ok.ensures.tells) opened)))) c.in-Err-session_steps.ensures.cause

pub returns-in-Ok-finish_own-clause-leaves : goal.returns-in-Ok-finish_own-clause-leaves
returns-in-Ok-finish_own-clause-leaves g c =
    let gr = g.F.Forces.gravity c.args.forces.now in
    let fx = g.F.Forces.fixed c.args.forces.now in
    let passes = g.F.Forces.passes gr fx in
    let told = g.S.Store.tells c.args.store.now in
    let p = c.args.course.now.params.now in
    let σ = c.args.state in
    let plan = plan_of gr (option_copied c.args.course.now.expansion) p c.args.course.now.outputs.now in
    let sessions : Option ℕ → SessionData = λ s. session plan c.args.resumed s σ in
    let A = world_by g.S.Store g.Q.Stopper c.args.store.now c.args.stop.now (g.F.Forces.state c.args.forces.now) in
    let C = basis_of gr c.args.course.now told A in
    let kept : AreKept σ sessions = λ s. (c.sessions_conserve.ensures plan c.args.resumed s σ c.requires.bodies).told in
    let one = world_by g.S.Store g.Q.Stopper c.open_own.new.store c.args.stop.now (g.F.Forces.state c.args.forces.now) in
    let opened : Matches C passes (start_session σ) σ one = opened_matches C passes σ one c.in-Ok.ensures.ok c.in-Ok.ensures.closed c.in-Ok.ensures.cause.faults c.in-Ok.ensures.cause.last refl refl refl in
    let two = world_by g.S.Store g.Q.Stopper c.session_steps.new.store c.session_steps.new.stop (g.F.Forces.state c.session_steps.new.forces) in
    let Z = world_by g.S.Store g.Q.Stopper c.finish_own.new.store c.session_steps.new.stop (g.F.Forces.state c.session_steps.new.forces) in
    let tells : g.S.Store.tells c.session_steps.new.store ≡ told = c.in-Ok-session_steps.ensures.tells ∙ c.in-Ok.ensures.tells in
    let done : c.is_done.result ≡ came_to_last c.in-Ok-session_steps.turn = c.is_done.ensures in
    let ended : StepsEnd C passes sessions two c.in-Ok-session_steps.turn = subst (λ b. StepsEnd (basis_of gr c.args.course.now b A) passes sessions two c.in-Ok-session_steps.turn) c.in-Ok.ensures.tells (c.in-Ok-session_steps.ensures.ok A (subst (λ b. Matches (basis_of gr c.args.course.now b A) passes (start_session σ) σ one) (sym c.in-Ok.ensures.tells) opened)) in
    finished C passes c.args.resumed σ sessions c.requires.own kept two Z refl refl refl c.in-Ok-session_steps.turn ended
    (λ u W h stands. subst (λ b. Stands C.own (followed u (end_mark b)) W Z.files) done (c.in-Ok-finish_own.ensures.ok u W (subst IsTrue (sym tells) h) stands))
    (λ h. c.in-Ok-finish_own.ensures.closed (subst IsTrue (sym tells) h)) c.in-Ok-finish_own.ensures.cause.faults c.in-Ok-finish_own.ensures.cause.last

pub returns-in-Err-finish_own-clause-leaves : goal.returns-in-Err-finish_own-clause-leaves
returns-in-Err-finish_own-clause-leaves g c =
    let gr = g.F.Forces.gravity c.args.forces.now in
    let fx = g.F.Forces.fixed c.args.forces.now in
    let passes = g.F.Forces.passes gr fx in
    let told = g.S.Store.tells c.args.store.now in
    let p = c.args.course.now.params.now in
    let σ = c.args.state in
    let plan = plan_of gr (option_copied c.args.course.now.expansion) p c.args.course.now.outputs.now in
    let sessions : Option ℕ → SessionData = λ s. session plan c.args.resumed s σ in
    let A = world_by g.S.Store g.Q.Stopper c.args.store.now c.args.stop.now (g.F.Forces.state c.args.forces.now) in
    let C = basis_of gr c.args.course.now told A in
    let kept : AreKept σ sessions = λ s. (c.sessions_conserve.ensures plan c.args.resumed s σ c.requires.bodies).told in
    let one = world_by g.S.Store g.Q.Stopper c.open_own.new.store c.args.stop.now (g.F.Forces.state c.args.forces.now) in
    let opened : Matches C passes (start_session σ) σ one = opened_matches C passes σ one c.in-Ok.ensures.ok c.in-Ok.ensures.closed c.in-Ok.ensures.cause.faults c.in-Ok.ensures.cause.last refl refl refl in
    let two = world_by g.S.Store g.Q.Stopper c.session_steps.new.store c.session_steps.new.stop (g.F.Forces.state c.session_steps.new.forces) in
    let Z = world_by g.S.Store g.Q.Stopper c.finish_own.new.store c.session_steps.new.stop (g.F.Forces.state c.session_steps.new.forces) in
    let tells : g.S.Store.tells c.session_steps.new.store ≡ told = c.in-Ok-session_steps.ensures.tells ∙ c.in-Ok.ensures.tells in
    let done : c.is_done.result ≡ came_to_last c.in-Ok-session_steps.turn = c.is_done.ensures in
    let ended : StepsEnd C passes sessions two c.in-Ok-session_steps.turn = subst (λ b. StepsEnd (basis_of gr c.args.course.now b A) passes sessions two c.in-Ok-session_steps.turn) c.in-Ok.ensures.tells (c.in-Ok-session_steps.ensures.ok A (subst (λ b. Matches (basis_of gr c.args.course.now b A) passes (start_session σ) σ one) (sym c.in-Ok.ensures.tells) opened)) in
    fails_by p c.args.resumed σ passes told sessions A Z (g.S.Store.faults c.session_steps.new.store) c.in-Err-finish_own.failure (c.in-Ok-session_steps.ensures.cause.faults ∙ c.in-Ok.ensures.cause.faults)
    (not_finished C passes c.args.resumed σ sessions c.requires.own kept two Z refl refl refl c.in-Ok-session_steps.turn (fault_of c.in-Err-finish_own.failure) ended
    (subst (λ b. FinishesSome C.own b told (fault_of c.in-Err-finish_own.failure) two.files Z.files two.closed Z.closed) done
    (subst (λ b. FinishesSome C.own c.is_done.result b (fault_of c.in-Err-finish_own.failure) two.files Z.files two.closed Z.closed) tells c.in-Err-finish_own.ensures.err))) c.in-Err-finish_own.ensures.cause
