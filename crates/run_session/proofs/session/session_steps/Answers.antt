use Rattle.std.proofs.Common.{ℕ, false, Option, refl, sym, ap, subst, option_copied}
use Rattle.nbody_model.specs.Session.{SessionData, session}
use Rattle.run_session.specs.declared.turn.Turn.TheVariants as turns
use Rattle.run_session.specs.RunEnds.{plan_of}
use Rattle.run_session.specs.Courses.{basis_of}
use Rattle.run_session.specs.Turned.{Comes, HasBroken, StepsEnd, SyncTurns}
use Rattle.run_session.proofs.Carrying.{leads_same}
use Rattle.run_session.specs.Worlds.{world_by}
use Rattle.run_session.specs.Causes.{fault_of}
use Rattle.run_session.specs.Sessions.{StartsBy}
use Rattle.step_engine.specs.BaseSteps.{is_known}
use Rattle.run_session.proofs.session.session_steps.Goals as goal

pub returns-in-Err-clause-err : goal.returns-in-Err-clause-err
returns-in-Err-clause-err g c = λ A m. c.in-Err.ensures.err (g.F.Forces.gravity c.args.forces.now) (g.F.Forces.fixed c.args.forces.now) A (g.F.Forces.state c.args.forces.now) c.requires.forces.setup m

pub returns-in-Ok-all_steps-clause-ok : goal.returns-in-Ok-all_steps-clause-ok
returns-in-Ok-all_steps-clause-ok g c = λ A m.
    let gr = g.F.Forces.gravity c.args.forces.now in
    let fx = g.F.Forces.fixed c.args.forces.now in
    let passes = g.F.Forces.passes gr fx in
    let told = g.S.Store.tells c.args.store.now in
    let C = basis_of gr c.args.course.now told A in
    let sessions : Option ℕ → SessionData = λ s. session (plan_of gr (option_copied c.args.course.now.expansion) c.args.course.now.params.now c.args.course.now.outputs.now) c.args.resumed s c.args.state in
    let mid = world_by g.S.Store g.Q.Stopper c.start.new.store c.start.new.stop (g.F.Forces.state c.args.forces.now) in
    let new = world_by g.S.Store g.Q.Stopper c.all_steps.new.store c.all_steps.new.stop (g.F.Forces.state c.all_steps.new.forces) in
    let begun : SyncTurns C passes sessions false mid (turns.On c.in-On.run') = subst (SyncTurns C passes sessions false mid) c.in-On.is (c.in-Ok.ensures.ok gr fx A (g.F.Forces.state c.args.forces.now) c.requires.forces.setup m) in
    let starts : StartsBy c.args.course.now.params.now (turns.On c.in-On.run') = subst (StartsBy c.args.course.now.params.now) c.in-On.is c.in-Ok.ensures.starts in
    leads_same (λ D f ss. StepsEnd D f ss new c.in-Ok-all_steps.turn) g.F.Forces.passes c.args.course.now c.in-On.run'.state (is_known c.in-On.run'.known) mid gr gr fx fx (g.S.Store.tells c.start.new.store) told refl refl c.in-Ok.ensures.tells c.in-Ok-all_steps.ensures.ok A sessions
    (subst (λ b. Comes C passes sessions c.in-On.run'.state b mid) (sym (ap is_known starts.0)) begun)

pub returns-in-Err-all_steps-clause-err : goal.returns-in-Err-all_steps-clause-err
returns-in-Err-all_steps-clause-err g c = λ A m.
    let gr = g.F.Forces.gravity c.args.forces.now in
    let fx = g.F.Forces.fixed c.args.forces.now in
    let passes = g.F.Forces.passes gr fx in
    let told = g.S.Store.tells c.args.store.now in
    let C = basis_of gr c.args.course.now told A in
    let sessions : Option ℕ → SessionData = λ s. session (plan_of gr (option_copied c.args.course.now.expansion) c.args.course.now.params.now c.args.course.now.outputs.now) c.args.resumed s c.args.state in
    let mid = world_by g.S.Store g.Q.Stopper c.start.new.store c.start.new.stop (g.F.Forces.state c.args.forces.now) in
    let new = world_by g.S.Store g.Q.Stopper c.all_steps.new.store c.all_steps.new.stop (g.F.Forces.state c.all_steps.new.forces) in
    let begun : SyncTurns C passes sessions false mid (turns.On c.in-On.run') = subst (SyncTurns C passes sessions false mid) c.in-On.is (c.in-Ok.ensures.ok gr fx A (g.F.Forces.state c.args.forces.now) c.requires.forces.setup m) in
    let starts : StartsBy c.args.course.now.params.now (turns.On c.in-On.run') = subst (StartsBy c.args.course.now.params.now) c.in-On.is c.in-Ok.ensures.starts in
    leads_same (λ D f ss. HasBroken D f ss (fault_of c.in-Err-all_steps.failure) new) g.F.Forces.passes c.args.course.now c.in-On.run'.state (is_known c.in-On.run'.known) mid gr gr fx fx (g.S.Store.tells c.start.new.store) told refl refl c.in-Ok.ensures.tells c.in-Err-all_steps.ensures.err A sessions
    (subst (λ b. Comes C passes sessions c.in-On.run'.state b mid) (sym (ap is_known starts.0)) begun)

pub returns-in-Stopped-clause-ok : goal.returns-in-Stopped-clause-ok
returns-in-Stopped-clause-ok g c = λ A m.
    let gr = g.F.Forces.gravity c.args.forces.now in
    let fx = g.F.Forces.fixed c.args.forces.now in
    let passes = g.F.Forces.passes gr fx in
    let told = g.S.Store.tells c.args.store.now in
    let C = basis_of gr c.args.course.now told A in
    let sessions : Option ℕ → SessionData = λ s. session (plan_of gr (option_copied c.args.course.now.expansion) c.args.course.now.params.now c.args.course.now.outputs.now) c.args.resumed s c.args.state in
    let mid = world_by g.S.Store g.Q.Stopper c.start.new.store c.start.new.stop (g.F.Forces.state c.args.forces.now) in
    subst (SyncTurns C passes sessions false mid) c.in-Stopped.is (c.in-Ok.ensures.ok gr fx A (g.F.Forces.state c.args.forces.now) c.requires.forces.setup m)

pub returns-in-Refused-clause-ok : goal.returns-in-Refused-clause-ok
returns-in-Refused-clause-ok g c = λ A m.
    let gr = g.F.Forces.gravity c.args.forces.now in
    let fx = g.F.Forces.fixed c.args.forces.now in
    let passes = g.F.Forces.passes gr fx in
    let told = g.S.Store.tells c.args.store.now in
    let C = basis_of gr c.args.course.now told A in
    let sessions : Option ℕ → SessionData = λ s. session (plan_of gr (option_copied c.args.course.now.expansion) c.args.course.now.params.now c.args.course.now.outputs.now) c.args.resumed s c.args.state in
    let mid = world_by g.S.Store g.Q.Stopper c.start.new.store c.start.new.stop (g.F.Forces.state c.args.forces.now) in
    absurd (subst (SyncTurns C passes sessions false mid) c.in-Refused.is (c.in-Ok.ensures.ok gr fx A (g.F.Forces.state c.args.forces.now) c.requires.forces.setup m))
