use Rattle.std.proofs.Common.{false, sym, subst}
use Rattle.nbody_model.specs.Session.{session}
use Rattle.run_session.specs.Courses.{basis_of}
use Rattle.run_session.specs.Turned.{Comes, HasBroken, SyncTurns}
use Rattle.run_session.proofs.Starting.{resumed_comes, begun_comes}
use Rattle.run_session.specs.Worlds.{world_by}
use Rattle.run_session.specs.Causes.{fault_of}
use Rattle.run_session.proofs.session.start.Goals as goal

pub returns-then-resumed-clause-ok : goal.returns-then-resumed-clause-ok
returns-then-resumed-clause-ok g c = λ gr fixed A fs gs m.
    let C = basis_of gr c.args.course.now (g.S.Store.tells c.args.store.now) A in
    let passes = g.F.Forces.passes gr fixed in
    let old = world_by g.S.Store g.Q.Stopper c.args.store.now c.args.stop.now fs in
    subst (λ b. Comes C passes (λ s. session C.plan b s c.args.state) c.args.state false old) (sym c.if-resumed.true) (resumed_comes C passes c.args.state old m)

pub returns-in-Ok-clause-ok : goal.returns-in-Ok-clause-ok
returns-in-Ok-clause-ok g c = λ gr fixed A fs gs m.
    let C = basis_of gr c.args.course.now (g.S.Store.tells c.args.store.now) A in
    let passes = g.F.Forces.passes gr fixed in
    let old = world_by g.S.Store g.Q.Stopper c.args.store.now c.args.stop.now fs in
    let new = world_by g.S.Store g.Q.Stopper c.after_step.new.store c.after_step.new.stop fs in
    subst (λ b. SyncTurns C passes (λ s. session C.plan b s c.args.state) false new c.in-Ok.turn) (sym c.if-resumed.false)
    (c.in-Ok.ensures.ok gr fixed A fs (λ s. session C.plan false s c.args.state) false gs (begun_comes C passes c.args.state old m))

pub returns-in-Err-clause-err : goal.returns-in-Err-clause-err
returns-in-Err-clause-err g c = λ gr fixed A fs gs m.
    let C = basis_of gr c.args.course.now (g.S.Store.tells c.args.store.now) A in
    let passes = g.F.Forces.passes gr fixed in
    let old = world_by g.S.Store g.Q.Stopper c.args.store.now c.args.stop.now fs in
    let new = world_by g.S.Store g.Q.Stopper c.after_step.new.store c.after_step.new.stop fs in
    subst (λ b. HasBroken C passes (λ s. session C.plan b s c.args.state) (fault_of c.in-Err.failure) new) (sym c.if-resumed.false)
    (c.in-Err.ensures.err gr fixed A fs (λ s. session C.plan false s c.args.state) false gs (begun_comes C passes c.args.state old m))
