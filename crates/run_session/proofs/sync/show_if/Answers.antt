use Rattle.std.proofs.Common.{refl, sym, subst, Bool}
use Rattle.nbody_model.specs.Session.{with_snapshot}
use Rattle.nbody_model.specs.States.{StateData}
use Rattle.run_session.specs.Stages.{Matches, IsBrokenIn}
use Rattle.run_session.specs.Courses.{basis_of}
use Rattle.run_session.proofs.Matching.{snapshot_matches, snapshot_breaks}
use Rattle.run_session.specs.Worlds.{store_world}
use Rattle.run_session.specs.Causes.{fault_of}
use Rattle.run_session.proofs.sync.show_if.Goals as goal

pub returns-in-Ok-clause-ok : goal.returns-in-Ok-clause-ok
returns-in-Ok-clause-ok g c = λ gr fixed A fs y l d m.
    let C = basis_of gr c.args.course.now (g.S.Store.tells c.args.store.now) A in
    let passes = g.F.Forces.passes gr fixed in
    let old = store_world g.S.Store c.args.store.now fs y l in
    let new = store_world g.S.Store c.show.new.store fs y l in
    subst (λ (b : Bool). Matches C passes (with_snapshot b d) c.in-Ok.shown new) (sym c.if-due.true)
    (subst (λ (τ : StateData). Matches C passes (with_snapshot Bool.true d) τ new) (sym c.in-Ok.ensures.state)
    (snapshot_matches C passes d c.args.state old new refl c.in-Ok.ensures.cause.faults c.in-Ok.ensures.cause.last refl refl m c.in-Ok.ensures.ok))

pub returns-in-Err-clause-err : goal.returns-in-Err-clause-err
returns-in-Err-clause-err g c = λ gr fixed A fs y l d m.
    let C = basis_of gr c.args.course.now (g.S.Store.tells c.args.store.now) A in
    let passes = g.F.Forces.passes gr fixed in
    let old = store_world g.S.Store c.args.store.now fs y l in
    let new = store_world g.S.Store c.show.new.store fs y l in
    subst (λ (b : Bool). IsBrokenIn C passes (with_snapshot b d) (fault_of c.in-Err.failure) new) (sym c.if-due.true) (snapshot_breaks C passes d c.args.state (fault_of c.in-Err.failure) old new c.in-Err.ensures.fault m c.in-Err.ensures.err)
