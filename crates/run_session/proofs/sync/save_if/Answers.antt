use Rattle.std.proofs.Common.{refl, sym, subst, Bool}
use Rattle.nbody_model.specs.Session.{with_restart}
use Rattle.run_session.specs.Stages.{HasFiles, IsBrokenIn}
use Rattle.run_session.specs.Courses.{basis_of}
use Rattle.run_session.proofs.Matching.{restart_files, restart_breaks}
use Rattle.run_session.specs.Worlds.{store_world}
use Rattle.run_session.specs.Causes.{fault_of}
use Rattle.run_session.proofs.sync.save_if.Goals as goal

pub returns-in-Ok-clause-ok : goal.returns-in-Ok-clause-ok
returns-in-Ok-clause-ok g c = λ gr fixed A fs y l d s h.
    let C = basis_of gr c.args.course.now (g.S.Store.tells c.args.store.now) A in
    let passes = g.F.Forces.passes gr fixed in
    let old = store_world g.S.Store c.args.store.now fs y l in
    let new = store_world g.S.Store c.save.new.store fs y l in
    subst (λ (b : Bool). HasFiles C passes (with_restart b d) new) (sym c.if-kept.true) (restart_files C passes d c.args.state old new refl s h c.in-Ok.ensures.ok)

pub returns-in-Err-clause-err : goal.returns-in-Err-clause-err
returns-in-Err-clause-err g c = λ gr fixed A fs y l d s h.
    let C = basis_of gr c.args.course.now (g.S.Store.tells c.args.store.now) A in
    let passes = g.F.Forces.passes gr fixed in
    let old = store_world g.S.Store c.args.store.now fs y l in
    let new = store_world g.S.Store c.save.new.store fs y l in
    subst (λ (b : Bool). IsBrokenIn C passes (with_restart b d) (fault_of c.in-Err.failure) new) (sym c.if-kept.true) (restart_breaks C passes d c.args.state (fault_of c.in-Err.failure) old new c.in-Err.ensures.fault s h c.in-Err.ensures.err)
