use Rattle.std.proofs.Common.{refl}
use Rattle.run_session.specs.Courses.{basis_of}
use Rattle.run_session.proofs.Turning.{rest_saved, rest_cut}
use Rattle.run_session.specs.Worlds.{store_world}
use Rattle.run_session.specs.Causes.{fault_of}
use Rattle.run_session.proofs.turn.save_rest.Goals as goal

pub returns-in-Ok-clause-ok : goal.returns-in-Ok-clause-ok
returns-in-Ok-clause-ok g c = λ gr fixed A sessions fs y l r.
    let C = basis_of gr c.args.course.now (g.S.Store.tells c.args.store.now) A in
    let old = store_world g.S.Store c.args.store.now fs y l in
    let new = store_world g.S.Store c.save.new.store fs y l in
    rest_saved C (g.F.Forces.passes gr fixed) sessions c.args.state old new r c.in-Ok.saved c.in-Ok.ensures.state refl c.in-Ok.ensures.cause.faults c.in-Ok.ensures.cause.last refl c.in-Ok.ensures.ok

pub returns-in-Err-clause-err : goal.returns-in-Err-clause-err
returns-in-Err-clause-err g c = λ gr fixed A sessions fs y l r.
    let C = basis_of gr c.args.course.now (g.S.Store.tells c.args.store.now) A in
    let old = store_world g.S.Store c.args.store.now fs y l in
    let new = store_world g.S.Store c.save.new.store fs y l in
    rest_cut C (g.F.Forces.passes gr fixed) sessions c.args.state old new r (fault_of c.in-Err.failure) c.in-Err.ensures.fault refl c.in-Err.ensures.err
