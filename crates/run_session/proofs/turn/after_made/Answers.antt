use Rattle.std.proofs.Common.{true, subst}
use Rattle.run_session.specs.Courses.{basis_of}
use Rattle.run_session.specs.Turned.{IsMadeIn}
use Rattle.run_session.specs.Worlds.{world_by}
use Rattle.run_session.proofs.turn.after_made.Goals as goal

pub returns-in-Err-clause-err : goal.returns-in-Err-clause-err
returns-in-Err-clause-err g c = λ gr fixed A sessions fs gs m.
    c.in-Err.ensures.err gr fixed A fs sessions true gs
    (subst (IsMadeIn (basis_of gr c.args.course.now (g.S.Store.tells c.args.store.now) A) (g.F.Forces.passes gr fixed) sessions c.args.before (world_by g.S.Store g.Q.Stopper c.args.store.now c.args.stop.now fs)) c.in-Whole.is m)
