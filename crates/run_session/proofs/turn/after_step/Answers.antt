use Rattle.std.proofs.Common.{subst, ap}
use Rattle.nbody_model.specs.Evolve.{is_empty}
use Rattle.run_session.specs.Stages.{SyncEnds}
use Rattle.run_session.specs.Courses.{basis_of}
use Rattle.run_session.proofs.Turning.{syncs_on, syncs_stop, syncs_break}
use Rattle.run_session.specs.Worlds.{world_by}
use Rattle.run_session.specs.Causes.{fault_of}
use Rattle.run_session.proofs.turn.after_step.Goals as goal

pub returns-in-Err-clause-err : goal.returns-in-Err-clause-err
returns-in-Err-clause-err g c = λ gr fixed A fs sessions known gs comes.
    let C = basis_of gr c.args.course.now (g.S.Store.tells c.args.store.now) A in
    let passes = g.F.Forces.passes gr fixed in
    let old = world_by g.S.Store g.Q.Stopper c.args.store.now c.args.stop.now fs in
    let new = world_by g.S.Store g.Q.Stopper c.synchronise.new.store c.synchronise.new.stop fs in
    let broken = c.in-Err.ensures.err in
    syncs_break C passes sessions c.args.before c.args.run.state c.args.run.state known old new comes broken.0 (fault_of c.in-Err.failure) (λ d m. broken.1 gr fixed A fs d gs m)

pub returns-then-stops-clause-ok : goal.returns-then-stops-clause-ok
returns-then-stops-clause-ok g c = λ gr fixed A fs sessions known gs comes.
    let C = basis_of gr c.args.course.now (g.S.Store.tells c.args.store.now) A in
    let passes = g.F.Forces.passes gr fixed in
    let old = world_by g.S.Store g.Q.Stopper c.args.store.now c.args.stop.now fs in
    let new = world_by g.S.Store g.Q.Stopper c.synchronise.new.store c.synchronise.new.stop fs in
    syncs_stop C passes sessions c.args.before c.args.run.state c.in-Ok.done.0 known old new comes
    (λ d m. subst (λ b. SyncEnds C passes c.args.before d c.in-Ok.done.0 b new) c.if-stops.true (c.in-Ok.ensures.ok gr fixed A fs d gs m)) c.in-Ok.ensures.times

pub returns-clause-ok : goal.returns-clause-ok
returns-clause-ok g c = λ gr fixed A fs sessions known gs comes.
    let C = basis_of gr c.args.course.now (g.S.Store.tells c.args.store.now) A in
    let passes = g.F.Forces.passes gr fixed in
    let old = world_by g.S.Store g.Q.Stopper c.args.store.now c.args.stop.now fs in
    let new = world_by g.S.Store g.Q.Stopper c.synchronise.new.store c.synchronise.new.stop fs in
    syncs_on C passes sessions c.args.before c.args.run.state c.in-Ok.done.0 known old new comes
    (λ d m. subst (λ b. SyncEnds C passes c.args.before d c.in-Ok.done.0 b new) c.if-stops.false (c.in-Ok.ensures.ok gr fixed A fs d gs m)) c.in-Ok.ensures.times (ap is_empty c.requires.flat)
