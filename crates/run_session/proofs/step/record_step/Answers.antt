use Rattle.std.proofs.Common.{ap, rules}
use Rattle.nbody_model.specs.Setups.{SetupData}
use Rattle.nbody_model.specs.Tables.{Rules}
use Rattle.step_engine.specs.BaseSteps.{is_known}
use Rattle.run_session.proofs.Stepped.{recorded}
use Rattle.run_session.specs.Worlds.{world}
use Rattle.run_session.proofs.step.record_step.Goals as goal

pub returns-clause-recorded : goal.returns-clause-recorded
returns-clause-recorded g c = λ plan σ f k n l same b d e.
    let gr = g.F.Forces.gravity c.args.forces.now in
    let setup = c.args.course.now.setup.now in
    let old = c.new-recorder.result in
    let new = c.any_step-ended.new.out in
    recorded plan c.args.course.now.own.now (g.F.Forces.passes gr (g.F.Forces.fixed c.args.forces.now)) (is_known c.args.known.now) σ c.any_step-ended.new.set _
    (world f k n l (g.F.Forces.state c.args.forces.now) (g.Q.Stopper.yes c.args.stop.now) (g.Q.Stopper.left c.args.stop.now)) _
    c.any_step-ended.result c.is_traced.result c.is_binned.result c.is_traced.ensures c.is_binned.ensures
    gr setup.top_bin c.args.set.now c.args.start.now.tick old.traced old.binned old.log.now (g.Q.Stopper.left old.stop.now) new.traced new.binned new.log.now (g.Q.Stopper.left new.stop.now) _ _ _ _
    (ap (λ (r : Rules). r.gravity) same) (ap (λ (s : SetupData). s.top_bin) c.requires.forces.setup) b e
    c.new-recorder.ensures.traced c.new-recorder.ensures.binned (search rules) (ap g.Q.Stopper.left c.new-recorder.ensures.stop)
    c.any_step-ended.ensures.same_out (search rules) (search rules)
    (c.any_step-ended.ensures.ends plan σ same b d e) (search rules)
