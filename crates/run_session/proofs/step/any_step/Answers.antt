use Rattle.std.proofs.Common.{sym, ◌∙◌}
use Rattle.std.specs.Option.{option_copied}
use Rattle.step_engine.specs.Stages.{rules}
use Rattle.step_engine.specs.BaseSteps.{is_known}
use Rattle.run_session.proofs.Stepped.{begins_whole, begins_rest}
use Rattle.run_session.proofs.step.any_step.Goals as goal

pub returns-then-len-eq0-clause-ends : goal.returns-then-len-eq0-clause-ends
returns-then-len-eq0-clause-ends g c = λ plan σ same b d e.
    let gr = g.F.Forces.gravity c.args.forces.now in
    let r = rules gr (option_copied c.args.course.now.expansion) in
    begins_whole gr (g.F.Forces.passes gr (g.F.Forces.fixed c.args.forces.now))
    (record { bodies = c.args.set.now; state = g.F.Forces.state c.args.forces.now; took = g.O.KickOut.took c.args.out.now })
    (record { bodies = c.base_step.new.set; state = g.F.Forces.state c.base_step.new.forces; took = g.O.KickOut.took c.base_step.new.out })
    plan r (is_known c.args.known.now) σ same c.args.course.now.setup.now c.args.set.now c.args.start.now.depth.now c.args.start.now.tick c.base_step.result b d e c.requires.begun.here (sym c.len.ensures ∙ c.if-len-eq0.true) c.base_step.ensures.ends

pub returns-clause-ends : goal.returns-clause-ends
returns-clause-ends g c = λ plan σ same b d e.
    let gr = g.F.Forces.gravity c.args.forces.now in
    let r = rules gr (option_copied c.args.course.now.expansion) in
    begins_rest gr (g.F.Forces.passes gr (g.F.Forces.fixed c.args.forces.now))
    (record { bodies = c.args.set.now; state = g.F.Forces.state c.args.forces.now; took = g.O.KickOut.took c.args.out.now })
    (record { bodies = c.finish_step.new.set; state = g.F.Forces.state c.finish_step.new.forces; took = g.O.KickOut.took c.finish_step.new.out })
    plan r (is_known c.args.known.now) σ same c.args.start.now.depth.now c.args.start.now.tick _ c.finish_step.result d (λ e0. c.if-len-eq0.false (c.len.ensures ∙ e0)) (c.finish_step.ensures.ends σ b d e)
