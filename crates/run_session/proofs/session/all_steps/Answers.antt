use Rattle.std.proofs.Common.{sym, ap, subst}
use Rattle.step_engine.specs.BaseSteps.{is_known}
use Rattle.run_session.specs.declared.turn.Turn.TheVariants as turns
use Rattle.run_session.specs.Courses.{basis_of}
use Rattle.run_session.specs.Turned.{Comes, GoesLater, HasBroken, StepsEnd, TurnEnds}
use Rattle.run_session.proofs.Carrying.{leads_same}
use Rattle.run_session.specs.Worlds.{world_by}
use Rattle.run_session.specs.Causes.{fault_of}
use Rattle.run_session.proofs.session.all_steps.Goals as goal

pub returns-in-Ok-whole_steps-clause-ok : goal.returns-in-Ok-whole_steps-clause-ok
returns-in-Ok-whole_steps-clause-ok g c = λ A sessions h.
    let gr = g.F.Forces.gravity c.args.forces.now in
    let fx = g.F.Forces.fixed c.args.forces.now in
    let passes = g.F.Forces.passes gr fx in
    let told = g.S.Store.tells c.args.store.now in
    let C = basis_of gr c.args.course.now told A in
    let mid = world_by g.S.Store g.Q.Stopper c.take_turn.new.store c.take_turn.new.stop (g.F.Forces.state c.take_turn.new.forces) in
    let new = world_by g.S.Store g.Q.Stopper c.whole_steps-in-On.new.store c.whole_steps-in-On.new.stop (g.F.Forces.state c.whole_steps-in-On.new.forces) in
    let turned : TurnEnds C passes sessions mid (turns.On c.in-On.next) = subst (TurnEnds C passes sessions mid) c.in-On.is (c.in-Ok-take_turn.ensures.ok A sessions h) in
    let later : GoesLater gr c.args.course.now.params.now c.args.run.state.tick (turns.On c.in-On.next) = subst (GoesLater gr c.args.course.now.params.now c.args.run.state.tick) c.in-On.is c.in-Ok-take_turn.ensures.later in
    leads_same (λ D f ss. StepsEnd D f ss new c.in-Ok-whole_steps.turn) g.F.Forces.passes c.args.course.now c.in-On.next.state (is_known c.in-On.next.known) mid (g.F.Forces.gravity c.take_turn.new.forces) gr (g.F.Forces.fixed c.take_turn.new.forces) fx (g.S.Store.tells c.take_turn.new.store) told
    c.in-Ok-take_turn.ensures.same_gravity c.in-Ok-take_turn.ensures.same_fixed c.in-Ok-take_turn.ensures.tells c.in-Ok-whole_steps.ensures.ok A sessions (subst (λ b. Comes C passes sessions c.in-On.next.state b mid) (sym later.0.has_forces) turned)

pub returns-in-Err-whole_steps-clause-err : goal.returns-in-Err-whole_steps-clause-err
returns-in-Err-whole_steps-clause-err g c = λ A sessions h.
    let gr = g.F.Forces.gravity c.args.forces.now in
    let fx = g.F.Forces.fixed c.args.forces.now in
    let passes = g.F.Forces.passes gr fx in
    let told = g.S.Store.tells c.args.store.now in
    let C = basis_of gr c.args.course.now told A in
    let mid = world_by g.S.Store g.Q.Stopper c.take_turn.new.store c.take_turn.new.stop (g.F.Forces.state c.take_turn.new.forces) in
    let new = world_by g.S.Store g.Q.Stopper c.whole_steps-in-On.new.store c.whole_steps-in-On.new.stop (g.F.Forces.state c.whole_steps-in-On.new.forces) in
    let turned : TurnEnds C passes sessions mid (turns.On c.in-On.next) = subst (TurnEnds C passes sessions mid) c.in-On.is (c.in-Ok-take_turn.ensures.ok A sessions h) in
    let later : GoesLater gr c.args.course.now.params.now c.args.run.state.tick (turns.On c.in-On.next) = subst (GoesLater gr c.args.course.now.params.now c.args.run.state.tick) c.in-On.is c.in-Ok-take_turn.ensures.later in
    leads_same (λ D f ss. HasBroken D f ss (fault_of c.in-Err-whole_steps.failure) new) g.F.Forces.passes c.args.course.now c.in-On.next.state (is_known c.in-On.next.known) mid (g.F.Forces.gravity c.take_turn.new.forces) gr (g.F.Forces.fixed c.take_turn.new.forces) fx (g.S.Store.tells c.take_turn.new.store) told
    c.in-Ok-take_turn.ensures.same_gravity c.in-Ok-take_turn.ensures.same_fixed c.in-Ok-take_turn.ensures.tells c.in-Err-whole_steps.ensures.err A sessions (subst (λ b. Comes C passes sessions c.in-On.next.state b mid) (sym later.0.has_forces) turned)

pub returns-in-Stopped-clause-ok : goal.returns-in-Stopped-clause-ok
returns-in-Stopped-clause-ok g c = λ A sessions h.
    let gr = g.F.Forces.gravity c.args.forces.now in
    let fx = g.F.Forces.fixed c.args.forces.now in
    let passes = g.F.Forces.passes gr fx in
    let told = g.S.Store.tells c.args.store.now in
    let C = basis_of gr c.args.course.now told A in
    let mid = world_by g.S.Store g.Q.Stopper c.take_turn.new.store c.take_turn.new.stop (g.F.Forces.state c.take_turn.new.forces) in
    subst (TurnEnds C passes sessions mid) c.in-Stopped.is (c.in-Ok-take_turn.ensures.ok A sessions h)

pub returns-in-Refused-clause-ok : goal.returns-in-Refused-clause-ok
returns-in-Refused-clause-ok g c = λ A sessions h.
    let gr = g.F.Forces.gravity c.args.forces.now in
    let fx = g.F.Forces.fixed c.args.forces.now in
    let passes = g.F.Forces.passes gr fx in
    let told = g.S.Store.tells c.args.store.now in
    let C = basis_of gr c.args.course.now told A in
    let mid = world_by g.S.Store g.Q.Stopper c.take_turn.new.store c.take_turn.new.stop (g.F.Forces.state c.take_turn.new.forces) in
    subst (TurnEnds C passes sessions mid) c.in-Refused.is (c.in-Ok-take_turn.ensures.ok A sessions h)
