use Rattle.std.proofs.Common.{◌≡◌, ℕ, Bool, IsTrue, List, Option, sym, ◌∙◌, subst}
use Rattle.std.specs.Prelude.{IfSome}
use Rattle.nbody_model.specs.Tables.{Gravity}
use Rattle.nbody_model.specs.Session.{SessionData}
use Rattle.nbody_model.specs.States.{StateData}
use Rattle.step_engine.specs.Told.{AreForcesAmong}
use Rattle.nbody_model.specs.Passes.{Passes}
use Rattle.step_engine.specs.BaseSteps.{is_known}
use Rattle.run_session.specs.declared.course.Course.{Course}
use Rattle.run_session.specs.declared.turn.Turn.{Turn}
use Rattle.run_session.specs.declared.turn.Turn.TheVariants as turns
use Rattle.run_session.specs.Courses.{basis_of}
use Rattle.run_session.specs.Turned.{Comes, GoesLater, TurnEnds}
use Rattle.run_session.specs.Worlds.{World, world_by}
use Rattle.run_session.proofs.steps.whole_steps.Goals as goal

-- a turn by forces and a store that stand as before
same_turn : (passes : Gravity → List ℕ → Passes) (course : Course) (σ : StateData) (known : Bool) (W Z : World) (t : Turn) (g h : Gravity) (f k : List ℕ) (a b : Bool) → g ≡ h → f ≡ k → a ≡ b →
    ((A : World) (sessions : Option ℕ → SessionData) → Comes (basis_of g course a A) (passes g f) sessions σ known W → TurnEnds (basis_of g course a A) (passes g f) sessions Z t) →
    (A : World) (sessions : Option ℕ → SessionData) → Comes (basis_of h course b A) (passes h k) sessions σ known W → TurnEnds (basis_of h course b A) (passes h k) sessions Z t
same_turn passes course σ known W Z t g h f k a b p q r turn =
    subst (λ x. (A : World) (sessions : Option ℕ → SessionData) → Comes (basis_of h course x A) (passes h k) sessions σ known W → TurnEnds (basis_of h course x A) (passes h k) sessions Z t) r
    (subst (λ x. (A : World) (sessions : Option ℕ → SessionData) → Comes (basis_of h course a A) (passes h x) sessions σ known W → TurnEnds (basis_of h course a A) (passes h x) sessions Z t) q
    (subst (λ x. (A : World) (sessions : Option ℕ → SessionData) → Comes (basis_of x course a A) (passes x f) sessions σ known W → TurnEnds (basis_of x course a A) (passes x f) sessions Z t) p turn))

pub steps-preserved : goal.steps-preserved
steps-preserved g c =
    let i = c.steps.invariant in
    let done = c.in-Ok.ensures in
    let next = c.in-On.next in
    let gr = g.F.Forces.gravity c.args.forces.now in
    let fx = g.F.Forces.fixed c.args.forces.now in
    let old = world_by g.S.Store g.Q.Stopper c.steps.store c.steps.stop (g.F.Forces.state c.steps.forces) in
    let new = world_by g.S.Store g.Q.Stopper c.take_turn.new.store c.take_turn.new.stop (g.F.Forces.state c.take_turn.new.forces) in
    let later : GoesLater (g.F.Forces.gravity c.steps.forces) c.args.course.now.params.now c.steps.now.state.tick (turns.On next) = subst (GoesLater (g.F.Forces.gravity c.steps.forces) c.args.course.now.params.now c.steps.now.state.tick) c.in-On.is done.later in
    let timed = later.0 in
    let keeps = done.keeps in
    record {
      tells = done.tells ∙ i.tells;
      faults = done.cause.faults ∙ i.faults;
      last = done.cause.last ∙ i.last;
      gravity = done.same_gravity ∙ i.gravity;
      fixed = done.same_fixed ∙ i.fixed;
      there = λ told. keeps (subst (λ b. IsTrue b) (sym i.tells) told);
      begun = record { depths = timed.depths; tick = timed.tick; forces = subst (λ (h : Gravity). IfSome next.known (AreForcesAmong h next.state.bodies)) i.gravity timed.forces };
      comes = λ A sessions h.
          subst (λ b. Comes (basis_of gr c.args.course.now (g.S.Store.tells c.args.store.now) A) (g.F.Forces.passes gr fx) sessions next.state b new) (sym timed.has_forces)
          (same_turn g.F.Forces.passes c.args.course.now c.steps.now.state (is_known c.steps.now.known) old new (turns.On next) (g.F.Forces.gravity c.steps.forces) gr (g.F.Forces.fixed c.steps.forces) fx (g.S.Store.tells c.steps.store) (g.S.Store.tells c.args.store.now) i.gravity i.fixed i.tells
          (λ B ss k. subst (TurnEnds (basis_of (g.F.Forces.gravity c.steps.forces) c.args.course.now (g.S.Store.tells c.steps.store) B) (g.F.Forces.passes (g.F.Forces.gravity c.steps.forces) (g.F.Forces.fixed c.steps.forces)) ss new) c.in-On.is (done.ok B ss k)) A sessions (i.comes A sessions h));
    }

pub returns-in-Stopped-clause-ok : goal.returns-in-Stopped-clause-ok
returns-in-Stopped-clause-ok g c = λ A sessions h.
    let i = c.steps.invariant in
    let gr = g.F.Forces.gravity c.args.forces.now in
    let fx = g.F.Forces.fixed c.args.forces.now in
    let old = world_by g.S.Store g.Q.Stopper c.steps.store c.steps.stop (g.F.Forces.state c.steps.forces) in
    let new = world_by g.S.Store g.Q.Stopper c.take_turn.new.store c.take_turn.new.stop (g.F.Forces.state c.take_turn.new.forces) in
    subst (TurnEnds (basis_of gr c.args.course.now (g.S.Store.tells c.args.store.now) A) (g.F.Forces.passes gr fx) sessions new) c.in-Stopped.is
    (same_turn g.F.Forces.passes c.args.course.now c.steps.now.state (is_known c.steps.now.known) old new c.in-Ok.turn (g.F.Forces.gravity c.steps.forces) gr (g.F.Forces.fixed c.steps.forces) fx (g.S.Store.tells c.steps.store) (g.S.Store.tells c.args.store.now) i.gravity i.fixed i.tells c.in-Ok.ensures.ok A sessions (i.comes A sessions h))

pub returns-in-Refused-clause-ok : goal.returns-in-Refused-clause-ok
returns-in-Refused-clause-ok g c = λ A sessions h.
    let i = c.steps.invariant in
    let gr = g.F.Forces.gravity c.args.forces.now in
    let fx = g.F.Forces.fixed c.args.forces.now in
    let old = world_by g.S.Store g.Q.Stopper c.steps.store c.steps.stop (g.F.Forces.state c.steps.forces) in
    let new = world_by g.S.Store g.Q.Stopper c.take_turn.new.store c.take_turn.new.stop (g.F.Forces.state c.take_turn.new.forces) in
    subst (TurnEnds (basis_of gr c.args.course.now (g.S.Store.tells c.args.store.now) A) (g.F.Forces.passes gr fx) sessions new) c.in-Refused.is
    (same_turn g.F.Forces.passes c.args.course.now c.steps.now.state (is_known c.steps.now.known) old new c.in-Ok.turn (g.F.Forces.gravity c.steps.forces) gr (g.F.Forces.fixed c.steps.forces) fx (g.S.Store.tells c.steps.store) (g.S.Store.tells c.args.store.now) i.gravity i.fixed i.tells c.in-Ok.ensures.ok A sessions (i.comes A sessions h))
