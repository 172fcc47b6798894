use Rattle.std.proofs.Common.{◌≡◌, ◌-◌, ℕ, Option}
use Rattle.nbody_model.specs.Session.{SessionData}
use Rattle.step_engine.specs.BaseSteps.{is_known}
use Rattle.run_session.specs.Courses.{basis_of}
use Rattle.run_session.specs.Turned.{AreStanding, Comes, IsAtEnd}
use Rattle.run_session.specs.Worlds.{World, world_by}
use Rattle.run_session.proofs.steps.whole_steps.Given as goal

abbrev pub invariant-steps : goal.invariant-steps
invariant-steps g l = record {
  tells : g.S.Store.tells l.store ≡ g.S.Store.tells l.initial.store;
  faults : g.S.Store.faults l.store ≡ g.S.Store.faults l.initial.store;
  last : g.S.Store.last l.store ≡ g.S.Store.last l.initial.store;
  gravity : g.F.Forces.gravity l.forces ≡ g.F.Forces.gravity l.initial.forces;
  fixed : g.F.Forces.fixed l.forces ≡ g.F.Forces.fixed l.initial.forces;
  there : AreStanding l.course.own.now (g.S.Store.tells l.initial.store) (g.S.Store.file l.store);
  begun : IsAtEnd (g.F.Forces.gravity l.initial.forces) l.course.params.now l.now;
  comes : (A : World) (sessions : Option ℕ → SessionData) → Comes (basis_of (g.F.Forces.gravity l.initial.forces) l.course (g.S.Store.tells l.initial.store) A) (g.F.Forces.passes (g.F.Forces.gravity l.initial.forces) (g.F.Forces.fixed l.initial.forces)) sessions l.initial.now.state (is_known l.initial.now.known) (world_by g.S.Store g.Q.Stopper l.initial.store l.initial.stop (g.F.Forces.state l.initial.forces)) → Comes (basis_of (g.F.Forces.gravity l.initial.forces) l.course (g.S.Store.tells l.initial.store) A) (g.F.Forces.passes (g.F.Forces.gravity l.initial.forces) (g.F.Forces.fixed l.initial.forces)) sessions l.now.state (is_known l.now.known) (world_by g.S.Store g.Q.Stopper l.store l.stop (g.F.Forces.state l.forces));
}

abbrev pub decreases-steps : goal.decreases-steps
decreases-steps g l = l.time_max - l.now.state.tick
