-- What is told before and after a call.
use Rattle.std.specs.Prelude.{ℕ, Bool, List, Option}
use Rattle.store_io.specs.Causes.{Call}
use Rattle.store_io.specs.Files.{Files}
use Rattle.store_io.specs.declared.store.Store as store
use Rattle.store_io.specs.declared.stopper.Stopper as stopper
use Rattle.nbody_model.specs.Bodies.{BodyData}
use Rattle.nbody_model.specs.Tables.{Gravity}
use Rattle.nbody_model.specs.declared.forces.Forces as forces
use Rattle.step_engine.specs.declared.kick_out.KickOut as kick_out
use Rattle.step_engine.specs.BaseSteps.{Seen}
use Rattle.nbody_model.specs.Passes.{Passes}
use Rattle.run_session.specs.Worlds.{World, store_world, world, world_by}

-- ---- whatever the forces are

-- which events they may take, whether files are told, and what is told before and after
pub record Span (W : Type 0) : Type 1 where
  pub passes : Gravity → List ℕ → Passes
  pub told : Bool
  pub old : W
  pub new : W

-- on a store, by the state of the forces and the counts of a stopper
abbrev pub store_span : {X Y : Type 0} → forces.Ghosts X → store.Ghosts Y → Y → Y → Span (List ℕ → ℕ → Option ℕ → World)
store_span F S old new = record { passes = F.passes; told = S.tells old; old = store_world S old; new = store_world S new }

-- on a store and a stopper, by the state of the forces
abbrev pub stop_span : {X Y Z : Type 0} → forces.Ghosts X → store.Ghosts Y → stopper.Ghosts Z → Y → Z → Y → Z → Span (List ℕ → World)
stop_span F S Q s q t r = record { passes = F.passes; told = S.tells s; old = world_by S Q s q; new = world_by S Q t r }

-- ---- on forces

-- what they stand for, which events they may take, and what is told before and after
pub record ForceSpan (W : Type 0) : Type 1 where
  pub gravity : Gravity
  pub passes : Passes
  pub old : W
  pub new : W

-- and on bodies and a taker
abbrev pub taker_span : {X Y : Type 0} → forces.Ghosts X → kick_out.Ghosts Y → X → List BodyData → Y → X → List BodyData → Y → ForceSpan Seen
taker_span F O f B o g C r = record {
  gravity = F.gravity f;
  passes = F.passes (F.gravity f) (F.fixed f);
  old = record { bodies = B; state = F.state f; took = O.took o };
  new = record { bodies = C; state = F.state g; took = O.took r };
}

-- and on a stopper, by what a store tells
abbrev pub step_span : {X Y : Type 0} → forces.Ghosts X → stopper.Ghosts Y → X → Y → X → Y → ForceSpan (Files → List (List ℕ) → ℕ → Option Call → World)
step_span F Q f q g r = record {
  gravity = F.gravity f;
  passes = F.passes (F.gravity f) (F.fixed f);
  old = λ files closed faults last. world files closed faults last (F.state f) (Q.yes q) (Q.left q);
  new = λ files closed faults last. world files closed faults last (F.state g) (Q.yes r) (Q.left r);
}

-- on forces, a store and a stopper: whether files are told too
pub record RunSpan : Type 1 where
  pub gravity : Gravity
  pub passes : Passes
  pub told : Bool
  pub old : World
  pub new : World

abbrev pub span_by : {X Y Z : Type 0} → forces.Ghosts X → store.Ghosts Y → stopper.Ghosts Z → X → Y → Z → X → Y → Z → RunSpan
span_by F S Q f s q g t r = record { gravity = F.gravity f; passes = F.passes (F.gravity f) (F.fixed f); told = S.tells s; old = world_by S Q s q (F.state f); new = world_by S Q t r (F.state g) }
