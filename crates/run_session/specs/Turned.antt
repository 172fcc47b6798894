-- How a turn of a run ends: a base step with the synchronisation that follows it.
use Rattle.std.specs.Prelude.{◌≡◌, ◌≤◌, ◌<◌, ⊤, ◌*◌, ◌^◌, ℕ, IsTrue, Bool, true, List, [], Option, None, Some, IfSome}
use Rattle.nbody_model.specs.Session.{SessionData, OutOfRange}
use Rattle.nbody_model.specs.States.{StateData}
use Rattle.nbody_model.specs.Tables.{Gravity}
use Rattle.param_file.specs.Settings.{ParamsData}
use Rattle.step_engine.specs.Told.{AreForcesAmong}
use Rattle.nbody_model.specs.Passes.{Passes}
use Rattle.step_engine.specs.BaseSteps.{is_known}
use Rattle.run_session.specs.declared.course.Progress.{Progress as Run}
use Rattle.store_io.specs.Files.{Files}
use Rattle.run_session.specs.declared.step.Made.{Made}
use Rattle.run_session.specs.declared.step.Made.TheVariants as made
use Rattle.run_session.specs.declared.turn.Turn.{Turn}
use Rattle.run_session.specs.declared.turn.Turn.TheVariants as turns
use Rattle.run_session.specs.Changes.{AreThere}
use Rattle.run_session.specs.Own.{Own}
use Rattle.run_session.specs.RunEnds.{IsStopOf}
use Rattle.run_session.specs.Worlds.{World}
use Rattle.model_laws.specs.Resumed.{SameTimes}
use Rattle.run_session.specs.Stages.{Basis, HasCome, IsAtSync, HasStopped, HasEnded, IsBrokenIn, IsLater, IsFrom, RestsIn}
use Rattle.run_session.specs.Steps.{refusal_of}

-- whatever stop comes later, the session with it has come here
abbrev pub Comes : Basis → Passes → (Option ℕ → SessionData) → StateData → Bool → World → Type 0
Comes C passes sessions σ known new = (stop : Option ℕ) → IsLater σ.tick stop → HasCome C passes sessions σ known new stop

-- whatever stop comes here or later, it has come to this synchronisation
abbrev pub ComesToSync : Basis → Passes → (Option ℕ → SessionData) → Option ℕ → StateData → Bool → World → Type 0
ComesToSync C passes sessions before σ known new = (stop : Option ℕ) → IsFrom σ.tick stop → IsAtSync C passes sessions before σ known new stop

-- it was broken off by a fault at this file, or by want of memory, without a stop or after a yes
pub record HasBroken (C : Basis) (passes : Passes) (sessions : Option ℕ → SessionData) (fault : Option (List ℕ)) (new : World) : Type 0 where
  pub stop : Option ℕ
  pub question : IsStopOf C.start.left (sessions None).questions C.start.yes new.yes stop
  pub broken : IsBrokenIn C passes (sessions stop) fault new

-- it goes on, was stopped, or was refused
abbrev pub TurnEnds : Basis → Passes → (Option ℕ → SessionData) → World → Turn → Type 0
TurnEnds C passes sessions new (turns.On next) = Comes C passes sessions next.state true new
TurnEnds C passes sessions new (turns.Stopped τ) = HasStopped C passes sessions τ new
TurnEnds C passes sessions new (turns.Refused why) = HasEnded C passes (sessions None) (OutOfRange (refusal_of why)) new

-- a run at the end of a base step, where the forces among all bodies are known
pub record IsTimed (g : Gravity) (p : ParamsData) (run : Run) : Type 0 where
  pub depths : run.state.depths ≡ []
  pub tick : run.state.tick ≡ run.state.steps * 2 ^ p.top_bin
  pub has_forces : is_known run.known ≡ true
  pub forces : IfSome run.known (AreForcesAmong g run.state.bodies)

-- a run that goes on is at the end of a later base step
abbrev pub GoesLater : Gravity → ParamsData → ℕ → Turn → Type 0
GoesLater g p tick (turns.On next) = IsTimed g p next × (tick < next.state.tick)
GoesLater g p tick (turns.Stopped τ) = Unit {0}
GoesLater g p tick (turns.Refused why) = Unit {0}

-- after a synchronisation with known forces or not
abbrev pub SyncTurns : Basis → Passes → (Option ℕ → SessionData) → Bool → World → Turn → Type 0
SyncTurns C passes sessions known new (turns.On next) = Comes C passes sessions next.state known new
SyncTurns C passes sessions known new (turns.Stopped τ) = HasStopped C passes sessions τ new
SyncTurns C passes sessions known new (turns.Refused why) = ⊥

-- a run that goes on has the forces and the times that it had
abbrev pub StaysWith : Run → Turn → Type 0
StaysWith run (turns.On next) = (next.known ≡ run.known) × SameTimes next.state run.state
StaysWith run (turns.Stopped τ) = Unit {0}
StaysWith run (turns.Refused why) = ⊥

-- ---- what a base step was made to, once its texts stand in the files

-- its end is early enough, and no body has a depth there
abbrev pub CanFollow : Made → Type 0
CanFollow (made.Whole next) = (next.state.depths ≡ []) × (next.state.tick < 2 ^ 63)
CanFollow (made.Rested τ) = ⊤
CanFollow (made.Refused why) = ⊤

-- a run goes on only from a whole step, with its forces and times
abbrev pub FollowsMade : Made → Turn → Type 0
FollowsMade (made.Whole run) (turns.On next) = (next.known ≡ run.known) × SameTimes next.state run.state
FollowsMade (made.Rested σ) (turns.On next) = ⊥
FollowsMade (made.Refused why) (turns.On next) = ⊥
FollowsMade made (turns.Stopped τ) = ⊤
FollowsMade made (turns.Refused why) = ⊤

-- the session with each later stop has come to the synchronisation after that at the tick `before`; or it rests; or it was
-- refused
abbrev pub IsMadeIn : Basis → Passes → (Option ℕ → SessionData) → ℕ → World → Made → Type 0
IsMadeIn C passes sessions before new (made.Whole next) = ComesToSync C passes sessions (Some before) next.state true new
IsMadeIn C passes sessions before new (made.Rested τ) = RestsIn C passes sessions τ new
IsMadeIn C passes sessions before new (made.Refused why) = HasEnded C passes (sessions None) (OutOfRange (refusal_of why)) new

-- ---- all base steps

-- they came to the last tick, or ended before
abbrev pub StepsEnd : Basis → Passes → (Option ℕ → SessionData) → World → Turn → Type 0
StepsEnd C passes sessions new (turns.On last) = Comes C passes sessions last.state (is_known last.known) new × ((C.plan.rules.gravity.setup.time_max ≤ last.state.tick) × (last.state.depths ≡ []))
StepsEnd C passes sessions new (turns.Stopped τ) = HasStopped C passes sessions τ new
StepsEnd C passes sessions new (turns.Refused why) = HasEnded C passes (sessions None) (OutOfRange (refusal_of why)) new

-- the files that are kept open stand
abbrev pub AreStanding : Own → Bool → Files → Type 0
AreStanding o told files = IsTrue told → AreThere o files

-- a run at the end of a base step, or at tick 0, with the forces among all bodies if they are known
pub record IsAtEnd (g : Gravity) (p : ParamsData) (run : Run) : Type 0 where
  pub depths : run.state.depths ≡ []
  pub tick : run.state.tick ≡ run.state.steps * 2 ^ p.top_bin
  pub forces : IfSome run.known (AreForcesAmong g run.state.bodies)
