-- old whole run: how it begins, and how it ends.
use Rattle.std.specs.Prelude.{◌≡◌, ◌≤◌, ◌⊎◌, ⊤, ℕ, ℤ, ◌*◌, ◌^◌, Bool, true, false, List, [], Option, None, Some, IfSome, Result, Ok, Err}
use Rattle.store_io.specs.Causes.{Rose}
use Rattle.nbody_model.specs.States.{StateData, IsRest}
use Rattle.nbody_model.specs.Session.{SessionData, OutOfRange}
use Rattle.nbody_model.specs.Session.{Done as SessionDone}
use Rattle.param_file.specs.Settings.{ParamsData, setup_of}
use Rattle.nbody_model.specs.Passes.{Passes}
use Rattle.run_session.specs.declared.ended.End.{End}
use Rattle.run_session.specs.declared.ended.End.TheVariants as ends
use Rattle.run_session.specs.declared.ended.Ended.{Ended}
use Rattle.run_session.specs.declared.failure.Failure.{Failure}
use Rattle.run_session.specs.declared.failure.Failure.TheVariants as failures
use Rattle.run_session.specs.declared.step.Refusal.{Refusal as Cause}
use Rattle.run_session.specs.declared.step.Refusal.TheVariants as causes
use Rattle.run_session.specs.declared.turn.Turn.{Turn}
use Rattle.run_session.specs.declared.turn.Turn.TheVariants as turns
use Rattle.run_session.specs.RunEnds.{IsBrokenOff, IsStopped, IsWhole}
use Rattle.run_session.specs.Worlds.{World}
use Rattle.run_session.specs.Steps.{refusal_of}

-- ---- its beginning

-- a session in which nothing was done from a state on
abbrev pub start_session : StateData → SessionData
start_session σ = record { state = σ; written = []; trail = []; states = []; questions = []; end = SessionDone }

-- a state at the end of a base step, or at rest inside one
abbrev pub Begins : ParamsData → StateData → Type 0
Begins p σ = ((σ.depths ≡ []) × (σ.tick ≡ σ.steps * 2 ^ p.top_bin)) ⊎ IsRest (setup_of p) σ

-- a run that goes on begins so, with no forces known
abbrev pub StartsBy : ParamsData → Turn → Type 0
StartsBy p (turns.On run) = (run.known ≡ None) × Begins p run.state
StartsBy p (turns.Stopped τ) = ⊤
StartsBy p (turns.Refused why) = ⊤

-- ---- its end

-- the session came to its last tick, was stopped, or was refused
abbrev pub SessionEnds : ParamsData → Bool → StateData → Passes → Bool → (Option ℕ → SessionData) → World → World → Turn → Type 0
SessionEnds p resumed σ passes told sessions old new (turns.On last) = IsWhole p resumed σ passes told true SessionDone (sessions None) old new × ((sessions None).state ≡ last.state)
SessionEnds p resumed σ passes told sessions old new (turns.Stopped τ) = IsStopped p resumed σ passes told τ.tick (sessions (Some τ.tick)) (sessions None) old new × ((sessions (Some τ.tick)).state ≡ τ)
SessionEnds p resumed σ passes told sessions old new (turns.Refused why) = IsWhole p resumed σ passes told false (OutOfRange (refusal_of why)) (sessions None) old new

-- the same, or it was broken off by a failure
abbrev pub SessionLeaves : ParamsData → Bool → StateData → Passes → Bool → (Option ℕ → SessionData) → World → World → Result Turn Failure → Type 0
SessionLeaves p resumed σ passes told sessions old new (Ok t) = SessionEnds p resumed σ passes told sessions old new t
SessionLeaves p resumed σ passes told sessions old new (Err (failures.WriteFault name)) = IsBrokenOff p resumed σ passes told sessions (Some name) old new × Rose old.faults new.faults × IfSome new.last (λ c. c ≡ (name, false))
SessionLeaves p resumed σ passes told sessions old new (Err failures.Memory) = IsBrokenOff p resumed σ passes told sessions None old new × (old.faults ≤ new.faults)

-- ---- what is told of it

-- by its end alone
abbrev pub told_end : End → List ℤ → Ended
told_end end momentum = record { end = end; tick = 0; steps = 0; snapshots = 0; kicks = 0; interactions = 0; momentum = momentum }

-- and by its last state
abbrev pub told_state : End → StateData → List ℤ → Ended
told_state end σ momentum = record { end = end; tick = σ.tick; steps = σ.steps; snapshots = σ.next_snapshot; kicks = σ.kicks; interactions = σ.interactions; momentum = momentum }

abbrev pub end_of : Cause → End
end_of (causes.MomRange tick bin id axis) = ends.MomRange tick bin id axis
end_of (causes.StepRange tick id) = ends.StepRange tick id

abbrev pub ended_by : Result Turn Failure → List ℤ → Ended
ended_by (Ok (turns.On last)) momentum = told_state ends.Done last.state momentum
ended_by (Ok (turns.Stopped τ)) momentum = told_state ends.Stopped τ momentum
ended_by (Ok (turns.Refused why)) momentum = told_end (end_of why) momentum
ended_by (Err (failures.WriteFault name)) momentum = told_end (ends.WriteFault name) momentum
ended_by (Err failures.Memory) momentum = told_end ends.Memory momentum

-- the last tick was reached
abbrev pub came_to_last : Turn → Bool
came_to_last (turns.On last) = true
came_to_last (turns.Stopped τ) = false
came_to_last (turns.Refused why) = false
