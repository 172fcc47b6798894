-- What a run keeps in its restart files, and where a run that is resumed from one of them leads.
use Rattle.std.specs.Prelude.{◌≡◌, ℕ, zero, suc, ◌++◌, Bool, true, false, List, Option, Some, None}
use Rattle.store_io.specs.Files.{Files}
use Rattle.store_io.specs.Sinks.{Follows}
use Rattle.nbody_model.specs.Bodies.{BodyData, components, total}
use Rattle.nbody_model.specs.Evolve.{MomRange as MomentumOut, StepRange as StepOut}
use Rattle.nbody_model.specs.Setups.{SetupData}
use Rattle.nbody_model.specs.States.{StateData}
use Rattle.nbody_model.specs.Session.{Plan, SessionData, End, Done as SessionDone, Stopped as SessionStopped, OutOfRange, Restart, is_done, session}
use Rattle.nbody_model.specs.RestartText.{restart_text}
use Rattle.nbody_model.specs.Texts.{numbered}
use Rattle.model_laws.specs.Resumed.{GoesOn, IsOneOf}
use Rattle.param_file.specs.Settings.{ParamsData, setup_of}
use Rattle.restart_laws.specs.Kept.{IsFirst}
use Rattle.rank_field.specs.Fields.{IsPlayedAmong}
use Rattle.run_session.specs.declared.ended.Ended.{Ended}
use Rattle.run_session.specs.declared.ended.End.{End as RunEnd}
use Rattle.run_session.specs.declared.ended.End.TheVariants as ends
use Rattle.run_session.specs.RunEnds.{IsWhole}
use Rattle.gadget.specs.Commands.{resume}
use Rattle.gadget.specs.Inputs.{Accepts, InputsData}
use Rattle.gadget.specs.Begins.{first_state, plan_by}
use Rattle.gadget.specs.Outcomes.{status_at, text_at}
use Rattle.gadget.specs.Answers.{Edge, IsResumed, IsRun, seeded_by}
use Rattle.gadget.specs.Decided.{IsDecided}
use Rattle.gadget.specs.Headline.{EndsAs, Report}

-- ---- what restart files keep

-- this state stands in a restart file of a session from a state, resumed or not, stopped or not
pub record IsKeptIn (plan : Plan) (resumed : Bool) (σ ρ : StateData) : Type 0 where
  pub stop : Option ℕ
  pub number : ℕ
  pub one : IsOneOf (Restart number ρ) (session plan resumed stop σ).written

-- it stands in one of a run from tick 0 that was resumed so many times, each time from such a file
abbrev pub IsKeptAfter : ℕ → Plan → StateData → StateData → Type 0
IsKeptAfter zero plan σ ρ = IsKeptIn plan false σ ρ
IsKeptAfter (suc n) plan σ ρ = (τ : StateData) × IsKeptAfter n plan σ τ × IsKeptIn plan true τ ρ

-- the file of this name is a restart file of a run by these inputs from these bodies, however often it was resumed
pub record HoldsKept (i : InputsData) (B : List BodyData) (files : Files) (name : List ℕ) : Type 0 where
  pub first : IsFirst (first_state B)
  pub times : ℕ
  pub state : StateData
  pub kept : IsKeptAfter times (plan_by i) (first_state B) state
  pub stands : files name ≡ Some (restart_text state (setup_of i.params))

-- ---- the files that calls finish

-- a call finished a restart file of this name: its name is among those that the call added to the finished ones
pub record FinishesRestart (p : ParamsData) (e : Edge) (name : List ℕ) : Type 0 where
  pub number : ℕ
  pub named : name ≡ numbered p.restart_file_base number
  pub added : List (List ℕ)
  pub closed : e.new.closed ≡ e.old.closed ++ added
  pub among : IsOneOf name added

-- each restart file that a run finished is one of that run, however it ended: by its last tick, a refusal, a stop, a fault or
-- want of memory
abbrev pub RunsKeep : Type 0
RunsKeep = (ranks : ℕ) (e : Edge) (param : List ℕ) (ended : Ended) (s : SetupData) (r : IsRun ranks e param ended s) → e.tells ≡ true →
    (name : List ℕ) → FinishesRestart r.inputs.params e name → HoldsKept r.inputs r.bodies e.new.files name

-- and each that a resumed run finished is one of the run from whose file it was resumed
abbrev pub ResumedKeep : Type 0
ResumedKeep = (ranks : ℕ) (e : Edge) (param restart : List ℕ) (ended : Ended) (s : SetupData) (r : IsResumed ranks e param restart ended s) → e.tells ≡ true →
    (B : List BodyData) → HoldsKept r.inputs B e.old.files restart → (name : List ℕ) → FinishesRestart r.inputs.params e name → HoldsKept r.inputs B e.new.files name

-- ---- where they lead

-- an end of a session, and how a session ended, as a run tells it
abbrev pub end_of : End → RunEnd
end_of SessionDone = ends.Done
end_of SessionStopped = ends.Stopped
end_of (OutOfRange (MomentumOut tick bin id axis)) = ends.MomRange tick bin id axis
end_of (OutOfRange (StepOut tick id)) = ends.StepRange tick id

abbrev pub told_of : StateData → SessionData → Ended
told_of σ d = record {
  end = end_of d.end;
  tick = d.state.tick;
  steps = d.state.steps;
  snapshots = d.state.next_snapshot;
  kicks = d.state.kicks;
  interactions = d.state.interactions;
  momentum = components (total σ.bodies);
}

-- a call that was resumed came to the end of its session, which has the later snapshots with their numbers and the later kicks
-- of the run that isn't stopped; its files are as that session leaves them, and its status and its line are those of that run
pub record LeadsOn (ranks : ℕ) (i : InputsData) (B : List BodyData) (x : Report) : Type 0 where
  pub state : StateData
  pub goes_on : GoesOn (session (plan_by i) false None (first_state B)) (session (plan_by i) true None state)
  pub whole : let d = session (plan_by i) true None state in
      let passes = IsPlayedAmong x.edge.order.picks (record { setup = setup_of i.params; table = i.table }) ranks in
      IsWhole i.params true state passes x.edge.tells (is_done d.end) d.end d (seeded_by x.edge i.params.delivery_seed) x.edge.new
  pub status : let told = told_of (first_state B) (session (plan_by i) false None (first_state B)) in x.answer ≡ status_at told told.end
  pub printed : let told = told_of (first_state B) (session (plan_by i) false None (first_state B)) in
      Follows x.said.old.written x.said.new.written (text_at (setup_of i.params).top_bin told (status_at told told.end))

-- a run that is resumed from such a file by the same inputs leads on, by any number of ranks and any schedule in any state,
-- where it answers no fault, stop or want of memory
abbrev pub KeptLeadOn : Type 0
KeptLeadOn = (ranks : ℕ) (param restart : List ℕ) (i : InputsData) (B : List BodyData) (x : Report) → x.edge.tells ≡ true →
    Accepts x.edge.old.files param i → HoldsKept i B x.edge.old.files restart → EndsAs (resume param restart ranks) x → IsDecided x.answer → LeadsOn ranks i B x
