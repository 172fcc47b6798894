-- How a run ends, against the session of the model.
use Rattle.std.specs.Prelude.{◌≡◌, ◌≤◌, ⊤, ℕ, Bool, true, false, IsTrue, List, ◌∷◌, ◌++◌, length, Option, Some, None, IfSome}
use Rattle.std.specs.List.{AllByRecursion}
use Rattle.store_io.specs.Causes.{Rose}
use Rattle.nbody_model.specs.declared.field.Event.{Event}
use Rattle.nbody_model.specs.Bodies.{total, components}
use Rattle.nbody_model.specs.Setups.{SetupData}
use Rattle.nbody_model.specs.Tables.{Gravity, ExpansionData}
use Rattle.nbody_model.specs.Passes.{PassesAll, Passes}
use Rattle.nbody_model.specs.Evolve.{MomRange as MomentumOut, StepRange as StepOut}
use Rattle.nbody_model.specs.States.{StateData, IsStart}
use Rattle.nbody_model.specs.Session.{Plan, SessionData, End, session, records, asked, OutOfRange, Done as SessionDone, Stopped as SessionStopped, tells}
use Rattle.param_file.specs.Settings.{ParamsData}
use Rattle.restart_files.specs.Stored.{IsKept}
use Rattle.run_session.specs.declared.ended.End.{End as RunEnd}
use Rattle.run_session.specs.declared.ended.End.TheVariants as ends
use Rattle.run_session.specs.declared.ended.Ended.{Ended}
use Rattle.run_session.specs.Own.{own_files}
use Rattle.run_session.specs.Outputs.{Leaves}
use Rattle.run_session.specs.Broken.{LeavesPart}
use Rattle.run_session.specs.Worlds.{World}

-- what a run goes by: what its forces stand for, a table of factors, the settings, and the listed times
abbrev pub plan_of : Gravity → Option ExpansionData → ParamsData → List ℕ → Plan
plan_of g e p times = record { rules = record { gravity = g; expansion = e }; times = times; restart_every = p.restart_every }

-- where it may begin: at tick 0 with nothing done, or, if it is resumed, at a state that a restart file keeps
abbrev pub IsBegun : SetupData → Bool → StateData → Type 0
IsBegun s false σ = IsStart σ
IsBegun s true σ = IsKept s σ

-- ---- the questions

-- there were no more questions than were left to be answered no
abbrev pub NoneLeft : Option ℕ → List ℕ → Type 0
NoneLeft None questions = ⊤
NoneLeft (Some left) questions = length questions ≤ left

-- one of these questions is that of this tick: the first one after those that were left, where that is told
pub record IsAnsweredYes (left : Option ℕ) (questions : List ℕ) (tick : ℕ) : Type 0 where
  pub before : List ℕ
  pub after : List ℕ
  pub is : questions ≡ before ++ tick ∷ after
  pub count : IfSome left (λ n. n ≡ length before)

-- the stop of the moment: where the count of yes rose, the tick of the question that was answered so; else none
abbrev pub IsStopOf : Option ℕ → List ℕ → ℕ → ℕ → Option ℕ → Type 0
IsStopOf left questions yeses yeses_now None = yeses_now ≡ yeses
IsStopOf left questions yeses yeses_now (Some tick) = Rose yeses yeses_now × IsAnsweredYes left questions tick

-- ---- a session that came to its end

-- its files are written and finished, each of its kicks tells the momentum of all bodies at its start, its forces were
-- found one after another, and no fault was counted
pub record IsEnded (p : ParamsData) (resumed : Bool) (σ : StateData) (passes : Passes) (told done : Bool) (d : SessionData) (old new : World) : Type 0 where
  pub events : List (List Event)
  pub found : PassesAll passes (asked d) old.state events new.state
  pub files : IsTrue told → Leaves p (own_files p resumed σ) d events done old.files new.files old.closed new.closed
  pub kept : AllByRecursion (tells (total σ.bodies)) (records d)
  pub faults : new.faults ≡ old.faults
  pub last : new.last ≡ old.last

-- what is told of it is that of the session's last state
pub record TellsState (d : SessionData) (e : Ended) : Type 0 where
  pub tick : e.tick ≡ d.state.tick
  pub steps : e.steps ≡ d.state.steps
  pub snapshots : e.snapshots ≡ d.state.next_snapshot
  pub kicks : e.kicks ≡ d.state.kicks
  pub interactions : e.interactions ≡ d.state.interactions

-- a session without a stop
pub record IsWhole (p : ParamsData) (resumed : Bool) (σ : StateData) (passes : Passes) (told done : Bool) (why : End) (d : SessionData) (old new : World) : Type 0 where
  pub end : d.end ≡ why
  pub ended : IsEnded p resumed σ passes told done d old new
  pub yes : new.yes ≡ old.yes
  pub questions : NoneLeft old.left d.questions

-- a session that was stopped at a tick, beside the one that isn't stopped
pub record IsStopped (p : ParamsData) (resumed : Bool) (σ : StateData) (passes : Passes) (told : Bool) (tick : ℕ) (d whole : SessionData) (old new : World) : Type 0 where
  pub end : d.end ≡ SessionStopped
  pub ended : IsEnded p resumed σ passes told false d old new
  pub yes : Rose old.yes new.yes
  pub question : IsAnsweredYes old.left whole.questions tick

-- ---- a session that was broken off

-- by a fault at this file, or by want of memory, in the session with the stop of that moment
pub record IsBrokenOff (p : ParamsData) (resumed : Bool) (σ : StateData) (passes : Passes) (told : Bool) (sessions : Option ℕ → SessionData) (fault : Option (List ℕ)) (old new : World) : Type 0 where
  pub stop : Option ℕ
  pub question : IsStopOf old.left (sessions None).questions old.yes new.yes stop
  pub leaves : LeavesPart p (own_files p resumed σ) passes told (sessions stop) fault old new
  pub kept : AllByRecursion (tells (total σ.bodies)) (records (sessions stop))

-- ---- all ends

abbrev pub EndsBy : ParamsData → Bool → StateData → Passes → Bool → (Option ℕ → SessionData) → World → World → Ended → RunEnd → Type 0
EndsBy p resumed σ passes told sessions old new e ends.Done = IsWhole p resumed σ passes told true SessionDone (sessions None) old new × TellsState (sessions None) e
EndsBy p resumed σ passes told sessions old new e ends.Stopped = IsStopped p resumed σ passes told e.tick (sessions (Some e.tick)) (sessions None) old new × TellsState (sessions (Some e.tick)) e
EndsBy p resumed σ passes told sessions old new e (ends.MomRange tick bin id axis) = IsWhole p resumed σ passes told false (OutOfRange (MomentumOut tick bin id axis)) (sessions None) old new
EndsBy p resumed σ passes told sessions old new e (ends.StepRange tick id) = IsWhole p resumed σ passes told false (OutOfRange (StepOut tick id)) (sessions None) old new
EndsBy p resumed σ passes told sessions old new e (ends.WriteFault name) = IsBrokenOff p resumed σ passes told sessions (Some name) old new × Rose old.faults new.faults × IfSome new.last (λ c. c ≡ (name, false))
EndsBy p resumed σ passes told sessions old new e ends.Memory = IsBrokenOff p resumed σ passes told sessions None old new × (old.faults ≤ new.faults)

-- how a run ends, by the session of its plan; the momentum of all bodies is that at its start
pub record RunEnds (plan : Plan) (p : ParamsData) (resumed : Bool) (σ : StateData) (passes : Passes) (told : Bool) (old new : World) (e : Ended) : Type 0 where
  pub by_session : EndsBy p resumed σ passes told (λ stop. session plan resumed stop σ) old new e e.end
  pub momentum : e.momentum ≡ components (total σ.bodies)
