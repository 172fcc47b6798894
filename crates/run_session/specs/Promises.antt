-- What the parts of a run promise, each from what is told before and after it.
use Rattle.std.specs.Prelude.{◌≡◌, ◌+◌, ◌^◌, ℕ, Bool, false, IsTrue, List, Option, Result}
use Rattle.std.specs.Option.{option_copied}
use Rattle.store_io.specs.Causes.{Call}
use Rattle.store_io.specs.Files.{Files}
use Rattle.store_io.specs.declared.store.Store as store
use Rattle.nbody_model.specs.Bodies.{BodyData}
use Rattle.nbody_model.specs.Fields.{FieldData}
use Rattle.nbody_model.specs.Tables.{Gravity, ExpansionData}
use Rattle.nbody_model.specs.States.{StateData, began}
use Rattle.nbody_model.specs.Session.{Plan, SessionData, Written, base_step, session, with_restart, with_snapshot}
use Rattle.param_file.specs.Settings.{ParamsData, setup_of}
use Rattle.step_engine.specs.declared.step_end.StepCount.{StepCount}
use Rattle.step_engine.specs.declared.step_end.StepEnd.{StepEnd}
use Rattle.step_engine.specs.Stages.{rules}
use Rattle.step_engine.specs.BaseSteps.{Seen, StepEnds, is_known}
use Rattle.run_session.specs.declared.course.Course.{Course}
use Rattle.run_session.specs.declared.course.Progress.{Progress as Run}
use Rattle.run_session.specs.declared.ended.Ended.{Ended}
use Rattle.run_session.specs.declared.failure.Failure.{Failure}
use Rattle.run_session.specs.declared.inputs.Inputs.{Inputs}
use Rattle.run_session.specs.declared.step.Made.{Made}
use Rattle.run_session.specs.declared.step.Recorded.{Recorded}
use Rattle.run_session.specs.declared.step.Stepped.{Stepped}
use Rattle.run_session.specs.declared.turn.Turn.{Turn}
use Rattle.run_session.specs.Causes.{fault_of}
use Rattle.run_session.specs.Outputs.{EndsSome, FinishesSome}
use Rattle.run_session.specs.Own.{Own, OwnTexts, Stands, StandsPart, followed}
use Rattle.run_session.specs.RunEnds.{RunEnds, plan_of}
use Rattle.run_session.specs.Stages.{HasFiles, IsBrokenIn, Matches, RestsIn, HasStopped, SyncBreaks, SyncEnds, WritesFile, WritesPart}
use Rattle.run_session.specs.Courses.{basis_of}
use Rattle.run_session.specs.Steps.{IsRecorded, StepMade}
use Rattle.run_session.specs.Turned.{Comes, ComesToSync, HasBroken, IsMadeIn, StepsEnd, SyncTurns, TurnEnds}
use Rattle.run_session.specs.Sessions.{SessionLeaves, start_session}
use Rattle.run_session.specs.Spans.{ForceSpan, RunSpan, Span}
use Rattle.run_session.specs.Worlds.{World}

-- ---- files

-- more stands behind what the open files held, or a first part of it does
abbrev pub Adds : {X : Type 0} → store.Ghosts X → X → X → Own → OwnTexts → Type 0
Adds S old new o more = (t : OwnTexts) (W : Files) → IsTrue (S.tells old) → Stands o t W (S.file old) → Stands o (followed t more) W (S.file new)

abbrev pub AddsPart : {X : Type 0} → store.Ghosts X → X → X → Own → OwnTexts → Type 0
AddsPart S old new o more = (t : OwnTexts) (W : Files) → IsTrue (S.tells old) → Stands o t W (S.file old) → StandsPart o (followed t more) W (S.file new)

-- the open files were finished in part
abbrev pub EndsPart : {X : Type 0} → store.Ghosts X → X → X → Own → Failure → Type 0
EndsPart S old new o e = EndsSome o (S.tells old) (fault_of e) (S.closed old) (S.closed new)

abbrev pub FinishesPart : {X : Type 0} → store.Ghosts X → X → X → Own → Bool → Failure → Type 0
FinishesPart S old new o done e = FinishesSome o done (S.tells old) (fault_of e) (S.file old) (S.file new) (S.closed old) (S.closed new)

-- a file of a session was written, or begun at most
abbrev pub Writes : {X : Type 0} → store.Ghosts X → X → X → Course → Written → Type 0
Writes S old new course w = WritesFile course.params.now course.own.now w (S.tells old) (S.file old) (S.file new) (S.closed old) (S.closed new)

abbrev pub BeginsFile : {X : Type 0} → store.Ghosts X → X → X → Course → Written → Type 0
BeginsFile S old new course w = WritesPart course.params.now course.own.now w (S.tells old) (S.file old) (S.file new) (S.closed old) (S.closed new)

-- ---- the parts of a synchronisation, whatever the forces are

-- a session so far that matches a state matches the next one, with a snapshot if it is due; or it is broken off
abbrev pub Shows : Course → Bool → StateData → Span (List ℕ → ℕ → Option ℕ → World) → StateData → Type 0
Shows course due σ span τ = (g : Gravity) (fixed : List ℕ) (start : World) (fs : List ℕ) (y : ℕ) (l : Option ℕ) (d : SessionData) →
    Matches (basis_of g course span.told start) (span.passes g fixed) d σ (span.old fs y l) → Matches (basis_of g course span.told start) (span.passes g fixed) (with_snapshot due d) τ (span.new fs y l)

abbrev pub ShowBreaks : Course → Bool → StateData → Span (List ℕ → ℕ → Option ℕ → World) → Failure → Type 0
ShowBreaks course due σ span e = (g : Gravity) (fixed : List ℕ) (start : World) (fs : List ℕ) (y : ℕ) (l : Option ℕ) (d : SessionData) →
    Matches (basis_of g course span.told start) (span.passes g fixed) d σ (span.old fs y l) → IsBrokenIn (basis_of g course span.told start) (span.passes g fixed) (with_snapshot due d) (fault_of e) (span.new fs y l)

-- a session so far that has these files has them with a restart file, if one is kept; or it is broken off
abbrev pub Saves : Course → Bool → StateData → Span (List ℕ → ℕ → Option ℕ → World) → Type 0
Saves course kept σ span = (g : Gravity) (fixed : List ℕ) (start : World) (fs : List ℕ) (y : ℕ) (l : Option ℕ) (d : SessionData) → d.state ≡ σ →
    HasFiles (basis_of g course span.told start) (span.passes g fixed) d (span.old fs y l) → HasFiles (basis_of g course span.told start) (span.passes g fixed) (with_restart kept d) (span.new fs y l)

abbrev pub SaveBreaks : Course → Bool → StateData → Span (List ℕ → ℕ → Option ℕ → World) → Failure → Type 0
SaveBreaks course kept σ span e = (g : Gravity) (fixed : List ℕ) (start : World) (fs : List ℕ) (y : ℕ) (l : Option ℕ) (d : SessionData) → d.state ≡ σ →
    HasFiles (basis_of g course span.told start) (span.passes g fixed) d (span.old fs y l) → IsBrokenIn (basis_of g course span.told start) (span.passes g fixed) (with_restart kept d) (fault_of e) (span.new fs y l)

-- a session that rests at a state was stopped there, once its restart file stands; or it is broken off
abbrev pub StopsAtRest : Course → StateData → Span (List ℕ → ℕ → Option ℕ → World) → StateData → Type 0
StopsAtRest course σ span τ = (g : Gravity) (fixed : List ℕ) (start : World) (sessions : Option ℕ → SessionData) (fs : List ℕ) (y : ℕ) (l : Option ℕ) →
    RestsIn (basis_of g course span.told start) (span.passes g fixed) sessions σ (span.old fs y l) → HasStopped (basis_of g course span.told start) (span.passes g fixed) sessions τ (span.new fs y l)

abbrev pub RestBreaks : Course → StateData → Span (List ℕ → ℕ → Option ℕ → World) → Failure → Type 0
RestBreaks course σ span e = (g : Gravity) (fixed : List ℕ) (start : World) (sessions : Option ℕ → SessionData) (fs : List ℕ) (y : ℕ) (l : Option ℕ) →
    RestsIn (basis_of g course span.told start) (span.passes g fixed) sessions σ (span.old fs y l) → HasBroken (basis_of g course span.told start) (span.passes g fixed) sessions (fault_of e) (span.new fs y l)

-- a session so far that matches a state is synchronised there, and goes on or is stopped; or it is broken off
abbrev pub Synchronises : Course → Option ℕ → StateData → Span (List ℕ → World) → StateData × Bool → Type 0
Synchronises course before σ span r = (g : Gravity) (fixed : List ℕ) (start : World) (fs : List ℕ) (d : SessionData) → g.setup ≡ setup_of course.params.now →
    Matches (basis_of g course span.told start) (span.passes g fixed) d σ (span.old fs) → SyncEnds (basis_of g course span.told start) (span.passes g fixed) before d r.0 r.1 (span.new fs)

abbrev pub SynchroniseBreaks : Course → Option ℕ → StateData → Span (List ℕ → World) → Failure → Type 0
SynchroniseBreaks course before σ span e = (answer : Bool) × ((g : Gravity) (fixed : List ℕ) (start : World) (fs : List ℕ) (d : SessionData) → g.setup ≡ setup_of course.params.now →
    Matches (basis_of g course span.told start) (span.passes g fixed) d σ (span.old fs) → SyncBreaks (basis_of g course span.told start) (span.passes g fixed) before d answer (fault_of e) (span.new fs))

-- ---- what follows a base step, whatever the forces are

-- a session that has come to this synchronisation goes on from it, or was stopped; or it was broken off
abbrev pub GoesThrough : Course → Option ℕ → StateData → Span (List ℕ → World) → Turn → Type 0
GoesThrough course before σ span t = (g : Gravity) (fixed : List ℕ) (start : World) (fs : List ℕ) (sessions : Option ℕ → SessionData) (known : Bool) → g.setup ≡ setup_of course.params.now →
    ComesToSync (basis_of g course span.told start) (span.passes g fixed) sessions before σ known (span.old fs) → SyncTurns (basis_of g course span.told start) (span.passes g fixed) sessions known (span.new fs) t

abbrev pub ThroughBreaks : Course → Option ℕ → StateData → Span (List ℕ → World) → Failure → Type 0
ThroughBreaks course before σ span e = (g : Gravity) (fixed : List ℕ) (start : World) (fs : List ℕ) (sessions : Option ℕ → SessionData) (known : Bool) → g.setup ≡ setup_of course.params.now →
    ComesToSync (basis_of g course span.told start) (span.passes g fixed) sessions before σ known (span.old fs) → HasBroken (basis_of g course span.told start) (span.passes g fixed) sessions (fault_of e) (span.new fs)

-- the same for a session in which this was made of a base step
abbrev pub Follows : Course → ℕ → Made → Span (List ℕ → World) → Turn → Type 0
Follows course before made span t = (g : Gravity) (fixed : List ℕ) (start : World) (sessions : Option ℕ → SessionData) (fs : List ℕ) → g.setup ≡ setup_of course.params.now →
    IsMadeIn (basis_of g course span.told start) (span.passes g fixed) sessions before (span.old fs) made → TurnEnds (basis_of g course span.told start) (span.passes g fixed) sessions (span.new fs) t

abbrev pub FollowBreaks : Course → ℕ → Made → Span (List ℕ → World) → Failure → Type 0
FollowBreaks course before made span e = (g : Gravity) (fixed : List ℕ) (start : World) (sessions : Option ℕ → SessionData) (fs : List ℕ) → g.setup ≡ setup_of course.params.now →
    IsMadeIn (basis_of g course span.told start) (span.passes g fixed) sessions before (span.old fs) made → HasBroken (basis_of g course span.told start) (span.passes g fixed) sessions (fault_of e) (span.new fs)

-- the same for a session in which nothing was done from a state on
abbrev pub Starts : Course → Bool → StateData → Span (List ℕ → World) → Turn → Type 0
Starts course resumed σ span t = (g : Gravity) (fixed : List ℕ) (start : World) (fs : List ℕ) → g.setup ≡ setup_of course.params.now →
    Matches (basis_of g course span.told start) (span.passes g fixed) (start_session σ) σ (span.old fs) →
    SyncTurns (basis_of g course span.told start) (span.passes g fixed) (λ s. session (plan_of g (option_copied course.expansion) course.params.now course.outputs.now) resumed s σ) false (span.new fs) t

abbrev pub StartBreaks : Course → Bool → StateData → Span (List ℕ → World) → Failure → Type 0
StartBreaks course resumed σ span e = (g : Gravity) (fixed : List ℕ) (start : World) (fs : List ℕ) → g.setup ≡ setup_of course.params.now →
    Matches (basis_of g course span.told start) (span.passes g fixed) (start_session σ) σ (span.old fs) →
    HasBroken (basis_of g course span.told start) (span.passes g fixed) (λ s. session (plan_of g (option_copied course.expansion) course.params.now course.outputs.now) resumed s σ) (fault_of e) (span.new fs)

-- ---- a base step

-- as any taker was told of it, against the base step of each state with these bodies and depths at this tick
abbrev pub TellsStep : Course → List ℕ → ℕ → Option FieldData → ForceSpan Seen → Result StepCount StepEnd → Type 0
TellsStep course depths tick known span ended = (plan : Plan) (σ : StateData) → plan.rules ≡ rules span.gravity (option_copied course.expansion) → σ.bodies ≡ span.old.bodies → σ.depths ≡ depths → σ.tick ≡ tick →
    StepEnds span.gravity span.passes span.old span.new (λ stop. base_step plan stop (is_known known) σ) tick (began course.setup.now.top_bin tick + 2 ^ course.setup.now.top_bin) ended

-- as it was recorded
abbrev pub Records : Course → List BodyData → List BodyData → List ℕ → ℕ → Option FieldData → ForceSpan (Files → List (List ℕ) → ℕ → Option Call → World) → Recorded → Type 0
Records course B C depths tick known span r = (plan : Plan) (σ : StateData) (f : Files) (k : List (List ℕ)) (n : ℕ) (l : Option Call) → plan.rules ≡ rules span.gravity (option_copied course.expansion) → σ.bodies ≡ B → σ.depths ≡ depths → σ.tick ≡ tick →
    IsRecorded plan course.own.now span.passes (is_known known) σ C r.log (span.old f k n l) (span.new f k n l) r.ended

-- as it was made from a run's state on
abbrev pub MakesStep : Course → Run → ForceSpan (Files → List (List ℕ) → ℕ → Option Call → World) → Stepped → Type 0
MakesStep course run span s = (f : Files) (k : List (List ℕ)) (n : ℕ) (l : Option Call) →
    StepMade (plan_of span.gravity (option_copied course.expansion) course.params.now course.outputs.now) course.own.now span.passes (is_known run.known) run.state s.log (span.old f k n l) (span.new f k n l) s.made

-- ---- turns

-- a session that has come to this point of a run turns so
abbrev pub TakesTurn : Course → Run → RunSpan → Turn → Type 0
TakesTurn course run span t = (start : World) (sessions : Option ℕ → SessionData) →
    Comes (basis_of span.gravity course span.told start) span.passes sessions run.state (is_known run.known) span.old → TurnEnds (basis_of span.gravity course span.told start) span.passes sessions span.new t

-- it is made to its end, or to a stop
abbrev pub MakesSteps : Course → Run → RunSpan → Turn → Type 0
MakesSteps course run span t = (start : World) (sessions : Option ℕ → SessionData) →
    Comes (basis_of span.gravity course span.told start) span.passes sessions run.state (is_known run.known) span.old → StepsEnd (basis_of span.gravity course span.told start) span.passes sessions span.new t

-- it is broken off
abbrev pub BreaksFrom : Course → Run → RunSpan → Failure → Type 0
BreaksFrom course run span e = (start : World) (sessions : Option ℕ → SessionData) →
    Comes (basis_of span.gravity course span.told start) span.passes sessions run.state (is_known run.known) span.old → HasBroken (basis_of span.gravity course span.told start) span.passes sessions (fault_of e) span.new

-- ---- the whole

-- the session from a state on in which nothing was done yet is made to its end, or to a stop; or it is broken off
abbrev pub MakesSession : Course → Bool → StateData → RunSpan → Turn → Type 0
MakesSession course resumed σ span t = (start : World) → Matches (basis_of span.gravity course span.told start) span.passes (start_session σ) σ span.old →
    StepsEnd (basis_of span.gravity course span.told start) span.passes (λ s. session (plan_of span.gravity (option_copied course.expansion) course.params.now course.outputs.now) resumed s σ) span.new t

abbrev pub SessionBreaks : Course → Bool → StateData → RunSpan → Failure → Type 0
SessionBreaks course resumed σ span e = (start : World) → Matches (basis_of span.gravity course span.told start) span.passes (start_session σ) σ span.old →
    HasBroken (basis_of span.gravity course span.told start) span.passes (λ s. session (plan_of span.gravity (option_copied course.expansion) course.params.now course.outputs.now) resumed s σ) (fault_of e) span.new

-- how the session of these settings, from a state on, ended with its files
abbrev pub LeavesBy : Option ExpansionData → ParamsData → List ℕ → Bool → StateData → RunSpan → Result Turn Failure → Type 0
LeavesBy e p times resumed σ span made = SessionLeaves p resumed σ span.passes span.told (λ s. session (plan_of span.gravity e p times) resumed s σ) span.old span.new made

abbrev pub CourseLeaves : Course → Bool → StateData → RunSpan → Result Turn Failure → Type 0
CourseLeaves course resumed σ span made = LeavesBy (option_copied course.expansion) course.params.now course.outputs.now resumed σ span made

abbrev pub InputsLeave : Inputs → Bool → StateData → RunSpan → Result Turn Failure → Type 0
InputsLeave inputs resumed σ span made = LeavesBy (option_copied inputs.expansion) inputs.params.now inputs.outputs.now resumed σ span made

-- how a run by these inputs ends, from a state on, resumed or not
abbrev pub Runs : Inputs → Bool → StateData → RunSpan → Ended → Type 0
Runs inputs resumed σ span ended =
    RunEnds (plan_of span.gravity (option_copied inputs.expansion) inputs.params.now inputs.outputs.now) inputs.params.now resumed σ span.passes span.told span.old span.new ended
