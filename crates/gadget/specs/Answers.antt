-- When each answer may be given, what it leaves, and what is printed.
use Rattle.std.specs.Prelude.{◌≡◌, ◌⊎◌, ℕ, Bool, true, false, IsTrue, List, Option}
use Rattle.store_io.specs.Causes.{Rose}
use Rattle.store_io.specs.Files.{Files}
use Rattle.store_io.specs.Sinks.{Follows, FollowsPart}
use Rattle.store_io.specs.declared.store.Store as store
use Rattle.store_io.specs.declared.schedule.Schedule as schedule
use Rattle.store_io.specs.declared.stopper.Stopper as stopper
use Rattle.store_io.specs.declared.sink.Sink as sink
use Rattle.nbody_model.specs.Bodies.{BodyData}
use Rattle.nbody_model.specs.Setups.{SetupData}
use Rattle.nbody_model.specs.States.{StateData}
use Rattle.nbody_model.specs.Tables.{Gravity}
use Rattle.param_file.specs.Settings.{setup_of}
use Rattle.restart_laws.specs.Kept.{IsFirst}
use Rattle.rank_laws.specs.Played.{Picks}
use Rattle.rank_field.specs.Fields.{IsPlayedAmong, picks_of}
use Rattle.run_session.specs.declared.ended.Ended.{Ended}
use Rattle.run_session.specs.RunEnds.{RunEnds}
use Rattle.run_session.specs.Worlds.{World, world_by}
use Rattle.gadget.specs.declared.status.Status.{Status}
use Rattle.gadget.specs.declared.status.Status.TheVariants.{Usage, Memory, ConsoleFault}
use Rattle.gadget.specs.declared.sessions.Way.{Way}
use Rattle.gadget.specs.declared.outcome.Outcome.{Outcome}
use Rattle.gadget.specs.declared.outcome.Outcome.TheVariants.{Ran, Checked, Shown, Made, Grouped, Linked, Refused}
use Rattle.gadget.specs.Commands.{Asked, nothing, run, resume, check, show, make, groups, links}
use Rattle.gadget.specs.Reads.{Seen, seen}
use Rattle.gadget.specs.Inputs.{InputsData}
use Rattle.gadget.specs.Snapshots.{NamesSnapshot, SnapshotRefusal}
use Rattle.gadget.specs.Begins.{BeginsWith, RunRefusal, GoesOnFrom, GoesOnAsKept, ResumeRefusal, first_state, plan_by}
use Rattle.gadget.specs.Making.{MakeDoes}
use Rattle.gadget.specs.Grouping.{GroupsDoes}
use Rattle.gadget.specs.Linking.{LinksDoes}
use Rattle.gadget.specs.Outcomes.{status_of, text_of}

-- ---- what is told before and after

-- of a store, of a schedule and of who may stop a run: forces that ranks find go on by the state of their schedule
abbrev pub world : {X Y Z : Type 0} → store.Ghosts X → schedule.Ghosts Y → stopper.Ghosts Z → X → Y → Z → World
world S K Q x y z = world_by S Q x z (K.state y)

-- of a schedule: what it answers in a state and the state after that, and the state after a seed
pub record Order : Type 0 where
  pub picks : Picks
  pub seeded : List ℕ → ℕ → List ℕ

abbrev pub order_by : {X : Type 0} → schedule.Ghosts X → Order
order_by K = record { picks = picks_of K; seeded = K.seeded }

-- all of them, before and after a call
pub record Edge : Type 0 where
  pub tells : Bool
  pub order : Order
  pub old : World
  pub new : World

abbrev pub edge_by : {X Y Z : Type 0} → store.Ghosts X → schedule.Ghosts Y → stopper.Ghosts Z → X → Y → Z → X → Y → Z → Edge
edge_by S K Q x y z u v w = record { tells = S.tells x; order = order_by K; old = world S K Q x y z; new = world S K Q u v w }

-- of a sink
pub record Console : Type 0 where
  pub written : Option (List ℕ)
  pub faults : ℕ

abbrev pub console : {X : Type 0} → sink.Ghosts X → X → Console
console O out = record { written = O.written out; faults = O.faults out }

-- before and after a call
pub record Said : Type 0 where
  pub old : Console
  pub new : Console

abbrev pub said_by : {X : Type 0} → sink.Ghosts X → X → X → Said
said_by O x y = record { old = console O x; new = console O y }

-- no file changed, none was finished, the schedule is as before, and nobody was asked whether to stop
pub record Untouched (A Z : World) : Type 0 where
  pub files : Z.files ≡ A.files
  pub closed : Z.closed ≡ A.closed
  pub state : Z.state ≡ A.state
  pub yes : Z.yes ≡ A.yes
  pub left : Z.left ≡ A.left

-- nobody was asked whether to stop
pub record Unasked (A Z : World) : Type 0 where
  pub yes : Z.yes ≡ A.yes
  pub left : Z.left ≡ A.left

-- ---- a run, and one that is resumed

-- what is told before a session: the schedule has the state that a seed leaves
abbrev pub seeded_by : Edge → ℕ → World
seeded_by e seed = record e.old { state = e.order.seeded e.old.state seed }

-- how a run by these inputs ends, resumed or not, against the session of the model: each asked force has a finished run of
-- the machine of so many ranks, the first played from the state that `DeliverySeed` leaves, each further one from the state
-- in which the one before ended
abbrev pub SessionEnds : Way → Edge → InputsData → StateData → Ended → Type 0
SessionEnds way e i σ ended =
    let g : Gravity = record { setup = setup_of i.params; table = i.table } in
    RunEnds (plan_by i) i.params way.resumed σ (IsPlayedAmong e.order.picks g way.ranks) e.tells (seeded_by e i.params.delivery_seed) e.new ended

abbrev pub anew : ℕ → Way
anew ranks = record { resumed = false; ranks = ranks }

abbrev pub going_on : ℕ → Way
going_on ranks = record { resumed = true; ranks = ranks }

-- the inputs of a run are accepted, and from tick 0, with bodies that a file has room for, it came to this end
pub record IsRun (ranks : ℕ) (e : Edge) (name : List ℕ) (ended : Ended) (s : SetupData) : Type 0 where
  pub inputs : InputsData
  pub bodies : List BodyData
  pub accepted : IsTrue e.tells → BeginsWith e.old.files name inputs bodies
  pub first : IsFirst (first_state bodies)
  pub ends : SessionEnds (anew ranks) e inputs (first_state bodies) ended
  pub setup : s ≡ setup_of inputs.params

-- the inputs of a run that is resumed are accepted, and from the state of the restart file it came to this end; its session
-- goes on exactly as any run from tick 0 that kept the file
pub record IsResumed (ranks : ℕ) (e : Edge) (name restart : List ℕ) (ended : Ended) (s : SetupData) : Type 0 where
  pub inputs : InputsData
  pub state : StateData
  pub accepted : IsTrue e.tells → GoesOnFrom e.old.files name restart inputs state
  pub goes_on : IsTrue e.tells → GoesOnAsKept e.old.files restart (plan_by inputs) state
  pub ends : SessionEnds (going_on ranks) e inputs state ended
  pub setup : s ≡ setup_of inputs.params

-- what a call showed of the files, as far as reading goes
abbrev pub shown : Edge → Seen
shown e = seen e.tells e.old e.new

-- either is refused by its inputs, before any file changes, or it runs
abbrev pub RunDoes : ℕ → Edge → List ℕ → Outcome → Type 0
RunDoes ranks e name (Ran ended s) = IsRun ranks e name ended s
RunDoes ranks e name (Refused status) = RunRefusal (shown e) name status × Untouched e.old e.new
RunDoes ranks e name (Checked B) = ⊥
RunDoes ranks e name (Shown head B) = ⊥
RunDoes ranks e name (Made count made) = ⊥
RunDoes ranks e name (Grouped number members) = ⊥
RunDoes ranks e name (Linked count) = ⊥

abbrev pub ResumeDoes : ℕ → Edge → List ℕ → List ℕ → Outcome → Type 0
ResumeDoes ranks e name restart (Ran ended s) = IsResumed ranks e name restart ended s
ResumeDoes ranks e name restart (Refused status) = ResumeRefusal (shown e) name restart status × Untouched e.old e.new
ResumeDoes ranks e name restart (Checked B) = ⊥
ResumeDoes ranks e name restart (Shown head B) = ⊥
ResumeDoes ranks e name restart (Made count made) = ⊥
ResumeDoes ranks e name restart (Grouped number members) = ⊥
ResumeDoes ranks e name restart (Linked count) = ⊥

-- ---- the commands that write nothing

-- the inputs of a run by this parameter file are accepted, and it would begin with these bodies
pub record WouldBegin (files : Files) (name : List ℕ) (B : List BodyData) : Type 0 where
  pub inputs : InputsData
  pub accepted : BeginsWith files name inputs B

-- what may be refused or done, where done means that no call failed
abbrev pub CheckDoes : Seen → List ℕ → Outcome → Type 0
CheckDoes s name (Checked B) = (s.faults_new ≡ s.faults) × (IsTrue s.tells → WouldBegin s.files name B)
CheckDoes s name (Refused status) = RunRefusal s name status
CheckDoes s name (Ran ended setup) = ⊥
CheckDoes s name (Shown head B) = ⊥
CheckDoes s name (Made count made) = ⊥
CheckDoes s name (Grouped number members) = ⊥
CheckDoes s name (Linked count) = ⊥

abbrev pub ShowDoes : Seen → List ℕ → Outcome → Type 0
ShowDoes s name (Shown head B) = (s.faults_new ≡ s.faults) × (IsTrue s.tells → NamesSnapshot s.files name head B)
ShowDoes s name (Refused status) = SnapshotRefusal s name status
ShowDoes s name (Ran ended setup) = ⊥
ShowDoes s name (Checked B) = ⊥
ShowDoes s name (Made count made) = ⊥
ShowDoes s name (Grouped number members) = ⊥
ShowDoes s name (Linked count) = ⊥

-- ---- every command

-- a command was refused at once
abbrev pub RefusesAtOnce : World → World → Outcome → Status → Type 0
RefusesAtOnce A Z outcome status = (outcome ≡ Refused status) × Untouched A Z

-- what a command may come to, and what it leaves
abbrev pub Does : Asked → Edge → Outcome → Type 0
Does nothing e outcome = RefusesAtOnce e.old e.new outcome Usage
Does (run param ranks) e outcome = RunDoes ranks e param outcome
Does (resume param restart ranks) e outcome = ResumeDoes ranks e param restart outcome
Does (check param) e outcome = CheckDoes (shown e) param outcome × Untouched e.old e.new
Does (show name) e outcome = ShowDoes (shown e) name outcome × Untouched e.old e.new
Does (make count seed name) e outcome = MakeDoes e.tells e.old e.new count seed name outcome × Unasked e.old e.new
Does (groups snapshot reach least name) e outcome = GroupsDoes e.tells e.old e.new snapshot reach least name outcome × Unasked e.old e.new
Does (links first second name) e outcome = LinksDoes e.tells e.old e.new first second name outcome × Unasked e.old e.new

-- ---- what is printed

-- the lines were printed, no write failed, and the answer is the status
pub record IsPrinted (status : Status) (lines : List ℕ) (old new : Console) (answer : Status) : Type 0 where
  pub is : answer ≡ status
  pub printed : Follows old.written new.written lines
  pub quiet : new.faults ≡ old.faults

-- the sink failed, and a first part of the lines was printed
pub record IsBrokenLine (lines : List ℕ) (old new : Console) (answer : Status) : Type 0 where
  pub is : answer ≡ ConsoleFault
  pub rose : Rose old.faults new.faults
  pub printed : FollowsPart old.written new.written lines

-- one of these, or memory was wanting
abbrev pub Prints : Status → List ℕ → Console → Console → Status → Type 0
Prints status lines old new answer = IsPrinted status lines old new answer ⊎ (IsBrokenLine lines old new answer ⊎ (answer ≡ Memory))

-- ---- the top call

-- how it ends: the command that the words ask for came to an outcome, whose lines are printed and whose status is the answer
pub record Ends (asked : Asked) (e : Edge) (said : Said) (answer : Status) : Type 0 where
  pub outcome : Outcome
  pub does : Does asked e outcome
  pub prints : Prints (status_of outcome) (text_of outcome) said.old said.new answer
