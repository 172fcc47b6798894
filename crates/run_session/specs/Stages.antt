-- Where a run stands, and how its parts end.
use Rattle.std.specs.Prelude.{◌≡◌, ◌≤◌, ◌<◌, ⊤, ◌⊎◌, ℕ, ◌+◌, Bool, false, IsTrue, List, [], ◌∷◌, ◌++◌, length, map, Option, Some, None, IfSome, if◌then◌else◌, not, ◌&&◌, true, nat_lt, ◌%◌, ◌==◌}
use Rattle.std.specs.List.{flat_map}
use Rattle.store_io.specs.Files.{Files}
use Rattle.store_io.specs.Causes.{Rose}
use Rattle.store_io.specs.Stops.{Asks}
use Rattle.nbody_model.specs.declared.field.Event.{Event}
use Rattle.nbody_model.specs.Setups.{last_tick}
use Rattle.nbody_model.specs.Tables.{Gravity, ExpansionData, Reaches}
use Rattle.nbody_model.specs.Fields.{FieldData}
use Rattle.nbody_model.specs.Passes.{PassesAll, Passes}
use Rattle.nbody_model.specs.Evolve.{Happening, Progress, Refusal, Going, Refused, Resting, records_of, asked_of, bins_of, rests_of, is_empty}
use Rattle.nbody_model.specs.States.{StateData}
use Rattle.nbody_model.specs.Session.{Plan, SessionData, Written, End, Done, Stopped, asked, advanced, rested, base_step, with_restart, synchronised, session_from, is_done, is_running, is_stop}
use Rattle.nbody_model.specs.Texts.{kick_text, trace_text, bins_record}
use Rattle.param_file.specs.Settings.{ParamsData, setup_of}
use Rattle.step_engine.specs.Told.{AreForcesAmong}
use Rattle.step_engine.specs.BaseSteps.{StandsFor}
use Rattle.run_session.specs.Own.{Own, OwnTexts, Stands, HasPart, IsOther}
use Rattle.run_session.specs.Changes.{AreThere}
use Rattle.run_session.specs.Outputs.{file_name, file_bytes, with_file, with_written, found_in, session_texts}
use Rattle.run_session.specs.Broken.{IsGoing}
use Rattle.run_session.specs.RunEnds.{plan_of, IsAnsweredYes}
use Rattle.run_session.specs.Worlds.{World}

-- ---- what a run goes by

-- the plan, the settings, the names of the files that it keeps open, whether files are told, and what was told at its start
pub record Basis : Type 0 where
  pub plan : Plan
  pub params : ParamsData
  pub own : Own
  pub told : Bool
  pub start : World

abbrev pub basis : Gravity → Option ExpansionData → ParamsData → Own → List ℕ → Bool → World → Basis
basis g e p own times told start = record { plan = plan_of g e p times; params = p; own = own; told = told; start = start }

-- forces stand for the settings, and a table of factors, if there is one, reaches the last tick
pub record IsSound (plan : Plan) (p : ParamsData) : Type 0 where
  pub stands : StandsFor plan.rules.gravity (setup_of p)
  pub spans : IfSome plan.rules.expansion (λ e. Reaches e (last_tick (setup_of p)))

-- no file of a session has the name of one that is kept open
abbrev pub AreOthers : ParamsData → Own → Type 0
AreOthers p o = (w : Written) → IsOther o (file_name p w)

-- the files that are kept open go on standing
abbrev pub KeepsOwn : Own → Bool → Files → Files → Type 0
KeepsOwn o told old new = IsTrue told → AreThere o old → AreThere o new

-- ---- one file of a session

-- beside the files that are kept open, this file was written, and finished
pub record WritesFile (p : ParamsData) (o : Own) (w : Written) (told : Bool) (old new : Files) (closed_old closed_new : List (List ℕ)) : Type 0 where
  pub files : (t : OwnTexts) (W : Files) → IsTrue told → Stands o t W old → Stands o t (with_file (file_name p w) (file_bytes p w) W) new
  pub closed : IsTrue told → closed_new ≡ closed_old ++ file_name p w ∷ []

-- the files that are kept open hold these texts, and every other one is as in W, or has this name and holds a first part of
-- these bytes
pub record StandsBut (o : Own) (t : OwnTexts) (name bytes : List ℕ) (W files : Files) : Type 0 where
  pub kicks : files o.kicks ≡ Some t.kicks
  pub trace : IfSome o.trace (λ n. files n ≡ Some t.trace)
  pub bins : IfSome o.bins (λ n. files n ≡ Some t.bins)
  pub others : (q : List ℕ) → IsOther o q → (files q ≡ W q) ⊎ ((q ≡ name) × HasPart (files q) bytes)

-- this file was begun at most
pub record WritesPart (p : ParamsData) (o : Own) (w : Written) (told : Bool) (old new : Files) (closed_old closed_new : List (List ℕ)) : Type 0 where
  pub files : (t : OwnTexts) (W : Files) → IsTrue told → Stands o t W old → StandsBut o t (file_name p w) (file_bytes p w) W new
  pub closed : IsTrue told → closed_new ≡ closed_old

-- ---- sessions that grow

-- a list is a first part of another
pub record IsFirst {X : Type 0} (first whole : List X) : Type 0 where
  pub more : List X
  pub is : whole ≡ first ++ more

-- what was written, what happened and what was asked in a session are first parts of those of another
pub record GrowsTo (d e : SessionData) : Type 0 where
  pub written : IsFirst d.written e.written
  pub trail : IsFirst d.trail e.trail
  pub questions : IsFirst d.questions e.questions

-- ---- the files and the objects against a session

-- so many questions were answered no
abbrev pub IsLeft : Option ℕ → ℕ → Option ℕ → Type 0
IsLeft None n None = ⊤
IsLeft (Some left) n (Some now) = left ≡ n + now
IsLeft None n (Some now) = ⊥
IsLeft (Some left) n None = ⊥

-- no fault and no yes was counted, and so many questions were answered no
pub record IsQuietly (old new : World) (questions : ℕ) : Type 0 where
  pub faults : new.faults ≡ old.faults
  pub last : new.last ≡ old.last
  pub yes : new.yes ≡ old.yes
  pub left : IsLeft old.left questions new.left

-- the files are those of a session so far, and its forces were found one after another
pub record HasFiles (C : Basis) (passes : Passes) (d : SessionData) (new : World) : Type 0 where
  pub events : List (List Event)
  pub found : PassesAll passes (asked d) C.start.state events new.state
  pub files : IsTrue C.told → Stands C.own (session_texts d events) (with_written C.params d.written C.start.files) new.files
  pub closed : IsTrue C.told → new.closed ≡ C.start.closed ++ map (file_name C.params) d.written

-- all is as in a session so far, whose last state this is
pub record Matches (C : Basis) (passes : Passes) (d : SessionData) (σ : StateData) (new : World) : Type 0 where
  pub state : d.state ≡ σ
  pub files : HasFiles C passes d new
  pub quiet : IsQuietly C.start new (length d.questions)

-- whatever this session so far grows to: the files are left as after a fault at this file, or want of memory, in that session
pub record IsBrokenIn (C : Basis) (passes : Passes) (d : SessionData) (fault : Option (List ℕ)) (new : World) : Type 0 where
  pub going : (e : SessionData) → GrowsTo d e → IsGoing C.params C.own passes C.told e fault C.start new

-- ---- what a base step left in memory

-- the texts agree in the files that there are
pub record AgreeIn (o : Own) (a b : OwnTexts) : Type 0 where
  pub kicks : a.kicks ≡ b.kicks
  pub trace : IfSome o.trace (λ n. a.trace ≡ b.trace)
  pub bins : IfSome o.bins (λ n. a.bins ≡ b.bins)

-- what happened in a step as texts, by the events in which its forces were found
abbrev pub step_texts : List Happening → List (List Event) → OwnTexts
step_texts trail events = record {
  kicks = kick_text (records_of trail);
  trace = trace_text (found_in (asked_of trail) events);
  bins = flat_map bins_record (bins_of trail);
}

-- the log has the texts of what happened in a step, whose forces were found one after another
pub record IsLogged (o : Own) (passes : Passes) (trail : List Happening) (a z : List ℕ) (log : OwnTexts) : Type 0 where
  pub events : List (List Event)
  pub found : PassesAll passes (asked_of trail) a events z
  pub same : AgreeIn o log (step_texts trail events)

-- ---- a run between two base steps, or before the rest of one

-- the forces among all bodies, if they are known, are these, and the state is one from which a base step or the rest of one
-- can be made
pub record IsReady (plan : Plan) (p : ParamsData) (σ : StateData) (field : Option FieldData) : Type 0 where
  pub sound : IsSound plan p
  pub known : IfSome field (AreForcesAmong plan.rules.gravity σ.bodies)

-- a stop, if there is one, comes later than this tick; or not before it
abbrev pub IsLater : ℕ → Option ℕ → Type 0
IsLater tick None = ⊤
IsLater tick (Some u) = tick < u

abbrev pub IsFrom : ℕ → Option ℕ → Type 0
IsFrom tick None = ⊤
IsFrom tick (Some u) = tick ≤ u

-- the session with this stop has come here, and n more base steps are enough for what is left
pub record HasCome (C : Basis) (passes : Passes) (sessions : Option ℕ → SessionData) (σ : StateData) (known : Bool) (new : World) (stop : Option ℕ) : Type 0 where
  pub d : SessionData
  pub n : ℕ
  pub same : sessions stop ≡ session_from n C.plan stop known d
  pub matches : Matches C passes d σ new
  pub end : d.end ≡ Done
  pub enough : C.plan.rules.gravity.setup.time_max ≤ σ.tick + n
  pub some : is_empty σ.depths ≡ false → 1 ≤ n

-- what a session makes of a synchronisation
abbrev pub onwards : ℕ → Plan → Option ℕ → Bool → SessionData → SessionData
onwards n plan stop known e = if is_done e.end then session_from n plan stop known e else e

-- the session with this stop has come to a synchronisation, which isn't handled yet
pub record IsAtSync (C : Basis) (passes : Passes) (sessions : Option ℕ → SessionData) (before : Option ℕ) (σ : StateData) (known : Bool) (new : World) (stop : Option ℕ) : Type 0 where
  pub d : SessionData
  pub n : ℕ
  pub same : sessions stop ≡ onwards n C.plan stop known (synchronised C.plan stop before d)
  pub matches : Matches C passes d σ new
  pub enough : C.plan.rules.gravity.setup.time_max ≤ σ.tick + n

-- the session was stopped at a tick, with these files
pub record HasStopped (C : Basis) (passes : Passes) (sessions : Option ℕ → SessionData) (σ : StateData) (new : World) : Type 0 where
  pub state : (sessions (Some σ.tick)).state ≡ σ
  pub end : (sessions (Some σ.tick)).end ≡ Stopped
  pub files : HasFiles C passes (sessions (Some σ.tick)) new
  pub faults : new.faults ≡ C.start.faults
  pub last : new.last ≡ C.start.last
  pub yes : Rose C.start.yes new.yes
  pub question : IsAnsweredYes C.start.left (sessions None).questions σ.tick

-- the session has ended so, with these files
pub record HasEnded (C : Basis) (passes : Passes) (d : SessionData) (why : End) (new : World) : Type 0 where
  pub end : d.end ≡ why
  pub files : HasFiles C passes d new
  pub quiet : IsQuietly C.start new (length d.questions)

-- ---- a synchronisation

-- the stopper is asked there: in a session that goes on, but not at its first tick
abbrev pub asks_at : Option ℕ → Bool → Bool
asks_at None running = false
asks_at (Some before) running = running

-- the answer of a stopper that was asked, or wasn't
abbrev pub IsAnswer : Bool → Bool → ℕ → ℕ → Option ℕ → Option ℕ → Type 0
IsAnswer true answer yeses yeses_now left left_now = Asks answer yeses yeses_now left left_now
IsAnswer false answer yeses yeses_now left left_now = (answer ≡ false) × ((yeses_now ≡ yeses) × (left_now ≡ left))

-- so many questions were left to be answered no, where that is told
abbrev pub IsLast : Option ℕ → ℕ → Type 0
IsLast left questions = IfSome left (λ n. n ≡ questions)

-- it was stopped there
pub record IsHalted (C : Basis) (passes : Passes) (before : Option ℕ) (d : SessionData) (σ : StateData) (new : World) : Type 0 where
  pub state : (synchronised C.plan (Some d.state.tick) before d).state ≡ σ
  pub end : (synchronised C.plan (Some d.state.tick) before d).end ≡ Stopped
  pub files : HasFiles C passes (synchronised C.plan (Some d.state.tick) before d) new
  pub faults : new.faults ≡ C.start.faults
  pub last : new.last ≡ C.start.last
  pub yes : Rose C.start.yes new.yes
  pub asked : asks_at before (is_running C.plan d.state) ≡ true
  pub question : IsLast C.start.left (length d.questions)

-- it goes on, unless this is the tick to stop at
pub record GoesOn (C : Basis) (passes : Passes) (before : Option ℕ) (d : SessionData) (σ : StateData) (new : World) (stop : Option ℕ) : Type 0 where
  pub matches : Matches C passes (synchronised C.plan stop before d) σ new
  pub end : (synchronised C.plan stop before d).end ≡ Done

abbrev pub SyncEnds : Basis → Passes → Option ℕ → SessionData → StateData → Bool → World → Type 0
SyncEnds C passes before d σ true new = IsHalted C passes before d σ new
SyncEnds C passes before d σ false new = (stop : Option ℕ) → is_stop stop d.state.tick ≡ false → GoesOn C passes before d σ new stop

-- the stop of a session that was stopped at a tick, or wasn't
abbrev pub stop_if : Bool → ℕ → Option ℕ
stop_if true tick = Some tick
stop_if false tick = None

-- the answer there was yes, or there was none
abbrev pub Answers : Basis → Option ℕ → SessionData → Bool → World → Type 0
Answers C before d true new = Rose C.start.yes new.yes × (asks_at before (is_running C.plan d.state) ≡ true) × IsLast C.start.left (length d.questions)
Answers C before d false new = new.yes ≡ C.start.yes

-- it was broken off there, after a yes or without one
pub record SyncBreaks (C : Basis) (passes : Passes) (before : Option ℕ) (d : SessionData) (answer : Bool) (fault : Option (List ℕ)) (new : World) : Type 0 where
  pub answered : Answers C before d answer new
  pub broken : IsBrokenIn C passes (synchronised C.plan (stop_if answer d.state.tick) before d) fault new

-- a restart file is written after so many base steps
abbrev pub kept_after : ℕ → ℕ → Bool → Bool
kept_after every steps running = running && (not (every == 0) && (nat_lt 0 steps && steps % every == 0))

-- ---- a base step of a run

-- so many questions were answered no in a step, and then, if it rests, one was answered yes
abbrev pub IsLeftIn : Option ℕ → List ℕ → Option ℕ → Type 0
IsLeftIn left rests left_now = IsLeft left (length rests) left_now

-- the last of these questions was answered yes, where the number left is told
abbrev pub IsLastOf : Option ℕ → List ℕ → Type 0
IsLastOf None rests = ⊤
IsLastOf (Some left) rests = left + 1 ≡ length rests

-- the whole step, for this stop
pub record IsWhole (plan : Plan) (o : Own) (passes : Passes) (known : Bool) (σ τ : StateData) (log : OwnTexts) (old new : World) (stop : Option ℕ) : Type 0 where
  pub p : Progress
  pub is : base_step plan stop known σ ≡ Going p
  pub state : τ ≡ advanced plan p σ
  pub logged : IsLogged o passes p.trail old.state new.state log
  pub left : IsLeftIn old.left (rests_of p.trail) new.left

-- it rests
pub record IsAtRest (plan : Plan) (o : Own) (passes : Passes) (known : Bool) (σ τ : StateData) (log : OwnTexts) (old new : World) : Type 0 where
  pub p : Progress
  pub parts : List (List ℕ)
  pub is : base_step plan (Some τ.tick) known σ ≡ Resting p τ.tick parts
  pub state : τ ≡ rested p τ.tick parts σ
  pub logged : IsLogged o passes p.trail old.state new.state log
  pub yes : Rose old.yes new.yes
  pub left : IsLastOf old.left (rests_of p.trail)

-- it is refused
pub record IsOut (plan : Plan) (o : Own) (passes : Passes) (known : Bool) (σ : StateData) (why : Refusal) (log : OwnTexts) (old new : World) : Type 0 where
  pub p : Progress
  pub is : base_step plan None known σ ≡ Refused p why
  pub logged : IsLogged o passes p.trail old.state new.state log
  pub left : IsLeftIn old.left (rests_of p.trail) new.left

-- the session was stopped at rest, and its restart file is still to be written
pub record RestsIn (C : Basis) (passes : Passes) (sessions : Option ℕ → SessionData) (τ : StateData) (new : World) : Type 0 where
  pub d : SessionData
  pub is : sessions (Some τ.tick) ≡ with_restart true d
  pub state : d.state ≡ τ
  pub end : d.end ≡ Stopped
  pub files : HasFiles C passes d new
  pub faults : new.faults ≡ C.start.faults
  pub last : new.last ≡ C.start.last
  pub yes : Rose C.start.yes new.yes
  pub question : IsAnsweredYes C.start.left (sessions None).questions τ.tick
