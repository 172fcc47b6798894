-- The program's promise on ranks: neither how many there are nor the order of their messages shows in what a run leaves.
use Rattle.std.specs.Prelude.{◌≡◌, ◌⊎◌, ℕ, false, true, List, Some}
use Rattle.store_io.specs.Files.{Files}
use Rattle.store_io.specs.Sinks.{Follows}
use Rattle.nbody_model.specs.Bodies.{BodyData}
use Rattle.nbody_model.specs.States.{StateData}
use Rattle.run_session.specs.Own.{own_files}
use Rattle.gadget.specs.declared.status.Status.{Status}
use Rattle.gadget.specs.Commands.{Asked, run, resume}
use Rattle.gadget.specs.Inputs.{InputsData}
use Rattle.gadget.specs.Begins.{BeginsWith, GoesOnFrom, first_state}
use Rattle.gadget.specs.Answers.{Edge, Ends, Said}
use Rattle.gadget.specs.Decided.{FindOneFolder, IsDecided}

-- a call of the program: what is told before and after it, of the sink too, and the answer
pub record Report : Type 0 where
  pub edge : Edge
  pub said : Said
  pub answer : Status

-- it ends as the contract of the top call says
abbrev pub EndsAs : Asked → Report → Type 0
EndsAs asked x = Ends asked x.edge x.said x.answer

-- two calls have one status, print one text, and leave the same files but for some names
pub record LookAlike (Hidden : List ℕ → Type 0) (x y : Report) : Type 0 where
  pub status : x.answer ≡ y.answer
  pub text : List ℕ
  pub first : Follows x.said.old.written x.said.new.written text
  pub second : Follows y.said.old.written y.said.new.written text
  pub files : (name : List ℕ) → (x.edge.new.files name ≡ y.edge.new.files name) ⊎ Hidden name

-- the file of a name is the trace file of a run by an accepted parameter file
pub record TracesRun (files : Files) (param name : List ℕ) : Type 0 where
  pub inputs : InputsData
  pub bodies : List BodyData
  pub accepted : BeginsWith files param inputs bodies
  pub named : (own_files inputs.params false (first_state bodies)).trace ≡ Some name

-- the same of a run that is resumed
pub record TracesResumed (files : Files) (param restart name : List ℕ) : Type 0 where
  pub inputs : InputsData
  pub state : StateData
  pub accepted : GoesOnFrom files param restart inputs state
  pub named : (own_files inputs.params true state).trace ≡ Some name

-- two calls of `run` whose words differ in the number of ranks alone, over the same files, by whatever schedules in whatever
-- states: where neither answers a fault, a stop or want of memory, they look alike but for the trace file
abbrev pub NoRanksShowInRuns : Type 0
NoRanksShowInRuns = (param : List ℕ) (n m : ℕ) (x y : Report) → FindOneFolder x.edge y.edge → EndsAs (run param n) x → EndsAs (run param m) y →
    IsDecided x.answer → IsDecided y.answer → LookAlike (TracesRun x.edge.old.files param) x y

-- the same of `resume`
abbrev pub NoRanksShowInResumed : Type 0
NoRanksShowInResumed = (param restart : List ℕ) (n m : ℕ) (x y : Report) → FindOneFolder x.edge y.edge → EndsAs (resume param restart n) x → EndsAs (resume param restart m) y →
    IsDecided x.answer → IsDecided y.answer → LookAlike (TracesResumed x.edge.old.files param restart) x y
