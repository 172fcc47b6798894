-- The total momentum of a run is kept: what each of its kicks tells, and what stands in its kick file.
use Rattle.std.specs.Prelude.{◌≡◌, ◌⊎◌, ℕ, IsTrue, List, [], ◌++◌, drop, take, Option, Some}
use Rattle.std.specs.List.{AllByRecursion}
use Rattle.nbody_model.specs.declared.kicks.Record.{Record}
use Rattle.nbody_model.specs.Bodies.{components, total}
use Rattle.nbody_model.specs.Session.{records, session, tells}
use Rattle.nbody_model.specs.States.{StateData}
use Rattle.nbody_model.specs.Texts.{kick_text}
use Rattle.run_session.specs.declared.ended.Ended.{Ended}
use Rattle.run_session.specs.declared.ended.End.{End}
use Rattle.run_session.specs.declared.ended.End.TheVariants as ends
use Rattle.run_session.specs.Own.{own_files}
use Rattle.gadget.specs.declared.sessions.Way.{Way}
use Rattle.gadget.specs.Inputs.{InputsData}
use Rattle.gadget.specs.Begins.{plan_by}
use Rattle.gadget.specs.Answers.{Edge, SessionEnds}

-- a file holds the whole lines of the first of some kicks, and then a first part of the next line
pub record HoldsLines (file : Option (List ℕ)) (kicks : List Record) : Type 0 where
  pub whole : ℕ
  pub part : ℕ
  pub is : file ≡ Some (kick_text (take whole kicks) ++ take part (kick_text (take 1 (drop whole kicks))))

-- what stands in the kick file of a run that ended so: all lines; where it was broken off the first ones; or, where the file
-- couldn't be made, what stood there before or nothing
abbrev pub KickFile : End → Option (List ℕ) → Option (List ℕ) → List Record → Type 0
KickFile ends.Done before file kicks = file ≡ Some (kick_text kicks)
KickFile ends.Stopped before file kicks = file ≡ Some (kick_text kicks)
KickFile (ends.MomRange tick bin id axis) before file kicks = file ≡ Some (kick_text kicks)
KickFile (ends.StepRange tick id) before file kicks = file ≡ Some (kick_text kicks)
KickFile (ends.WriteFault name) before file kicks = HoldsLines file kicks ⊎ ((file ≡ before) ⊎ (file ≡ Some []))
KickFile ends.Memory before file kicks = HoldsLines file kicks ⊎ ((file ≡ before) ⊎ (file ≡ Some []))

-- a run from a state ended so: in its session each kick, in every bin, tells the momentum of all bodies at the start; these
-- kicks are what the kick file holds; and that momentum is what is told at the end
pub record KeepsMomentum (way : Way) (e : Edge) (i : InputsData) (σ : StateData) (ended : Ended) : Type 0 where
  pub stop : Option ℕ
  pub kicks : AllByRecursion (tells (total σ.bodies)) (records (session (plan_by i) way.resumed stop σ))
  pub file : let name = (own_files i.params way.resumed σ).kicks in
      IsTrue e.tells → KickFile ended.end (e.old.files name) (e.new.files name) (records (session (plan_by i) way.resumed stop σ))
  pub told : ended.momentum ≡ components (total σ.bodies)

-- so it is of every run, resumed or not, however it ended
abbrev pub MomentumIsKept : Type 0
MomentumIsKept = (way : Way) (e : Edge) (i : InputsData) (σ : StateData) (ended : Ended) → SessionEnds way e i σ ended → KeepsMomentum way e i σ ended
