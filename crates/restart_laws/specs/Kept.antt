-- What a run keeps can be read, and a run that is resumed from it goes on as the one that kept it.
use Rattle.std.specs.Prelude.{◌≡◌, ℕ, false, true, List, All, Option, None}
use Rattle.nbody_model.specs.Bodies.{IsValid}
use Rattle.nbody_model.specs.Setups.{SetupData, IsSetup}
use Rattle.nbody_model.specs.States.{StateData, IsStart}
use Rattle.nbody_model.specs.Session.{Plan, Restart, session, kept}
use Rattle.nbody_model.specs.RestartText.{restart_text}
use Rattle.model_laws.specs.Resumed.{IsOneOf, GoesOn}
use Rattle.particle_set.specs.Stored.{IsStorable}
use Rattle.restart_files.specs.RestartFile.{Spell}

-- where a run from tick 0 begins: nothing is done yet, and the bodies are a set whose numbers a file has room for
pub record IsFirst (σ : StateData) : Type 0 where
  pub start : IsStart σ
  pub valid : IsValid σ.bodies
  pub storable : All IsStorable σ.bodies

-- each restart file of a run spells its state and its settings, wherever the run is stopped
abbrev pub RestartFilesAreRead : Type 0
RestartFilesAreRead = (plan : Plan) (stop : Option ℕ) (σ : StateData) → IsFirst σ → IsSetup plan.rules.gravity.setup →
    (n : ℕ) (ρ : StateData) → IsOneOf (Restart n ρ) (session plan false stop σ).written → Spell (restart_text ρ plan.rules.gravity.setup) ρ plan.rules.gravity.setup

-- of every run from tick 0 by this plan, one of whose states, at a synchronisation or where it is stopped inside a base
-- step, has a restart file of these bytes: a session that is resumed from ρ goes on as it does without a stop
abbrev pub GoesOnFromBytes : Plan → List ℕ → StateData → Type 0
GoesOnFromBytes plan bytes ρ = (stop : Option ℕ) (σ τ : StateData) → IsFirst σ → IsOneOf τ (session plan false stop σ).states → bytes ≡ restart_text (kept τ) plan.rules.gravity.setup →
    GoesOn (session plan false None σ) (session plan true None ρ)

-- so it is for the state that the bytes spell
abbrev pub RestartFilesGoOn : Type 0
RestartFilesGoOn = (plan : Plan) (bytes : List ℕ) (ρ : StateData) (s : SetupData) → IsSetup plan.rules.gravity.setup → Spell bytes ρ s → GoesOnFromBytes plan bytes ρ
