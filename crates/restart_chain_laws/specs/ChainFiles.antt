-- What the sessions of a chain of restarts keep can be read, and a session from it goes on as the run that isn't stopped.
use Rattle.std.specs.Prelude.{◌≡◌, ℕ, false, true, List, Option, None}
use Rattle.nbody_model.specs.Setups.{SetupData, IsSetup}
use Rattle.nbody_model.specs.States.{StateData}
use Rattle.nbody_model.specs.Session.{Plan, Restart, session, kept}
use Rattle.nbody_model.specs.RestartText.{restart_text}
use Rattle.model_laws.specs.Resumed.{IsOneOf, GoesOn}
use Rattle.restart_files.specs.RestartFile.{Spell}
use Rattle.restart_laws.specs.Kept.{IsFirst}
use Rattle.chain_laws.specs.Chains.{Link, AreLinked, last_state}

-- a run from tick 0, stopped or not, has the state τ, and links lead on from it
pub record IsChain (plan : Plan) (σ τ : StateData) (ls : List Link) : Type 0 where
  pub first : IsFirst σ
  pub stop : Option ℕ
  pub begins : IsOneOf τ (session plan false stop σ).states
  pub linked : AreLinked plan τ ls

-- each restart file of the session that is resumed at the end of a chain spells its state and its settings, wherever that
-- session is stopped
abbrev pub ChainFilesAreRead : Type 0
ChainFilesAreRead = (plan : Plan) (stop : Option ℕ) (σ τ : StateData) (ls : List Link) → IsChain plan σ τ ls → IsSetup plan.rules.gravity.setup →
    (n : ℕ) (ρ : StateData) → IsOneOf (Restart n ρ) (session plan true stop (kept (last_state τ ls))).written → Spell (restart_text ρ plan.rules.gravity.setup) ρ plan.rules.gravity.setup

-- of every chain by this plan whose last state has a restart file of these bytes: a session that is resumed from ρ goes on
-- as the run from tick 0 does without a stop
abbrev pub ChainsGoOnFromBytes : Plan → List ℕ → StateData → Type 0
ChainsGoOnFromBytes plan bytes ρ = (σ τ : StateData) (ls : List Link) → IsChain plan σ τ ls → bytes ≡ restart_text (kept (last_state τ ls)) plan.rules.gravity.setup →
    GoesOn (session plan false None σ) (session plan true None ρ)

-- so it is for the state that the bytes spell
abbrev pub ChainFilesGoOn : Type 0
ChainFilesGoOn = (plan : Plan) (bytes : List ℕ) (ρ : StateData) (s : SetupData) → IsSetup plan.rules.gravity.setup → Spell bytes ρ s → ChainsGoOnFromBytes plan bytes ρ
