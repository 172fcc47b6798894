-- A session that was stopped and resumed goes on as one that wasn't.
use Rattle.std.specs.Prelude.{◌≡◌, ◌⊎◌, ℕ, true, false, List, [], ◌∷◌, ◌++◌, flat_map, Option, None}
use Rattle.std.specs.List.Sorted.{IsStrictlyIncreasing}
use Rattle.nbody_model.specs.declared.kicks.Record.{Record}
use Rattle.nbody_model.specs.Bodies.{BodyData}
use Rattle.nbody_model.specs.Setups.{IsSetup}
use Rattle.nbody_model.specs.States.{StateData, IsStart}
use Rattle.nbody_model.specs.Session.{Plan, Written, Snapshot, Restart, SessionData, Done, session, records, kept}
use Rattle.model_laws.specs.Nests.{ids_of}

-- what a snapshot shows: its number, its bodies and its tick
pub record Shown : Type 0 where
  pub number : ℕ
  pub bodies : List BodyData
  pub tick : ℕ

-- the snapshots among files
abbrev pub shown_in : Written → List Shown
shown_in (Snapshot n σ) = record { number = n; bodies = σ.bodies; tick = σ.tick } ∷ []
shown_in (Restart n σ) = []

abbrev pub snapshots_of : List Written → List Shown
snapshots_of written = flat_map shown_in written

-- a state but for the number of the next restart file
abbrev pub plain : StateData → StateData
plain σ = record σ { next_restart = 0 }

-- two states stand at the same place of a run: they differ at most in their counters and in the numbers of the next files
pub record SameTimes (σ τ : StateData) : Type 0 where
  pub depths : σ.depths ≡ τ.depths
  pub steps : σ.steps ≡ τ.steps
  pub tick : σ.tick ≡ τ.tick
  pub bodies : σ.bodies ≡ τ.bodies

-- of the first session the second one has the later snapshots, the later kicks and the end; where that is the last tick
-- it ends in the same state, but for the number of the next restart file
pub record Ends (shown : List Shown) (told : List Record) (D E : SessionData) : Type 0 where
  pub snapshots : snapshots_of D.written ≡ shown ++ snapshots_of E.written
  pub kicks : records D ≡ told ++ records E
  pub end : D.end ≡ E.end
  pub state : D.end ≡ Done → plain D.state ≡ plain E.state

pub record GoesOn (D E : SessionData) : Type 0 where
  pub shown : List Shown
  pub told : List Record
  pub ends : Ends shown told D E

abbrev pub IsOneOf : {X : Type 0} → X → List X → Type 0
IsOneOf x [] = ⊥
IsOneOf x (y ∷ ys) = (x ≡ y) ⊎ IsOneOf x ys

-- whatever state a run from tick 0 has at a synchronisation, or where it is stopped at a resting point: a session that is
-- resumed from the restart file of that state goes on as the run does that isn't stopped
abbrev pub SessionsGoOn : Type 0
SessionsGoOn = (plan : Plan) (stop : Option ℕ) (σ : StateData) → IsStart σ → IsStrictlyIncreasing (ids_of σ.bodies) → IsSetup plan.rules.gravity.setup →
    (τ : StateData) → IsOneOf τ (session plan false stop σ).states → GoesOn (session plan false None σ) (session plan true None (kept τ))
