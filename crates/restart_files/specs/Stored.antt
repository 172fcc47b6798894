-- States that a restart file keeps, and what reading their text gives.
use Rattle.std.specs.Prelude.{◌≡◌, ◌⊎◌, ℕ, ◌<◌, ◌≤◌, ◌^◌, List, [], length}
use Rattle.nbody_model.specs.Bodies.{BodyData}
use Rattle.nbody_model.specs.Setups.{SetupData}
use Rattle.nbody_model.specs.States.{StateData, IsSynchronisation, IsRest}

-- no depth, or one for each body
abbrev pub HasDepths : List BodyData → List ℕ → Type 0
HasDepths bodies depths = (depths ≡ []) ⊎ (length depths ≡ length bodies)

-- a state from which a run goes on: between two base steps, or inside one
abbrev pub IsKept : SetupData → StateData → Type 0
IsKept s σ = IsSynchronisation s σ ⊎ IsRest s σ

-- counters that a restart file has room for
pub record AreStorable (σ : StateData) : Type 0 where
  pub steps : σ.steps < 2 ^ 64
  pub tick : σ.tick < 2 ^ 64
  pub next_snapshot : σ.next_snapshot < 2 ^ 64
  pub next_restart : σ.next_restart < 2 ^ 64
  pub kicks : σ.kicks < 2 ^ 64
  pub interactions : σ.interactions < 2 ^ 128
