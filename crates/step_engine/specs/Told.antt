-- What happened in a step, and what was taken of it.
use Rattle.std.specs.Prelude.{◌≡◌, ⊤, ℕ, false, List, [], ◌∷◌, length}
use Rattle.std.specs.List.{flat_map}
use Rattle.nbody_model.specs.declared.field.Event.{Event}
use Rattle.nbody_model.specs.Bodies.{BodyData}
use Rattle.nbody_model.specs.Tables.{Gravity}
use Rattle.nbody_model.specs.Fields.{FieldData}
use Rattle.nbody_model.specs.Covers.{opening_of, interactions}
use Rattle.nbody_model.specs.Force.{forces}
use Rattle.nbody_model.specs.Evolve.{Happening, Binned, Asked, Kicked, Rested, asked_of}
use Rattle.nbody_model.specs.Passes.{Passes, PassesAll}
use Rattle.step_engine.specs.Taken.{Taken, TookForces, TookKick, TookRest, TookPart}

-- the forces among some bodies, and the number of their interactions
pub record AreForcesAmong (g : Gravity) (B : List BodyData) (f : FieldData) : Type 0 where
  pub forces : f.forces ≡ forces g B
  pub interactions : f.interactions ≡ length (interactions (opening_of g.setup B))

-- an entry tells a thing that happened
abbrev pub Tells : Gravity → Taken → Happening → Type 0
Tells g (TookForces f) what = (B : List BodyData) × (what ≡ Asked B) × AreForcesAmong g B f
Tells g (TookKick entry) what = what ≡ Kicked entry
Tells g (TookRest tick answer) what = what ≡ Rested tick
Tells g (TookPart F) what = what ≡ Binned F

-- the entries tell what happened, one by one
abbrev pub TellAll : Gravity → List Taken → List Happening → Type 0
TellAll g [] [] = ⊤
TellAll g (entry ∷ entries) (what ∷ trail) = Tells g entry what × TellAll g entries trail
TellAll g [] (what ∷ trail) = ⊥
TellAll g (entry ∷ entries) [] = ⊥

-- the events in which the taken forces were found
abbrev pub events_in : Taken → List (List Event)
events_in (TookForces f) = f.events ∷ []
events_in (TookKick entry) = []
events_in (TookRest tick answer) = []
events_in (TookPart F) = []

-- an entry isn't a resting point at which the answer was yes
abbrev pub IsNoYes : Taken → Type 0
IsNoYes (TookRest tick answer) = answer ≡ false
IsNoYes (TookForces f) = ⊤
IsNoYes (TookKick entry) = ⊤
IsNoYes (TookPart F) = ⊤

-- the same, by a setup with a table and by further numbers
abbrev pub Finder : Type 1
Finder = Gravity → List ℕ → Passes

-- the entries tell what happened, and the forces that were asked were found one after another from state a to state z
pub record IsTold (g : Gravity) (passes : Passes) (a : List ℕ) (trail : List Happening) (entries : List Taken) (z : List ℕ) : Type 0 where
  pub each : TellAll g entries trail
  pub found : PassesAll passes (asked_of trail) a (flat_map events_in entries) z
