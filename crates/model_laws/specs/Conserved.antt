-- What a whole session conserves: ids, kinds, masses, and the momentum of all bodies together.
use Rattle.std.specs.Prelude.{◌≡◌, ℕ, Bool, List, [], ◌∷◌, map, Option}
use Rattle.std.specs.List.{AllByRecursion}
use Rattle.fixed_point.specs.declared.V3.{V3}
use Rattle.fixed_point.specs.Vectors.{origin}
use Rattle.nbody_model.specs.Bodies.{BodyData, total}
use Rattle.nbody_model.specs.Tables.{Rules}
use Rattle.nbody_model.specs.Evolve.{Happening, records_of, Progress, evolve}
use Rattle.nbody_model.specs.Continue.{continue}
use Rattle.model_laws.specs.Preserved.{Holds}
use Rattle.nbody_model.specs.States.{StateData}
use Rattle.nbody_model.specs.Session.{Plan, session, tells}
use Rattle.model_laws.specs.Laws.{AreBodies}

-- a body without its motion: id, kind and mass
abbrev pub unmoved : BodyData → BodyData
unmoved b = record b { motion = record { pos = record { x = 0; y = 0; z = 0 }; mom = origin } }

-- from the bodies B on these bodies were reached, and these things happened: the bodies are as many, in their order,
-- with the same ids, kinds and masses and the same momentum together, and each kick tells that momentum
pub record IsConserved (B : List BodyData) (now : List BodyData) (trail : List Happening) : Type 0 where
  pub bodies : AreBodies now
  pub same : map unmoved now ≡ map unmoved B
  pub momentum : total now ≡ total B
  pub told : AllByRecursion (tells (total B)) (records_of trail)

-- a step of some of the bodies in a bin conserves, however it ends, and so does the rest of a base step
abbrev pub start_of : List BodyData → Progress
start_of B = record { bodies = B; trail = [] }

abbrev pub EvolvesConserve : Type 0
EvolvesConserve = (r : Rules) (stop : Option ℕ) (bin tick : ℕ) (P : List ℕ) (B : List BodyData) → AreBodies B →
    Holds (λ p. IsConserved B p.bodies p.trail) (evolve r stop bin P tick (start_of B))

abbrev pub ContinuesConserve : Type 0
ContinuesConserve = (r : Rules) (stop : Option ℕ) (σ : StateData) → AreBodies σ.bodies →
    Holds (λ p. IsConserved σ.bodies p.bodies p.trail) (continue r stop σ (start_of σ.bodies))

-- every session conserves, however it ends
abbrev pub SessionsConserve : Type 0
SessionsConserve = (plan : Plan) (resumed : Bool) (stop : Option ℕ) (σ : StateData) → AreBodies σ.bodies →
    let d = session plan resumed stop σ in IsConserved σ.bodies d.state.bodies d.trail
