-- Bodies without their momenta: forces don't look at momenta, and a kick changes nothing else.
use Rattle.std.specs.Prelude.{◌≡◌, ℕ, List, map}
use Rattle.fixed_point.specs.declared.V3.{V3}
use Rattle.fixed_point.specs.Vectors.{origin}
use Rattle.nbody_model.specs.Bodies.{BodyData, only}
use Rattle.nbody_model.specs.Tables.{Gravity}
use Rattle.nbody_model.specs.Covers.{opening_of, interactions}
use Rattle.nbody_model.specs.Force.{force_at, forces}
use Rattle.nbody_model.specs.Steps.{kicked_bodies}

-- a body at rest in its place
abbrev pub still : BodyData → BodyData
still b = record b { motion = record { pos = b.motion.pos; mom = origin } }

-- the same bodies in the same places, whatever their momenta
abbrev pub SamePlaces : List BodyData → List BodyData → Type 0
SamePlaces B C = map still B ≡ map still C

-- the same forces on both, and the same interactions
pub record SameForces (g : Gravity) (B C : List BodyData) : Type 0 where
  pub all : forces g B ≡ forces g C
  pub each : (b c : BodyData) → still b ≡ still c → force_at g B b ≡ force_at g C c
  pub acting : interactions (opening_of g.setup B) ≡ interactions (opening_of g.setup C)

-- momenta don't matter to forces
abbrev pub MomentaDontMatter : Type 0
MomentaDontMatter = (g : Gravity) (B C : List BodyData) → SamePlaces B C → SameForces g B C

-- a kick moves no body
abbrev pub KicksMoveNothing : Type 0
KicksMoveNothing = (h : ℕ) (P : List ℕ) (v : BodyData → V3) (B : List BodyData) → SamePlaces (kicked_bodies h P v B) B

-- parts of the same bodies are the same bodies
abbrev pub PartsInPlace : Type 0
PartsInPlace = (P : List ℕ) (B C : List BodyData) → SamePlaces B C → SamePlaces (only B P) (only C P)
