-- What steps preserve, if each tick, drift and kick in them does.
use Rattle.std.specs.Prelude.{ℕ, List, IsTrue}
use Rattle.nbody_model.specs.Bodies.{BodyData, has}
use Rattle.nbody_model.specs.Tables.{Rules}
use Rattle.nbody_model.specs.Steps.{drift}
use Rattle.nbody_model.specs.Evolve.{Binned, Asked, Rested, Progress, tell, Stepped, Going, Refused, Resting, kick}

-- the ids in F are in P
abbrev pub IsPart : List ℕ → List ℕ → Type 0
IsPart F P = (id : ℕ) → IsTrue (has F id) → IsTrue (has P id)

-- it holds of the bodies and of what happened, however a step ended
abbrev pub Holds : (Progress → Type 0) → Stepped → Type 0
Holds I (Going p) = I p
Holds I (Refused p e) = I p
Holds I (Resting p tick Fs) = I p

-- what is told beside kicks, a drift and a kick of P with a part F of it preserve it
pub record IsPreserved (r : Rules) (I : Progress → Type 0) : Type 0 where
  pub binned : (F : List ℕ) (p : Progress) → I p → I (tell (Binned F) p)
  pub asked : (B : List BodyData) (p : Progress) → I p → I (tell (Asked B) p)
  pub rested : (tick : ℕ) (p : Progress) → I p → I (tell (Rested tick) p)
  pub drifted : (P : List ℕ) (ticks : ℕ) (p : Progress) → I p → I (record p { bodies = drift r.gravity.setup P ticks p.bodies })
  pub kicked : (bin tick h : ℕ) (P F : List ℕ) (p : Progress) → IsPart F P → I p → Holds I (kick r bin P F tick h p)
