-- What taking back has to do with runs.
use Rattle.std.specs.Prelude.{◌≡◌, ◌<◌, ◌≤◌, ℕ, Bool, true, false, not, if◌then◌else◌, List, ◌++◌, Option, Some, None}
use Rattle.std.specs.List.{AllByRecursion, flat_map}
use Rattle.std.specs.List.Sorted.{IsStrictlyIncreasing}
use Rattle.cell_space.specs.Cells.{InBox}
use Rattle.nbody_model.specs.Bodies.{BodyData, IsInRange, has}
use Rattle.nbody_model.specs.Setups.{IsSetup}
use Rattle.nbody_model.specs.Tables.{Rules}
use Rattle.nbody_model.specs.Evolve.{Progress, Stepped, Going, bins_of, evolve}
use Rattle.nbody_model.specs.States.{StateData, IsStart}
use Rattle.nbody_model.specs.Session.{Plan, SessionData, Done, bins, session}
use Rattle.model_laws.specs.Nests.{ids_of}
use Rattle.rewind_laws.specs.Back.{StepParts, listed, AreParts, AreRunParts, Reached, first_other, back, back_run}

-- bodies ascending in id, in the box, with momenta in range; nothing is said of kinds and masses
pub record AreWithin (B : List BodyData) : Type 0 where
  pub ascending : IsStrictlyIncreasing (ids_of B)
  pub in_box : AllByRecursion (λ b. InBox b.motion.pos) B
  pub in_range : AllByRecursion (λ b. IsInRange b.motion.mom) B

-- a step of P in a bin from tick t on came from p to q: its fast parts were told in between, and lead back
pub record StepLeadsBack (r : Rules) (bin : ℕ) (P : List ℕ) (t : ℕ) (p q : Progress) : Type 0 where
  pub parts : StepParts
  pub good : AreParts r.gravity.setup.low_bin bin P parts
  pub told : bins_of q.trail ≡ bins_of p.trail ++ listed parts
  pub back : back r bin parts P t q.bodies ≡ Reached p.bodies

-- taking back a step that was made, stop or not, gives the bodies from which it was made
abbrev pub StepsAreTakenBack : Type 0
StepsAreTakenBack = (r : Rules) (stop : Option ℕ) (bin : ℕ) (P : List ℕ) (t : ℕ) (p q : Progress) → IsSetup r.gravity.setup → r.gravity.setup.low_bin ≤ bin → AreWithin p.bodies →
    evolve r stop bin P t p ≡ Going q → StepLeadsBack r bin P t p q

-- a step comes to these bodies, and tells these fast parts
pub record ComesTo (B : List BodyData) (parts : StepParts) (p : Progress) (s : Stepped) : Type 0 where
  pub end : Progress
  pub goes : s ≡ Going end
  pub bodies : end.bodies ≡ B
  pub told : bins_of end.trail ≡ bins_of p.trail ++ listed parts

-- where taking back a step comes to bodies, the step from these comes to what it was taken back from
abbrev pub WhatIsTakenBackEvolves : Type 0
WhatIsTakenBackEvolves = (r : Rules) (bin : ℕ) (P : List ℕ) (t : ℕ) (B : List BodyData) (parts : StepParts) (p : Progress) → IsSetup r.gravity.setup → r.gravity.setup.low_bin ≤ bin → AreWithin B →
    AreParts r.gravity.setup.low_bin bin P parts → back r bin parts P t B ≡ Reached p.bodies → ComesTo B parts p (evolve r None bin P t p)

-- from the last bodies of a session its fast parts lead back to these bodies, which have the same ids
pub record LeadsBack (r : Rules) (A : List BodyData) (d : SessionData) : Type 0 where
  pub ids : ids_of d.state.bodies ≡ ids_of A
  pub steps : List StepParts
  pub told : bins d ≡ flat_map listed steps
  pub good : AreRunParts r.gravity.setup d.state.bodies steps
  pub back : back_run r steps d.state.bodies ≡ Reached A

-- taking back a run that came to its last tick gives its first bodies
abbrev pub RunsAreTakenBack : Type 0
RunsAreTakenBack = (plan : Plan) (stop : Option ℕ) (σ : StateData) → IsStart σ → AreWithin σ.bodies → IsSetup plan.rules.gravity.setup →
    let d = session plan false stop σ in d.end ≡ Done → LeadsBack plan.rules σ.bodies d

-- the fast parts of all base steps are told by their list: two trees of them with the same list are one
abbrev pub PartsAreTold : Type 0
PartsAreTold = (r : Rules) (B C : List BodyData) (one two : List StepParts) → AreRunParts r.gravity.setup B one → AreRunParts r.gravity.setup C two →
    flat_map listed one ≡ flat_map listed two → one ≡ two

-- two runs to the last tick that end with the same bodies and made the same fast parts began with the same bodies
abbrev pub FirstBodiesAreOne : Type 0
FirstBodiesAreOne = (p q : Plan) (stop pause : Option ℕ) (σ τ : StateData) → p.rules ≡ q.rules → IsSetup p.rules.gravity.setup → IsStart σ → IsStart τ → AreWithin σ.bodies → AreWithin τ.bodies →
    let d = session p false stop σ in
    let e = session q false pause τ in
    d.end ≡ Done → e.end ≡ Done → d.state.bodies ≡ e.state.bodies → bins d ≡ bins e → σ.bodies ≡ τ.bodies

-- a session ends at its last tick with these bodies, and made these fast parts
pub record EndsWith (B : List BodyData) (steps : List StepParts) (d : SessionData) : Type 0 where
  pub end : d.end ≡ Done
  pub bodies : d.state.bodies ≡ B
  pub told : bins d ≡ flat_map listed steps

-- where taking back comes to bodies, the run from these ends with the bodies and the fast parts that it was taken back from
abbrev pub WhatIsTakenBackIsRun : Type 0
WhatIsTakenBackIsRun = (plan : Plan) (B : List BodyData) (steps : List StepParts) (σ : StateData) → IsSetup plan.rules.gravity.setup → AreWithin B → AreRunParts plan.rules.gravity.setup B steps → IsStart σ →
    back_run plan.rules steps B ≡ Reached σ.bodies → EndsWith B steps (session plan false None σ)

-- one holds and the other doesn't
abbrev pub not_same : Bool → Bool → Bool
not_same a b = if a then not b else b

-- the number is in one of the lists and not in the other
abbrev pub IsOther : List ℕ → List ℕ → ℕ → Type 0
IsOther F G id = not_same (has F id) (has G id) ≡ true

-- of two ascending lists, what `first_other` finds is the least number that is in one and not in the other; where it finds
-- none the lists are one
pub record FindsFirstOther (F G : List ℕ) : Type 0 where
  pub one : first_other F G ≡ None → F ≡ G
  pub other : (id : ℕ) → first_other F G ≡ Some id → IsOther F G id
  pub least : (id k : ℕ) → first_other F G ≡ Some id → k < id → has F k ≡ has G k

abbrev pub FirstOtherIsLeast : Type 0
FirstOtherIsLeast = (F G : List ℕ) → IsStrictlyIncreasing F → IsStrictlyIncreasing G → FindsFirstOther F G
