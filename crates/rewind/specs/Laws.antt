-- What reading a bin file and taking a run back have to do with runs.
use Rattle.std.specs.Prelude.{◌≡◌, ℕ, false, List, Option, None}
use Rattle.nbody_model.specs.Bodies.{BodyData}
use Rattle.nbody_model.specs.Setups.{IsSetup}
use Rattle.nbody_model.specs.Tables.{Rules}
use Rattle.nbody_model.specs.Texts.{bins_text}
use Rattle.nbody_model.specs.States.{StateData, IsStart}
use Rattle.nbody_model.specs.Session.{Plan, Done, bins, session}
use Rattle.model_laws.specs.Nests.{ids_of}
use Rattle.rewind_laws.specs.Rewound.{AreWithin, EndsWith}
use Rattle.rewind_laws.specs.Filed.{HaveRoom}
use Rattle.rewind.specs.declared.errors.RewindErr.{RewindErr}
use Rattle.rewind.specs.declared.errors.RewindErr.TheVariants.{Memory}
use Rattle.rewind.specs.Reading.{IsFirstFault, SpellBins}
use Rattle.rewind.specs.Rewinding.{AreOfRun, IsRewound, IsRefusedRun}

-- where a run was taken back to bodies, the run from these ends with the bodies and the fast parts that it was taken back from
abbrev pub WhatIsRewoundIsRun : Type 0
WhatIsRewoundIsRun = (plan : Plan) (B : List BodyData) (lists : List (List ℕ)) (σ : StateData) → IsSetup plan.rules.gravity.setup → AreWithin B → IsStart σ →
    (a : AreOfRun plan.rules.gravity.setup B lists) → IsRewound plan.rules lists B σ.bodies → EndsWith B a.steps (session plan false None σ)

-- the bytes of a bin file are read, and the run is taken back from its last bodies B to its first bodies A, but for want of memory
pub record IsTakenBack (r : Rules) (A B : List BodyData) (bytes : List ℕ) : Type 0 where
  pub read : (e : RewindErr) → IsFirstFault bytes r.gravity.setup B e → e ≡ Memory
  pub first : (lists : List (List ℕ)) (C : List BodyData) → SpellBins bytes r.gravity.setup B lists → IsRewound r lists B C → C ≡ A
  pub reached : (lists : List (List ℕ)) (e : RewindErr) → SpellBins bytes r.gravity.setup B lists → IsRefusedRun r lists B e → e ≡ Memory

-- so it is for the bin file of every run from tick 0 that came to its last tick
abbrev pub BinFilesTakeBack : Type 0
BinFilesTakeBack = (plan : Plan) (stop : Option ℕ) (σ : StateData) → IsStart σ → AreWithin σ.bodies → HaveRoom (ids_of σ.bodies) → IsSetup plan.rules.gravity.setup →
    let d = session plan false stop σ in d.end ≡ Done → IsTakenBack plan.rules σ.bodies d.state.bodies (bins_text (bins d))
