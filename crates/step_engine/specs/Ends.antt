-- How a call that makes a part of a step ends, against the definition.
use Rattle.std.specs.Prelude.{◌≡◌, ◌≤◌, ◌<◌, ⊤, ◌⊎◌, ℕ, ◌+◌, ◌*◌, ◌^◌, true, List, [], ◌∷◌, ◌++◌, length, Option, Some, None, Result, Ok, Err}
use Rattle.std.specs.List.{AllByRecursion}
use Rattle.store_io.specs.Causes.{Rose}
use Rattle.nbody_model.specs.Evolve.{Happening, Progress, Stepped, Going, Refused, Resting, Refusal, MomRange, StepRange, depths_of}
use Rattle.model_laws.specs.Conserved.{IsConserved}
use Rattle.step_engine.specs.declared.halt.Halt.{Halt}
use Rattle.step_engine.specs.declared.halt.Halt.TheVariants as halts
use Rattle.step_engine.specs.Taken.{Taken, Tale, TookRest, Adds}
use Rattle.step_engine.specs.Told.{Finder, IsNoYes, IsTold}
use Rattle.step_engine.specs.Stands.{Now, IsAt}

-- no answer was yes; or the last one alone, at a resting point
abbrev pub NoYes : List Taken → Type 0
NoYes entries = AllByRecursion IsNoYes entries

abbrev pub LastYes : ℕ → List Taken → Type 0
LastYes tick entries = (earlier : List Taken) × (entries ≡ earlier ++ TookRest tick true ∷ []) × NoYes earlier

-- what happened in a step, however it ended
abbrev pub trail_of : Stepped → List Happening
trail_of (Going p) = p.trail
trail_of (Refused p e) = p.trail
trail_of (Resting p tick Fs) = p.trail

-- it goes on, and stands here
abbrev pub GoesTo : Finder → List ℕ → Tale → Stepped → Now → Type 0
GoesTo passes a before (Going p) Z = IsAt passes a before NoYes p Z
GoesTo passes a before (Refused p e) Z = ⊥
GoesTo passes a before (Resting p tick Fs) Z = ⊥

-- it is refused, and stands here
abbrev pub IsRefused : Finder → List ℕ → Tale → Refusal → Stepped → Now → Type 0
IsRefused passes a before why (Refused p e) Z = (e ≡ why) × IsAt passes a before NoYes p Z
IsRefused passes a before why (Going p) Z = ⊥
IsRefused passes a before why (Resting p tick Fs) Z = ⊥

-- it rests at a tick inside at most so many unfinished steps, whose depths are those here, and stands here
pub record RestsIn (n tick : ℕ) (p : Progress) (at : ℕ) (Fs : List (List ℕ)) (Z : Now) : Type 0 where
  pub same : at ≡ tick
  pub depth : Z.depth ≡ depths_of Fs p.bodies
  pub few : length Fs ≤ n

abbrev pub Rests : Finder → List ℕ → Tale → ℕ → ℕ → Stepped → Now → Type 0
Rests passes a before n tick (Resting p at Fs) Z = RestsIn n tick p at Fs Z × IsAt passes a before (LastYes tick) p Z
Rests passes a before n tick (Going p) Z = ⊥
Rests passes a before n tick (Refused p e) Z = ⊥

-- it was broken off: a first part of what happens was taken
pub record IsCut (passes : Finder) (a : List ℕ) (before : Tale) (trail : List Happening) (Z : Now) : Type 0 where
  pub first : List Happening
  pub later : List Happening
  pub parts : trail ≡ first ++ later
  pub entries : List Taken
  pub state : List ℕ
  pub told : IsTold Z.gravity (passes Z.gravity Z.fixed) a first entries state
  pub took : Adds before Z.took entries
  pub kind : NoYes entries

-- a stop doesn't come inside a time
abbrev pub IsOutside : ℕ → ℕ → Option ℕ → Type 0
IsOutside from to None = ⊤
IsOutside from to (Some u) = (u ≤ from) ⊎ (to ≤ u)

-- what was answered for a step that lasts from a tick to a tick and may be stopped, inside at most n unfinished steps
abbrev pub Shows : {T : Type 0} → Finder → List ℕ → Tale → ℕ → ℕ → ℕ → (Option ℕ → Stepped) → Result T Halt → Now → Type 0
Shows passes a before n from to step (Ok x) Z = (stop : Option ℕ) → IsOutside from to stop → GoesTo passes a before (step stop) Z
Shows passes a before n from to step (Err (halts.MomRange tick bin id axis)) Z = IsRefused passes a before (MomRange tick bin id axis) (step None) Z
Shows passes a before n from to step (Err (halts.StepRange tick id)) Z = IsRefused passes a before (StepRange tick id) (step None) Z
Shows passes a before n from to step (Err (halts.Rest tick)) Z = (from < tick) × (tick < to) × Rests passes a before n tick (step (Some tick)) Z
Shows passes a before n from to step (Err halts.OutFault) Z = IsCut passes a before (trail_of (step None)) Z
Shows passes a before n from to step (Err halts.Memory) Z = IsCut passes a before (trail_of (step None)) Z

-- why an answer may come: the counts of the taker before and after; depths are set by a rest alone
pub record IsStill (A Z : Now) : Type 0 where
  pub faults : Z.faults ≡ A.faults
  pub yes : Z.yes ≡ A.yes
  pub depth : Z.depth ≡ A.depth

-- there is a depth for each body, at most n
pub record IsShallow (n : ℕ) (Z : Now) : Type 0 where
  pub each : length Z.depth ≡ length Z.bodies
  pub most : AllByRecursion (λ depth. depth ≤ n) Z.depth

abbrev pub HasCause : {T : Type 0} → ℕ → Result T Halt → Now → Now → Type 0
HasCause n (Ok x) A Z = IsStill A Z
HasCause n (Err (halts.MomRange tick bin id axis)) A Z = IsStill A Z
HasCause n (Err (halts.StepRange tick id)) A Z = IsStill A Z
HasCause n (Err (halts.Rest tick)) A Z = (Z.faults ≡ A.faults) × Rose A.yes Z.yes × IsShallow n Z
HasCause n (Err halts.OutFault) A Z = Rose A.faults Z.faults × (Z.yes ≡ A.yes)
HasCause n (Err halts.Memory) A Z = IsStill A Z

-- a call made a part of a step, from A on, and left Z: at most so many kicks were made
pub record Makes {T : Type 0} (passes : Finder) (n most from to : ℕ) (step : Option ℕ → Progress → Stepped) (answer : Result T Halt) (A Z : Now) : Type 0 where
  pub gravity : Z.gravity ≡ A.gravity
  pub fixed : Z.fixed ≡ A.fixed
  pub conserved : IsConserved A.bodies Z.bodies []
  pub cause : HasCause n answer A Z
  pub few : Z.kicks ≤ A.kicks + most
  pub counted : A.interactions ≤ A.kicks * 2 ^ 65 → Z.interactions ≤ Z.kicks * 2 ^ 65
  pub shows : (a : List ℕ) (before : Tale) (p : Progress) → IsAt passes a before NoYes p A → Shows passes a before n from to (λ stop. step stop p) answer Z
