-- How a base step ends, against the definition.
use Rattle.std.specs.Prelude.{◌≡◌, ◌<◌, ℕ, ◌+◌, Bool, true, false, not, List, ◌++◌, length, sum_by, Option, Some, None, IfSome, Result, Ok, Err}
use Rattle.store_io.specs.Causes.{Rose}
use Rattle.nbody_model.specs.Bodies.{BodyData}
use Rattle.nbody_model.specs.Setups.{SetupData}
use Rattle.nbody_model.specs.Tables.{Gravity, IsTable, Rules}
use Rattle.nbody_model.specs.Fields.{FieldData}
use Rattle.nbody_model.specs.Evolve.{Happening, Progress, Stepped, Going, Refused, Resting, Refusal, MomRange, StepRange, records_of, depths_of, ask_if, evolve}
use Rattle.model_laws.specs.Conserved.{start_of}
use Rattle.model_laws.specs.Nests.{ids_of}
use Rattle.step_engine.specs.declared.step_end.StepCount.{StepCount}
use Rattle.step_engine.specs.declared.step_end.StepEnd.{StepEnd}
use Rattle.step_engine.specs.declared.step_end.StepEnd.TheVariants as ends
use Rattle.step_engine.specs.Taken.{Taken, Tale, Adds}
use Rattle.step_engine.specs.Told.{AreForcesAmong, IsTold}
use Rattle.nbody_model.specs.Passes.{Passes}
use Rattle.step_engine.specs.Ends.{NoYes, LastYes, trail_of, IsOutside}

-- forces by a setup, and by a table that keeps its limits if there is one
pub record StandsFor (g : Gravity) (s : SetupData) : Type 0 where
  pub setup : g.setup ≡ s
  pub table : IfSome g.table IsTable

-- the forces among all bodies are known, or not
abbrev pub is_known : Option FieldData → Bool
is_known None = false
is_known (Some f) = true

-- ---- what a call leaves

-- the bodies, the state of the forces, and what was taken
pub record Seen : Type 0 where
  pub bodies : List BodyData
  pub state : List ℕ
  pub took : Tale

-- the progress p stands here; from A on what happened was told, the forces that were asked were found one after another, and
-- the entries that were taken are of some kind
pub record Reaches (g : Gravity) (passes : Passes) (A Z : Seen) (Kind : List Taken → Type 0) (p : Progress) : Type 0 where
  pub bodies : p.bodies ≡ Z.bodies
  pub entries : List Taken
  pub told : IsTold g passes A.state p.trail entries Z.state
  pub took : Adds A.took Z.took entries
  pub kind : Kind entries

-- a first part of what happens was taken, and no more
pub record BreaksOff (g : Gravity) (passes : Passes) (A Z : Seen) (trail : List Happening) : Type 0 where
  pub first : List Happening
  pub later : List Happening
  pub parts : trail ≡ first ++ later
  pub entries : List Taken
  pub state : List ℕ
  pub told : IsTold g passes A.state first entries state
  pub took : Adds A.took Z.took entries
  pub kind : NoYes entries

-- the kicks that happened, and the interactions of all their forces
pub record Counts (trail : List Happening) (count : StepCount) : Type 0 where
  pub kicks : count.kicks ≡ length (records_of trail)
  pub interactions : count.interactions ≡ sum_by (λ k. k.pairs + k.fast_pairs) (records_of trail)

abbrev pub Goes : Gravity → Passes → Seen → Seen → StepCount → Stepped → Type 0
Goes g passes A Z count (Going p) = Reaches g passes A Z NoYes p × Counts p.trail count
Goes g passes A Z count (Refused p e) = ⊥
Goes g passes A Z count (Resting p tick Fs) = ⊥

abbrev pub Refuses : Gravity → Passes → Seen → Seen → Refusal → Stepped → Type 0
Refuses g passes A Z why (Refused p e) = (e ≡ why) × Reaches g passes A Z NoYes p
Refuses g passes A Z why (Going p) = ⊥
Refuses g passes A Z why (Resting p tick Fs) = ⊥

abbrev pub RestsAt : Gravity → Passes → Seen → Seen → ℕ → List ℕ → StepCount → Stepped → Type 0
RestsAt g passes A Z tick depth count (Resting p at Fs) = (at ≡ tick) × (depth ≡ depths_of Fs Z.bodies) × Reaches g passes A Z (LastYes tick) p × Counts p.trail count
RestsAt g passes A Z tick depth count (Going p) = ⊥
RestsAt g passes A Z tick depth count (Refused p e) = ⊥

-- the answer is that of a step from a tick to a tick, which may be stopped; a fault and want of memory break it off
abbrev pub StepEnds : Gravity → Passes → Seen → Seen → (Option ℕ → Stepped) → ℕ → ℕ → Result StepCount StepEnd → Type 0
StepEnds g passes A Z step from to (Ok count) = (stop : Option ℕ) → IsOutside from to stop → Goes g passes A Z count (step stop)
StepEnds g passes A Z step from to (Err (ends.MomRange tick bin id axis)) = Refuses g passes A Z (MomRange tick bin id axis) (step None)
StepEnds g passes A Z step from to (Err (ends.StepRange tick id)) = Refuses g passes A Z (StepRange tick id) (step None)
StepEnds g passes A Z step from to (Err (ends.Rest tick depth count)) = (from < tick) × (tick < to) × RestsAt g passes A Z tick depth count (step (Some tick))
StepEnds g passes A Z step from to (Err ends.OutFault) = BreaksOff g passes A Z (trail_of (step None))
StepEnds g passes A Z step from to (Err ends.Memory) = BreaksOff g passes A Z (trail_of (step None))

-- the base step of all bodies from a tick on; the forces among them are asked first unless they are known
abbrev pub whole_step : Rules → Bool → List BodyData → ℕ → Option ℕ → Stepped
whole_step r known B tick stop = evolve r stop r.gravity.setup.top_bin (ids_of B) tick (ask_if (not known) (ids_of B) (start_of B))

-- a fault of the taker comes only where its count of faults rose, a rest only where its count of yes did; otherwise both stay
abbrev pub StepCause : Result StepCount StepEnd → ℕ → ℕ → ℕ → ℕ → Type 0
StepCause (Ok count) faults faults_now yeses yeses_now = (faults_now ≡ faults) × (yeses_now ≡ yeses)
StepCause (Err (ends.MomRange tick bin id axis)) faults faults_now yeses yeses_now = (faults_now ≡ faults) × (yeses_now ≡ yeses)
StepCause (Err (ends.StepRange tick id)) faults faults_now yeses yeses_now = (faults_now ≡ faults) × (yeses_now ≡ yeses)
StepCause (Err (ends.Rest tick depth count)) faults faults_now yeses yeses_now = (faults_now ≡ faults) × Rose yeses yeses_now
StepCause (Err ends.OutFault) faults faults_now yeses yeses_now = Rose faults faults_now × (yeses_now ≡ yeses)
StepCause (Err ends.Memory) faults faults_now yeses yeses_now = (faults_now ≡ faults) × (yeses_now ≡ yeses)

-- after a whole step the forces among all bodies are known, and else none are
abbrev pub AreKnown : Result StepCount StepEnd → Gravity → List BodyData → Option FieldData → Type 0
AreKnown (Ok count) g B (Some f) = AreForcesAmong g B f
AreKnown (Ok count) g B None = ⊥
AreKnown (Err e) g B known = known ≡ None
