-- What a base step of a run leaves.
use Rattle.std.specs.Prelude.{◌≡◌, ◌⊎◌, ◌≤◌, ◌<◌, ⊤, ℕ, ◌+◌, ◌*◌, ◌^◌, true, Bool, List, [], length, Option, Some, None, IfSome, Result}
use Rattle.nbody_model.specs.Bodies.{BodyData}
use Rattle.nbody_model.specs.Setups.{SetupData}
use Rattle.nbody_model.specs.States.{StateData, began}
use Rattle.nbody_model.specs.Tables.{ExpansionData, Reaches}
use Rattle.nbody_model.specs.Evolve.{Refusal, MomRange, StepRange}
use Rattle.nbody_model.specs.Session.{Plan, base_step, raised64, raised128}
use Rattle.step_engine.specs.declared.step_end.StepCount.{StepCount}
use Rattle.step_engine.specs.declared.step_end.StepEnd.{StepEnd}
use Rattle.step_engine.specs.declared.step_end.StepEnd.TheVariants as ends
use Rattle.step_engine.specs.Told.{AreForcesAmong}
use Rattle.nbody_model.specs.Passes.{Passes}
use Rattle.step_engine.specs.Ends.{IsOutside}
use Rattle.step_engine.specs.BaseSteps.{is_known, StepCause, StepEnds}
use Rattle.step_engine.specs.Resumed.{IsInside}
use Rattle.run_session.specs.declared.course.Progress.{Progress as Run}
use Rattle.run_session.specs.declared.step.Counters.{Counters}
use Rattle.run_session.specs.declared.step.Refusal.{Refusal as Cause}
use Rattle.run_session.specs.declared.step.Refusal.TheVariants as causes
use Rattle.run_session.specs.declared.step.Made.{Made}
use Rattle.run_session.specs.declared.step.Made.TheVariants as made
use Rattle.run_session.specs.Own.{Own, OwnTexts}
use Rattle.run_session.specs.Logs.{tells}
use Rattle.run_session.specs.Worlds.{World}
use Rattle.run_session.specs.Stages.{IsWhole, IsAtRest, IsOut}

-- ---- where it begins

-- a base step of these bodies begins at a tick, or rests there with these depths, and ends within all limits
pub record CanStep (s : SetupData) (e : Option ExpansionData) (B : List BodyData) (depths : List ℕ) (tick : ℕ) : Type 0 where
  pub here : ((depths ≡ []) × (began s.top_bin tick ≡ tick)) ⊎ IsInside s B depths tick
  pub early : began s.top_bin tick ≤ 2 ^ 40
  pub spans : IfSome e (λ table. Reaches table (began s.top_bin tick + 2 ^ s.top_bin))

-- ---- as it was recorded

-- where a base step of a state ended, with these bodies, what was told of it to a taker that keeps this log: it began with
-- none, keeps the texts of the files that there are, and never fails
pub record IsRecorded (plan : Plan) (o : Own) (passes : Passes) (known : Bool) (σ : StateData) (B : List BodyData) (log : OwnTexts) (old new : World) (ended : Result StepCount StepEnd) : Type 0 where
  pub traced : Bool
  pub binned : Bool
  pub keeps_trace : IfSome o.trace (λ _. traced ≡ true)
  pub keeps_bins : IfSome o.bins (λ _. binned ≡ true)
  pub ends : StepEnds plan.rules.gravity passes (record { bodies = σ.bodies; state = old.state; took = tells traced binned (record { kicks = []; trace = []; bins = [] }) old.left }) (record { bodies = B; state = new.state; took = tells traced binned log new.left }) (λ stop. base_step plan stop known σ) σ.tick (began plan.rules.gravity.setup.top_bin σ.tick + 2 ^ plan.rules.gravity.setup.top_bin) ended
  pub cause : StepCause ended 0 0 old.yes new.yes

-- a state that counts this
abbrev pub state_with : List BodyData → List ℕ → Counters → StateData
state_with B depths n = record { bodies = B; depths = depths; steps = n.steps; tick = n.tick; next_snapshot = n.next_snapshot; next_restart = n.next_restart; kicks = n.kicks; interactions = n.interactions }

-- after so many kicks more
abbrev pub counted_by : StepCount → Counters → Counters
counted_by count n = record n { kicks = raised64 n.kicks count.kicks; interactions = raised128 n.interactions count.interactions }

-- after a whole base step
abbrev pub stepped_by : ℕ → StepCount → Counters → Counters
stepped_by top count n = record (counted_by count n) { steps = n.steps + 1; tick = (n.steps + 1) * 2 ^ top }

-- what is made of an end that isn't that of a whole base step
abbrev pub made_of : List BodyData → Counters → StepEnd → Option Made
made_of B n (ends.MomRange tick bin id axis) = Some (made.Refused (causes.MomRange tick bin id axis))
made_of B n (ends.StepRange tick id) = Some (made.Refused (causes.StepRange tick id))
made_of B n (ends.Rest tick depth count) = Some (made.Rested (state_with B depth (record (counted_by count n) { tick = tick })))
made_of B n ends.OutFault = None
made_of B n ends.Memory = None

-- a rest has a depth for each body
abbrev pub RestsWith : List BodyData → StepEnd → Type 0
RestsWith B (ends.Rest tick depth count) = length depth ≡ length B
RestsWith B (ends.MomRange tick bin id axis) = ⊤
RestsWith B (ends.StepRange tick id) = ⊤
RestsWith B ends.OutFault = ⊤
RestsWith B ends.Memory = ⊤

-- ---- how it ended

-- the tick at which the base step of a state ends
abbrev pub step_end : Plan → StateData → ℕ
step_end plan σ = (σ.steps + 1) * 2 ^ plan.rules.gravity.setup.top_bin

-- why it is refused, as the definitions have it
abbrev pub refusal_of : Cause → Refusal
refusal_of (causes.MomRange tick bin id axis) = MomRange tick bin id axis
refusal_of (causes.StepRange tick id) = StepRange tick id

-- it came to its end, for each stop that doesn't come before; the forces among all bodies are known then
pub record IsMade (plan : Plan) (o : Own) (passes : Passes) (known : Bool) (σ : StateData) (log : OwnTexts) (old new : World) (next : Run) : Type 0 where
  pub whole : (stop : Option ℕ) → IsOutside σ.tick (step_end plan σ) stop → IsWhole plan o passes known σ next.state log old new stop
  pub yes : new.yes ≡ old.yes
  pub has_forces : is_known next.known ≡ true
  pub forces : IfSome next.known (AreForcesAmong plan.rules.gravity next.state.bodies)

-- how a base step ended: whole; at rest before its end; or refused
abbrev pub StepMade : Plan → Own → Passes → Bool → StateData → OwnTexts → World → World → Made → Type 0
StepMade plan o passes known σ log old new (made.Whole next) = IsMade plan o passes known σ log old new next
StepMade plan o passes known σ log old new (made.Rested τ) = (σ.tick < τ.tick) × (τ.tick < step_end plan σ) × IsAtRest plan o passes known σ τ log old new
StepMade plan o passes known σ log old new (made.Refused why) = IsOut plan o passes known σ (refusal_of why) log old new × (new.yes ≡ old.yes)
