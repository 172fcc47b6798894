-- What the calls of a step make, by what finds forces and by the taker: before and after a call are the bodies, both of them,
-- and the room.
use Rattle.std.specs.Prelude.{◌≡◌, ℕ, ◌+◌, ◌-◌, ◌^◌, not, Bool, List, [], Option, Result}
use Rattle.std.specs.Option.{option_copied}
use Rattle.nbody_model.specs.declared.forces.Forces as forces
use Rattle.nbody_model.specs.Bodies.{BodyData, only}
use Rattle.nbody_model.specs.Setups.{SetupData}
use Rattle.nbody_model.specs.Tables.{ExpansionData, Gravity, Rules}
use Rattle.nbody_model.specs.States.{StateData, began, low_zeros}
use Rattle.nbody_model.specs.Evolve.{Progress, Going, Asked, Binned, tell, ask_if, is_empty, kick, close, evolve, rest, depths_of}
use Rattle.nbody_model.specs.Continue.{continue}
use Rattle.model_laws.specs.Laws.{AreBodies}
use Rattle.model_laws.specs.Conserved.{start_of}
use Rattle.model_laws.specs.Nests.{ids_of}
use Rattle.kick_drift.specs.Parts.{ids_at}
use Rattle.step_engine.specs.declared.kick_out.KickOut as taker
use Rattle.step_engine.specs.declared.course.Course.{Course}
use Rattle.step_engine.specs.declared.halt.Halt.{Halt}
use Rattle.step_engine.specs.declared.pause.Pause.{Pause}
use Rattle.step_engine.specs.declared.step_end.StepCount.{StepCount}
use Rattle.step_engine.specs.declared.step_end.StepEnd.{StepEnd}
use Rattle.step_engine.specs.declared.steps.Kick.{Kick}
use Rattle.step_engine.specs.declared.steps.Split.{Split}
use Rattle.step_engine.specs.declared.steps.Step.{Step}
use Rattle.step_engine.specs.declared.steps.Unfinished.{Unfinished}
use Rattle.step_engine.specs.declared.work.Work.{Work}
use Rattle.step_engine.specs.Stands.{Now, now}
use Rattle.step_engine.specs.Ends.{Makes}
use Rattle.step_engine.specs.Stages.{rules, two_finer, inner, from_kick, from_ask}
use Rattle.step_engine.specs.BaseSteps.{Seen, StepEnds, whole_step}
use Rattle.step_engine.specs.Resumed.{IsFrom, end_of_bin, finer_left, quick_parts, quick_places, round_of, rounds_end, rounds_left, second_finer}

-- where a step stands
abbrev pub now_by : {X Y : Type 0} → forces.Ghosts X → taker.Ghosts Y → List BodyData → X → Y → Work → Now
now_by F O B f o work = now B (F.gravity f) (F.fixed f) (F.state f) (O.faults o) (O.yes o) (O.took o) work

-- what a course goes by
abbrev pub rules_by : {X : Type 0} → forces.Ghosts X → Course → X → Rules
rules_by F course f = rules (F.gravity f) (option_copied course.expansion)

-- ---- what is asked and told

-- forces were asked or not, and nothing else changed
abbrev pub Asks : {T X Y : Type 0} → forces.Ghosts X → taker.Ghosts Y → (Progress → Progress) → Result T Halt → List BodyData → X → Y → X → Y → Type 0
Asks F O asked answer B f o f' o' =
    (work : Work) (n tick : ℕ) → Makes F.passes n 0 tick tick (λ stop p. Going (asked p)) answer (now_by F O B f o work) (now_by F O B f' o' work)

-- those among some bodies, by their ids
abbrev pub asks : List ℕ → Progress → Progress
asks P p = tell (Asked (only p.bodies P)) p

-- those among the fast bodies of a step, if there are any
abbrev pub asks_any : List ℕ → Progress → Progress
asks_any P p = ask_if (not (is_empty P)) P p

-- the fast bodies of the innermost unfinished evolve, by their places
abbrev pub innermost : Course → Pause → List ℕ
innermost course pause = quick_places course.setup.now.top_bin pause.depth.now (low_zeros pause.tick + 1)

-- the fast part of a step was told
abbrev pub TellsPart : {T X Y : Type 0} → forces.Ghosts X → taker.Ghosts Y → List ℕ → Result T Halt → List BodyData → Y → Y → Type 0
TellsPart F O fast answer B o o' =
    (g : Gravity) (fixed state : List ℕ) (work : Work) (n tick : ℕ) → Makes F.passes n 0 tick tick (λ stop p. Going (tell (Binned fast) p)) answer
    (now B g fixed state (O.faults o) (O.yes o) (O.took o) work) (now B g fixed state (O.faults o') (O.yes o') (O.took o') work)

-- a resting point was told
abbrev pub TellsRest : {T X Y : Type 0} → forces.Ghosts X → taker.Ghosts Y → ℕ → Result T Halt → Y → Y → Type 0
TellsRest F O tick answer o o' =
    (B : List BodyData) (g : Gravity) (fixed state : List ℕ) (work : Work) (n : ℕ) → AreBodies B → work.depth.items ≡ depths_of [] B →
    Makes F.passes n 0 (tick - 1) (tick + 1) (λ stop p. rest stop tick p) answer
    (now B g fixed state (O.faults o) (O.yes o) (O.took o) work) (now B g fixed state (O.faults o') (O.yes o') (O.took o') work)

-- ---- the parts of a step

-- a kick
abbrev pub Kicks : {T X Y : Type 0} → forces.Ghosts X → taker.Ghosts Y → Course → Kick → Result T Halt → X → List BodyData → Y → Work → List BodyData → Y → Work → Type 0
Kicks F O course k answer f B o work B' o' work' =
    (n : ℕ) → Makes F.passes n 1 k.tick k.tick (λ stop p. kick (rules_by F course f) k.bin (ids_at B k.whole.now) (ids_at B k.fast.now) k.tick k.h p) answer
    (now_by F O B f o work) (now_by F O B' f o' work')

-- the second half of a step
abbrev pub Closes : {T X Y : Type 0} → forces.Ghosts X → taker.Ghosts Y → Course → Split → Result T Halt → List BodyData → X → Y → Work → List BodyData → X → Y → Work → Type 0
Closes F O course s answer B f o work B' f' o' work' =
    (n : ℕ) → Makes F.passes n 1 (s.tick + 2 ^ s.bin) (s.tick + 2 ^ s.bin) (λ stop p. close (rules_by F course f) s.bin (ids_at B s.part.now) (ids_at B s.fast.now) s.tick p) answer
    (now_by F O B f o work) (now_by F O B' f' o' work')

-- the two finer steps of the fast bodies
abbrev pub TwoFiner : {T X Y : Type 0} → forces.Ghosts X → taker.Ghosts Y → Course → Split → Result T Halt → List BodyData → X → Y → Work → List BodyData → X → Y → Work → Type 0
TwoFiner F O course s answer B f o work B' f' o' work' =
    Makes F.passes (s.bin - 1) (2 ^ (s.bin + 1) - 4) s.tick (s.tick + 2 ^ s.bin) (two_finer (rules_by F course f) s.bin (ids_at B s.fast.now) s.tick) answer
    (now_by F O B f o work) (now_by F O B' f' o' work')

-- what stands between the kicks of a step
abbrev pub Between : {T X Y : Type 0} → forces.Ghosts X → taker.Ghosts Y → Course → Split → Result T Halt → List BodyData → X → Y → Work → List BodyData → X → Y → Work → Type 0
Between F O course s answer B f o work B' f' o' work' =
    Makes F.passes s.bin (2 ^ (s.bin + 1) - 4) s.tick (s.tick + 2 ^ s.bin) (inner (rules_by F course f) s.bin (ids_at B s.fast.now) s.tick) answer
    (now_by F O B f o work) (now_by F O B' f' o' work')

-- the step from its first kick on
abbrev pub FromKick : {T X Y : Type 0} → forces.Ghosts X → taker.Ghosts Y → Course → Split → Result T Halt → List BodyData → X → Y → Work → List BodyData → X → Y → Work → Type 0
FromKick F O course s answer B f o work B' f' o' work' =
    Makes F.passes s.bin (2 ^ (s.bin + 1) - 2) s.tick (s.tick + 2 ^ s.bin) (from_kick (rules_by F course f) s.bin (ids_at B s.part.now) (ids_at B s.fast.now) s.tick) answer
    (now_by F O B f o work) (now_by F O B' f' o' work')

-- the step from the forces among its fast bodies on
abbrev pub FromAsk : {T X Y : Type 0} → forces.Ghosts X → taker.Ghosts Y → Course → Split → Result T Halt → List BodyData → X → Y → Work → List BodyData → X → Y → Work → Type 0
FromAsk F O course s answer B f o work B' f' o' work' =
    Makes F.passes s.bin (2 ^ (s.bin + 1) - 2) s.tick (s.tick + 2 ^ s.bin) (from_ask (rules_by F course f) s.bin (ids_at B s.part.now) (ids_at B s.fast.now) s.tick) answer
    (now_by F O B f o work) (now_by F O B' f' o' work')

-- the step of 2^bin ticks
abbrev pub Evolves : {T X Y : Type 0} → forces.Ghosts X → taker.Ghosts Y → Course → Step → Result T Halt → List BodyData → X → Y → Work → List BodyData → X → Y → Work → Type 0
Evolves F O course s answer B f o work B' f' o' work' =
    Makes F.passes s.bin (2 ^ (s.bin + 1) - 2) s.tick (s.tick + 2 ^ s.bin) (λ stop p. evolve (rules_by F course f) stop s.bin (ids_at B s.part.now) s.tick p) answer
    (now_by F O B f o work) (now_by F O B' f' o' work')

-- the step of all bodies, the forces among which are asked first unless they are known
abbrev pub EvolvesAll : {T X Y : Type 0} → forces.Ghosts X → taker.Ghosts Y → Course → Bool → ℕ → Result T Halt → List BodyData → X → Y → Work → List BodyData → X → Y → Work → Type 0
EvolvesAll F O course known tick answer B f o work B' f' o' work' =
    Makes F.passes course.setup.now.top_bin (2 ^ (course.setup.now.top_bin + 1) - 2) tick (tick + 2 ^ course.setup.now.top_bin)
    (λ stop p. evolve (rules_by F course f) stop course.setup.now.top_bin (ids_of B) tick (ask_if (not known) (ids_of B) p)) answer
    (now_by F O B f o work) (now_by F O B' f' o' work')

-- ---- what is left of a step at a resting point

-- the second finer step of an unfinished evolve
abbrev pub SecondFiner : {T X Y : Type 0} → forces.Ghosts X → taker.Ghosts Y → Course → Unfinished → Result T Halt → List BodyData → X → Y → Work → List BodyData → X → Y → Work → Type 0
SecondFiner F O course u answer B f o work B' f' o' work' =
    (from : ℕ) → IsFrom u.pause.now.tick u.bin from → Makes F.passes (u.bin - 1) (2 ^ u.bin - 2) from (end_of_bin u.bin u.pause.now.tick)
    (second_finer (rules_by F course f) u.pause.now.tick u.bin (ids_at B u.fast.now)) answer
    (now_by F O B f o work) (now_by F O B' f' o' work')

-- the same, unless it was under way
abbrev pub FinerLeft : {T X Y : Type 0} → forces.Ghosts X → taker.Ghosts Y → Course → Unfinished → Result T Halt → List BodyData → X → Y → Work → List BodyData → X → Y → Work → Type 0
FinerLeft F O course u answer B f o work B' f' o' work' =
    (from : ℕ) → IsFrom u.pause.now.tick u.bin from → Makes F.passes course.setup.now.top_bin (2 ^ u.bin - 2) from (end_of_bin u.bin u.pause.now.tick)
    (finer_left (rules_by F course f) u.pause.now.tick u.bin (ids_at B u.fast.now) (quick_parts B course.setup.now.top_bin u.pause.now.depth.now u.bin)) answer
    (now_by F O B f o work) (now_by F O B' f' o' work')

-- the rest of the unfinished evolve of a bin
abbrev pub RoundOf : {T X Y : Type 0} → forces.Ghosts X → taker.Ghosts Y → Course → Pause → ℕ → Result T Halt → List BodyData → X → Y → Work → List BodyData → X → Y → Work → Type 0
RoundOf F O course pause bin answer B f o work B' f' o' work' =
    (from : ℕ) → IsFrom pause.tick bin from → Makes F.passes course.setup.now.top_bin (2 ^ bin - 1) from (end_of_bin bin pause.tick)
    (λ stop p. round_of (rules_by F course f) course.setup.now.top_bin pause.tick B pause.depth.now stop bin p) answer
    (now_by F O B f o work) (now_by F O B' f' o' work')

-- the rest of the unfinished evolves up to a bin
abbrev pub RoundsTo : {T X Y : Type 0} → forces.Ghosts X → taker.Ghosts Y → Course → Pause → ℕ → Result T Halt → List BodyData → X → Y → Work → List BodyData → X → Y → Work → Type 0
RoundsTo F O course pause bin answer B f o work B' f' o' work' =
    Makes F.passes course.setup.now.top_bin (2 ^ (bin + 1)) pause.tick (rounds_end pause.tick bin)
    (rounds_left (rules_by F course f) course.setup.now.top_bin pause.tick B pause.depth.now bin) answer
    (now_by F O B f o work) (now_by F O B' f' o' work')

-- ---- the public calls

-- what is seen of a call
abbrev pub seen_by : {X Y : Type 0} → forces.Ghosts X → taker.Ghosts Y → List BodyData → X → Y → Seen
seen_by F O B f o = record { bodies = B; state = F.state f; took = O.took o }

-- the answer is that of the base step of all bodies from a tick on
abbrev pub BaseStepEnds : {X Y : Type 0} → forces.Ghosts X → taker.Ghosts Y → SetupData → Option ExpansionData → Bool → ℕ → Result StepCount StepEnd → List BodyData → X → Y → List BodyData → X → Y → Type 0
BaseStepEnds F O s e known tick answer B f o B' f' o' =
    StepEnds (F.gravity f) (F.passes (F.gravity f) (F.fixed f)) (seen_by F O B f o) (seen_by F O B' f' o')
    (whole_step (rules (F.gravity f) e) known B tick) tick (tick + 2 ^ s.top_bin) answer

-- the answer is that of the rest of a base step at a tick, by the depths of the bodies
abbrev pub RestEnds : {X Y : Type 0} → forces.Ghosts X → taker.Ghosts Y → SetupData → Option ExpansionData → List ℕ → ℕ → Result StepCount StepEnd → List BodyData → X → Y → List BodyData → X → Y → Type 0
RestEnds F O s e depths tick answer B f o B' f' o' =
    (σ : StateData) → σ.bodies ≡ B → σ.depths ≡ depths → σ.tick ≡ tick →
    StepEnds (F.gravity f) (F.passes (F.gravity f) (F.fixed f)) (seen_by F O B f o) (seen_by F O B' f' o')
    (λ stop. continue (rules (F.gravity f) e) stop σ (start_of σ.bodies)) tick (began s.top_bin tick + 2 ^ s.top_bin) answer
