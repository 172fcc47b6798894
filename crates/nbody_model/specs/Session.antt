-- A session: base steps, and what is written at each synchronisation (after GADGET's main loop with its list of
-- output times and its restart files; the exact order is this project's own).
use Rattle.std.specs.Prelude.{◌≡◌, ℕ, zero, suc, ◌+◌, ◌*◌, ◌%◌, ◌^◌, Bool, true, false, not, ◌&&◌, ◌||◌, ◌==◌, nat_lt, nat_le, List, [], ◌∷◌, ◌++◌, length, map, sum_by, Option, Some, None, if◌then◌else◌}
use Rattle.std.specs.List.{list_any}
use Rattle.nbody_model.specs.declared.kicks.Record.{Record}
use Rattle.fixed_point.specs.declared.V3.{V3}
use Rattle.nbody_model.specs.Bodies.{BodyData, components}
use Rattle.nbody_model.specs.Tables.{Rules}
use Rattle.nbody_model.specs.Evolve.{Progress, Happening, Refusal, Stepped, Going, Refused, Resting, records_of, asked_of, bins_of, rests_of, depths_of, is_empty, ask_if, evolve}
use Rattle.nbody_model.specs.States.{StateData}
use Rattle.nbody_model.specs.Continue.{continue}

-- ---- what a session goes by, and what it gives

-- setup and tables, the listed times in ticks, and after how many base steps a restart file is written (0: never)
pub record Plan : Type 0 where
  pub rules : Rules
  pub times : List ℕ
  pub restart_every : ℕ

-- a file, by its number, with the state that it is made of; that of a restart file has the number of the next one
pub data Written : Type 0 where
  Snapshot : ℕ → StateData → Written
  Restart : ℕ → StateData → Written

-- how a session ends: at the last tick, by a stop, or by a refusal
pub data End : Type 0 where
  Done : End
  Stopped : End
  OutOfRange : Refusal → End

-- the last state; the files in order; what happened in the steps; the states at the synchronisations, each once its
-- snapshot is counted and before a restart file is, and the rest state at which it was stopped; the ticks at which it
-- could be stopped; the end
pub record SessionData : Type 0 where
  pub state : StateData
  pub written : List Written
  pub trail : List Happening
  pub states : List StateData
  pub questions : List ℕ
  pub end : End

-- the kicks of a session, the bodies among which forces were asked, and its fast parts, in order
abbrev pub records : SessionData → List Record
records d = records_of d.trail

abbrev pub asked : SessionData → List (List BodyData)
asked d = asked_of d.trail

abbrev pub bins : SessionData → List (List ℕ)
bins d = bins_of d.trail

-- the record of a kick tells this momentum of all bodies
abbrev pub tells : V3 → Record → Type 0
tells p k = k.total ≡ components p

-- ---- counters, and how far a session goes

-- counters wrap: at 2^64, that of interactions at 2^128
abbrev pub raised64 : ℕ → ℕ → ℕ
raised64 n by = (n + by) % 2 ^ 64

abbrev pub raised128 : ℕ → ℕ → ℕ
raised128 n by = (n + by) % 2 ^ 128

abbrev pub is_running : Plan → StateData → Bool
is_running plan σ = nat_lt σ.tick plan.rules.gravity.setup.time_max

-- the session is to be stopped at this tick
abbrev pub is_stop : Option ℕ → ℕ → Bool
is_stop None tick = false
is_stop (Some s) tick = s == tick

-- ---- one synchronisation

abbrev pub with_snapshot : Bool → SessionData → SessionData
with_snapshot false d = d
with_snapshot true d =
    let σ = d.state in
    record d { written = d.written ++ Snapshot σ.next_snapshot σ ∷ []; state = record σ { next_snapshot = raised64 σ.next_snapshot 1 } }

abbrev pub with_restart : Bool → SessionData → SessionData
with_restart false d = d
with_restart true d =
    let σ = d.state in
    let raised : StateData = record σ { next_restart = raised64 σ.next_restart 1 } in
    record d { written = d.written ++ Restart σ.next_restart raised ∷ []; state = raised }

-- a listed time lies above the synchronisation before and at most at this one; of tick 0, it is listed itself
abbrev pub is_due : Plan → Option ℕ → ℕ → Bool
is_due plan None tick = list_any (λ t. t == 0) plan.times
is_due plan (Some before) tick = list_any (λ t. nat_lt before t && nat_le t tick) plan.times

-- after this number of base steps a restart file is written
abbrev pub is_kept : Plan → StateData → Bool
is_kept plan σ = is_running plan σ && (not (plan.restart_every == 0) && (nat_lt 0 σ.steps && σ.steps % plan.restart_every == 0))

-- the synchronisation of the last state, after that of the tick `before`, or as the first one of a run: a snapshot
-- where one is due and at the end, then a restart file where one is kept, then a stop, which writes one unless it stands
unfoldable pub synchronised : Plan → Option ℕ → Option ℕ → SessionData → SessionData
synchronised plan stop before d =
    let tick = d.state.tick in
    let running = is_running plan d.state in
    let asks : Bool = elim before [ None ↦ false | Some w ↦ running ] in
    let shown = with_snapshot (is_due plan before tick || not running) d in
    let told : SessionData = if asks then record shown { questions = shown.questions ++ tick ∷ [] } else shown in
    let stops = asks && is_stop stop tick in
    let saved = with_restart (is_kept plan d.state || stops) told in
    record saved { states = d.states ++ shown.state ∷ []; end = if stops then Stopped else Done }

-- ---- base steps

-- the counters after the kicks of a trail
abbrev pub counted : List Happening → StateData → StateData
counted trail σ = record σ {
  kicks = raised64 σ.kicks (length (records_of trail));
  interactions = raised128 σ.interactions (sum_by (λ k. k.pairs + k.fast_pairs) (records_of trail));
}

-- the state after a whole base step
abbrev pub advanced : Plan → Progress → StateData → StateData
advanced plan p σ =
    let steps = raised64 σ.steps 1 in
    record (counted p.trail σ) { bodies = p.bodies; depths = []; steps = steps; tick = steps * 2 ^ plan.rules.gravity.setup.top_bin }

-- the rest state at a tick, inside the unfinished evolves with these fast parts
abbrev pub rested : Progress → ℕ → List (List ℕ) → StateData → StateData
rested p tick Fs σ = record (counted p.trail σ) { bodies = p.bodies; depths = depths_of Fs p.bodies; tick = tick }

-- what happened is added
abbrev pub with_trail : List Happening → SessionData → SessionData
with_trail trail d = record d { trail = d.trail ++ trail; questions = d.questions ++ rests_of trail }

-- the base step from a state on: of a rest state what is left of it; the force among all is asked unless it is known
unfoldable pub base_step : Plan → Option ℕ → Bool → StateData → Stepped
base_step plan stop known σ =
    let all = map (λ b. b.id) σ.bodies in
    let start : Progress = record { bodies = σ.bodies; trail = [] } in
    if is_empty σ.depths
    then evolve plan.rules stop plan.rules.gravity.setup.top_bin all σ.tick (ask_if (not known) all start)
    else continue plan.rules stop σ start

abbrev pub is_done : End → Bool
is_done Done = true
is_done Stopped = false
is_done (OutOfRange e) = false

-- at most n further base steps, while the tick is below the last one; a rest state is always finished
unfoldable pub session_from : ℕ → Plan → Option ℕ → Bool → SessionData → SessionData
session_from zero plan stop known d = d
session_from (suc n) plan stop known d =
    let σ = d.state in
    let top = plan.rules.gravity.setup.top_bin in
    let later : SessionData → SessionData = λ e. if is_done e.end then session_from n plan stop true e else e in
    if is_empty σ.depths && not (is_running plan σ) then d else
    (elim (base_step plan stop known σ) [
      | Going p ↦ later (synchronised plan stop (Some (σ.steps * 2 ^ top)) (record (with_trail p.trail d) { state = advanced plan p σ }))
      | Refused p e ↦ record (with_trail p.trail d) { end = OutOfRange e }
      | Resting p tick Fs ↦ let ρ = rested p tick Fs σ in with_restart true (record (with_trail p.trail d) { state = ρ; states = d.states ++ ρ ∷ []; end = Stopped })
    ])

-- a session from a state on: a run from tick 0 begins with the synchronisation there, a resumed one with none
unfoldable pub session : Plan → Bool → Option ℕ → StateData → SessionData
session plan resumed stop σ =
    let start : SessionData = record { state = σ; written = []; trail = []; states = []; questions = []; end = Done } in
    let first : SessionData = if resumed then start else synchronised plan stop None start in
    session_from (plan.rules.gravity.setup.time_max + 1) plan stop false first

-- ---- states that a restart file may keep

-- the state that a restart file written there keeps: it has the number of the next one
abbrev pub kept : StateData → StateData
kept σ = record σ { next_restart = raised64 σ.next_restart 1 }
