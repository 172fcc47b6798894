-- What a session makes of its base steps, and what a synchronisation keeps.
use Rattle.std.proofs.Common.{◌≡◌, ◌<◌, ◌≤◌, ℕ, suc, ◌+◌, ◌-◌, ◌*◌, ◌/◌, ◌^◌, Bool, true, false, cond, not, ◌&&◌, ◌||◌, nat_lt, [], ◌∷◌, ◌++◌, Option, Some, None, refl, ap, sym, ◌∙◌, subst, arith, le-mul_of_pos_right, mod-eq_of_lt, le-div_iff_mul-le, div-lt_iff_lt-mul}
use Rattle.std.proofs.lemmas.Bool.{ltb-true, ltb-false}
use Rattle.std.proofs.lemmas.Nat.{pow_pos}
use Rattle.nbody_model.specs.Setups.{SetupData, IsSetup}
use Rattle.nbody_model.specs.Evolve.{Progress, is_empty, ask_if, evolve}
use Rattle.nbody_model.specs.States.{StateData}
use Rattle.nbody_model.specs.Continue.{continue}
use Rattle.nbody_model.specs.Session.{Plan, SessionData, Done, raised64, is_running, is_stop, with_snapshot, with_restart, is_due, is_kept, synchronised, advanced, base_step, session_from}
use Rattle.model_laws.specs.Nests.{ids_of}
use Rattle.model_laws.specs.Resumed.{SameTimes}
use Rattle.model_laws.proofs.Resumed.{onward, running, sync_times}
use Rattle.rewind_laws.specs.Back.{base_steps}

-- ---- a synchronisation

-- a synchronisation keeps the place in the run, and tells nothing
pub record SameRun (d e : SessionData) : Type 0 where
  pub times : SameTimes e.state d.state
  pub trail : e.trail ≡ d.trail

trail_kept : (snapshot asks restart : Bool) (tick : ℕ) (d : SessionData) →
    let shown = with_snapshot snapshot d in
    (with_restart restart (cond asks (record shown { questions = shown.questions ++ tick ∷ [] }) shown)).trail ≡ d.trail
trail_kept true true true tick d = refl
trail_kept true true false tick d = refl
trail_kept true false true tick d = refl
trail_kept true false false tick d = refl
trail_kept false true true tick d = refl
trail_kept false true false tick d = refl
trail_kept false false true tick d = refl
trail_kept false false false tick d = refl

pub sync_same : (plan : Plan) (stop before : Option ℕ) (d : SessionData) → SameRun d (synchronised plan stop before d)
unfolding synchronised
sync_same plan stop before d =
    let asks : Bool = elim before [ None ↦ false | Some w ↦ is_running plan d.state ] in
    record {
      times = sync_times plan stop before d;
      trail = trail_kept (is_due plan before d.state.tick || not (is_running plan d.state)) asks (is_kept plan d.state || (asks && is_stop stop d.state.tick)) d.state.tick d;
    }

pub first_done : (plan : Plan) (stop : Option ℕ) (d : SessionData) → (synchronised plan stop None d).end ≡ Done
unfolding synchronised
first_done plan stop d = refl

-- ---- base steps

-- before a base step the force among all is asked, unless it is known
abbrev pub before_step : Bool → StateData → Progress
before_step known σ = ask_if (not known) (ids_of σ.bodies) (record { bodies = σ.bodies; trail = [] })

pub runs_on : (n : ℕ) (plan : Plan) (stop : Option ℕ) (known : Bool) (d : SessionData) → d.state.depths ≡ [] → is_running plan d.state ≡ true →
    session_from (suc n) plan stop known d ≡ onward n plan stop d (evolve plan.rules stop plan.rules.gravity.setup.top_bin (ids_of d.state.bodies) d.state.tick (before_step known d.state))
unfolding base_step
runs_on n plan stop known d h r =
    let σ = d.state in
    running n plan stop known d r ∙
    (λ i. onward n plan stop d (cond (is_empty (h i)) (evolve plan.rules stop plan.rules.gravity.setup.top_bin (ids_of σ.bodies) σ.tick (before_step known σ)) (continue plan.rules stop σ (record { bodies = σ.bodies; trail = [] }))))

-- ---- ticks

-- between base steps, not later than the first end that isn't before the time asked for
pub record IsTimed (s : SetupData) (σ : StateData) : Type 0 where
  pub depths : σ.depths ≡ []
  pub tick : σ.tick ≡ σ.steps * 2 ^ s.top_bin
  pub near : σ.tick < s.time_max + 2 ^ s.top_bin

-- n further base steps are enough
abbrev pub Enough : SetupData → ℕ → StateData → Type 0
Enough s n σ = s.time_max ≤ σ.tick + n

pub next_steps : (s : SetupData) (σ : StateData) → IsSetup s → IsTimed s σ → σ.tick < s.time_max → raised64 σ.steps 1 ≡ σ.steps + 1
next_steps s σ h k below =
    let few : σ.steps ≤ σ.steps * 2 ^ s.top_bin = le-mul_of_pos_right σ.steps (pow_pos s.top_bin) in
    mod-eq_of_lt (omega (arith, below, few, k.tick, h.time_high))

pub next_timed : (plan : Plan) (p : Progress) (σ : StateData) → IsSetup plan.rules.gravity.setup → IsTimed plan.rules.gravity.setup σ → σ.tick < plan.rules.gravity.setup.time_max → IsTimed plan.rules.gravity.setup (advanced plan p σ)
next_timed plan p σ h k below =
    let s = plan.rules.gravity.setup in
    let e : raised64 σ.steps 1 * 2 ^ s.top_bin ≡ (σ.steps + 1) * 2 ^ s.top_bin = ap (λ n. n * 2 ^ s.top_bin) (next_steps s σ h k below) in
    record { depths = refl; tick = refl; near = omega (arith, e, below, k.tick) }

pub next_enough : (plan : Plan) (n : ℕ) (p : Progress) (σ : StateData) → IsSetup plan.rules.gravity.setup → IsTimed plan.rules.gravity.setup σ → σ.tick < plan.rules.gravity.setup.time_max → Enough plan.rules.gravity.setup (suc n) σ →
    Enough plan.rules.gravity.setup n (advanced plan p σ)
next_enough plan n p σ h k below en =
    let s = plan.rules.gravity.setup in
    let e : raised64 σ.steps 1 * 2 ^ s.top_bin ≡ (σ.steps + 1) * 2 ^ s.top_bin = ap (λ n. n * 2 ^ s.top_bin) (next_steps s σ h k below) in
    let some : 0 < 2 ^ s.top_bin = pow_pos s.top_bin in
    omega (arith, e, en, k.tick, some)

pub same_timed : (s : SetupData) (d e : SessionData) → SameRun d e → IsTimed s d.state → IsTimed s e.state
same_timed s d e a k = record {
  depths = a.times.depths ∙ k.depths;
  tick = a.times.tick ∙ k.tick ∙ ap (λ n. n * 2 ^ s.top_bin) (sym a.times.steps);
  near = subst (λ t. t < s.time_max + 2 ^ s.top_bin) (sym a.times.tick) k.near;
}

pub same_enough : (s : SetupData) (n : ℕ) (d e : SessionData) → SameRun d e → Enough s n d.state → Enough s n e.state
same_enough s n d e a k = subst (λ t. s.time_max ≤ t + n) (sym a.times.tick) k

quotient_is : (k a w : ℕ) → 0 < w → k * w ≤ a → a < (k + 1) * w → a / w ≡ k
quotient_is k a w some low high =
    let up = (div-lt_iff_lt-mul {k = w} some).1 high in
    let down = (le-div_iff_mul-le {k = w} some).1 low in
    omega (arith, up, down)

-- a run that is over made as many base steps as a whole run does
pub all_steps : (s : SetupData) (σ : StateData) → IsTimed s σ → s.time_max ≤ σ.tick → σ.steps ≡ base_steps s
all_steps s σ k over =
    let w = 2 ^ s.top_bin in
    let some : 0 < w = pow_pos s.top_bin in
    let e : (s.time_max + w - 1) / w ≡ σ.steps = quotient_is σ.steps (s.time_max + w - 1) w some (omega (arith, k.near, k.tick, over)) (omega (arith, k.near, k.tick, over, some)) in
    let f : σ.steps * w / w ≡ σ.steps = quotient_is σ.steps (σ.steps * w) w some (omega arith) (omega (arith, some)) in
    sym (ap (λ q. q * w / w) e ∙ f)

-- and one that made fewer isn't over, one that made as many is
pub few_steps : (s : SetupData) (σ : StateData) → IsTimed s σ → σ.steps < base_steps s → σ.tick < s.time_max
few_steps s σ k few = below (nat_lt σ.tick s.time_max) refl
  where
    below : (b : Bool) → nat_lt σ.tick s.time_max ≡ b → σ.tick < s.time_max
    below true e = ltb-true σ.tick s.time_max e
    below false e = absurd (omega (arith, few, all_steps s σ k (ltb-false σ.tick s.time_max e)))

pub enough_steps : (s : SetupData) (σ : StateData) → IsTimed s σ → σ.steps ≡ base_steps s → s.time_max ≤ σ.tick
enough_steps s σ k e =
    let w = 2 ^ s.top_bin in
    let some : 0 < w = pow_pos s.top_bin in
    let q = (s.time_max + w - 1) / w in
    let f : q * w / w ≡ q = quotient_is q (q * w) w some (omega arith) (omega (arith, some)) in
    let g : σ.steps * w ≡ q * w = ap (λ n. n * w) (e ∙ f) in
    let high : s.time_max + w - 1 < (q + 1) * w = (div-lt_iff_lt-mul {k = w} some).0 (omega arith) in
    omega (arith, k.tick, g, high, some)
