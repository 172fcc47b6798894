-- A session with a stop beside the one without.
use Rattle.std.proofs.Common.{◌≡◌, ◌⊎◌, inl, inr, ℕ, zero, suc, ◌+◌, ◌*◌, ◌^◌, Bool, true, false, cond, not, ◌&&◌, ◌||◌, ◌==◌, List, [], ◌∷◌, ◌++◌, Option, Some, None, refl, ap, sym, ◌∙◌, subst, append_assoc}
use Rattle.std.proofs.lemmas.Bool.{false≢true, eqb-true}
use Rattle.nbody_model.specs.Evolve.{rest_in, rests_of, Stepped, Going, Refused, Resting}
use Rattle.nbody_model.specs.Session.{Plan, SessionData, Done, Stopped, is_running, is_due, is_kept, with_snapshot, with_restart, synchronised, advanced, with_trail, base_step, is_done, session_from, session}
use Rattle.nbody_model.specs.States.{StateData}
use Rattle.step_engine.specs.Ends.{trail_of}
use Rattle.model_laws.proofs.Resumed.{done_on, onward, stops_here, synced_by, synced_is, synced_none}
use Rattle.run_session.proofs.Turns.{refused, goes_on, is_over}
use Rattle.run_session.specs.Stages.{IsFirst, GrowsTo}
use Rattle.run_session.proofs.FirstParts.{first_on, first_behind, first_flat, onward_grows, session_grows}
use Rattle.run_session.proofs.Pauses.{Pauses, base_pauses, pause_rests}

-- it was stopped at u, the last tick at which it could be stopped; what happened and these ticks are first parts of
-- what they are without a stop
pub record StopsAt (u : ℕ) (d whole : SessionData) : Type 0 where
  pub end : d.end ≡ Stopped
  pub trail : IsFirst d.trail whole.trail
  pub questions : IsFirst d.questions whole.questions
  pub front : List ℕ
  pub last : d.questions ≡ front ++ u ∷ []

-- either the stop lies behind its end, or it was stopped there
abbrev pub StopsOrNot : ℕ → SessionData → SessionData → Type 0
StopsOrNot u d whole = (d ≡ whole) ⊎ StopsAt u d whole

-- ---- at a synchronisation

restart_trail : (b : Bool) (d : SessionData) → (with_restart b d).trail ≡ d.trail
restart_trail true d = refl
restart_trail false d = refl

restart_questions : (b : Bool) (d : SessionData) → (with_restart b d).questions ≡ d.questions
restart_questions true d = refl
restart_questions false d = refl

asked_questions : (b : Bool) (tick : ℕ) (d : SessionData) → b ≡ true → (cond b (record d { questions = d.questions ++ tick ∷ [] }) d).questions ≡ d.questions ++ tick ∷ []
asked_questions true tick d e = refl
asked_questions false tick d e = absurd (false≢true e)

both_true : (a b : Bool) → (a && b) ≡ true → (a ≡ true) × (b ≡ true)
both_true true b e = (refl, e)
both_true false b e = absurd (false≢true e)

-- stopped at this synchronisation
halts_synced : (n : ℕ) (plan : Plan) (u w : ℕ) (d : SessionData) → stops_here plan (Some u) (Some w) d ≡ true → StopsAt u (synced_by plan (Some w) d true) (session_from n plan None true (synced_by plan (Some w) d false))
halts_synced n plan u w d e =
    let asks = is_running plan d.state in
    let shown = with_snapshot (is_due plan (Some w) d.state.tick || not (is_running plan d.state)) d in
    let told : SessionData = cond asks (record shown { questions = shown.questions ++ d.state.tick ∷ [] }) shown in
    let a = is_kept plan d.state || true in
    let b = is_kept plan d.state || false in
    let whole = session_from n plan None true (synced_by plan (Some w) d false) in
    let g : GrowsTo (synced_by plan (Some w) d false) whole = session_grows n plan None true (synced_by plan (Some w) d false) in
    let t : (with_restart a told).trail ≡ (with_restart b told).trail = restart_trail a told ∙ sym (restart_trail b told) in
    let q : (with_restart a told).questions ≡ (with_restart b told).questions = restart_questions a told ∙ sym (restart_questions b told) in
    let both = both_true asks (u == d.state.tick) e in
    record {
      end = refl;
      trail = subst (λ xs. IsFirst xs whole.trail) (sym t) g.trail;
      questions = subst (λ xs. IsFirst xs whole.questions) (sym q) g.questions;
      front = shown.questions;
      last = restart_questions a told ∙ asked_questions asks d.state.tick shown both.0 ∙ ap (λ x. shown.questions ++ x ∷ []) (sym (eqb-true u d.state.tick both.1));
    }

-- what is shown of the base steps that follow
abbrev Later : ℕ → Plan → ℕ → Type 0
Later n plan u = (known : Bool) (d : SessionData) → StopsOrNot u (session_from n plan (Some u) known d) (session_from n plan None known d)

synced_halts : (n : ℕ) (plan : Plan) (u w : ℕ) → Later n plan u → (d : SessionData) (b : Bool) → stops_here plan (Some u) (Some w) d ≡ b →
    StopsOrNot u (goes_on n plan (Some u) (synchronised plan (Some u) (Some w) d)) (goes_on n plan None (synchronised plan None (Some w) d))
synced_halts n plan u w later d true e =
    let f = synced_by plan (Some w) d false in
    let p : synchronised plan (Some u) (Some w) d ≡ synced_by plan (Some w) d true = synced_is plan (Some u) (Some w) d ∙ ap (synced_by plan (Some w) d) e in
    let q : goes_on n plan None (synchronised plan None (Some w) d) ≡ session_from n plan None true f = ap (goes_on n plan None) (synced_none plan (Some w) d) ∙ done_on n plan None f refl in
    subst (λ x. StopsOrNot u (goes_on n plan (Some u) x) (goes_on n plan None (synchronised plan None (Some w) d))) (sym p)
    (subst (λ x. StopsOrNot u (synced_by plan (Some w) d true) x) (sym q) (inr (halts_synced n plan u w d e)))
synced_halts n plan u w later d false e =
    let f = synced_by plan (Some w) d false in
    let p : goes_on n plan (Some u) (synchronised plan (Some u) (Some w) d) ≡ session_from n plan (Some u) true f =
    ap (goes_on n plan (Some u)) (synced_is plan (Some u) (Some w) d ∙ ap (synced_by plan (Some w) d) e) ∙ done_on n plan (Some u) f refl in
    let q : goes_on n plan None (synchronised plan None (Some w) d) ≡ session_from n plan None true f = ap (goes_on n plan None) (synced_none plan (Some w) d) ∙ done_on n plan None f refl in
    subst (λ x. StopsOrNot u x (goes_on n plan None (synchronised plan None (Some w) d))) (sym p) (subst (λ x. StopsOrNot u (session_from n plan (Some u) true f) x) (sym q) (later true f))

-- ---- a turn

turn_halts : (n : ℕ) (plan : Plan) (u : ℕ) → Later n plan u → (d : SessionData) (s w : Stepped) → Pauses u s w → StopsOrNot u (onward n plan (Some u) d s) (onward n plan None d w)
turn_halts n plan u later d (Going p) w h =
    let before = d.state.steps * 2 ^ plan.rules.gravity.setup.top_bin in
    let told : SessionData = record (with_trail p.trail d) { state = advanced plan p d.state } in
    subst (λ v. StopsOrNot u (onward n plan (Some u) d (Going p)) (onward n plan None d v)) (sym h)
    (synced_halts n plan u before later told (stops_here plan (Some u) (Some before) told) refl)
turn_halts n plan u later d (Refused p x) w h = subst (λ v. StopsOrNot u (refused d p x) (onward n plan None d v)) (sym h) (inl refl)
turn_halts n plan u later d (Resting q tick Fs) w h =
    let whole = onward n plan None d w in
    let g : GrowsTo (with_trail (trail_of w) d) whole = onward_grows n plan None d w in
    inr (record {
      end = refl;
      trail = first_on (d.trail ++ q.trail) (d.trail ++ trail_of w) whole.trail (first_behind d.trail q.trail (trail_of w) h.first) g.trail;
      questions = first_on (d.questions ++ rests_of q.trail) (d.questions ++ rests_of (trail_of w)) whole.questions (first_behind d.questions (rests_of q.trail) (rests_of (trail_of w)) (first_flat rest_in q.trail (trail_of w) h.first)) g.questions;
      front = d.questions ++ rests_of h.front;
      last = ap (λ xs. d.questions ++ xs) (pause_rests u q tick (trail_of w) h) ∙ sym (append_assoc d.questions (rests_of h.front) (u ∷ []));
    })

cond_halts : (u : ℕ) (b : Bool) (d e f : SessionData) → StopsOrNot u e f → StopsOrNot u (cond b d e) (cond b d f)
cond_halts u true d e f h = inl refl
cond_halts u false d e f h = h

pub session_from_halts : (n : ℕ) (plan : Plan) (u : ℕ) (known : Bool) (d : SessionData) → StopsOrNot u (session_from n plan (Some u) known d) (session_from n plan None known d)
unfolding session_from
session_from_halts zero plan u known d = inl refl
session_from_halts (suc n) plan u known d =
    let s = base_step plan (Some u) known d.state in
    let w = base_step plan None known d.state in
    cond_halts u (is_over plan d.state) d (onward n plan (Some u) d s) (onward n plan None d w) (turn_halts n plan u (λ k e. session_from_halts n plan u k e) d s w (base_pauses u plan known d.state))

-- the first synchronisation is no stop
pub first_same : (plan : Plan) (stop : Option ℕ) (d : SessionData) → synchronised plan stop None d ≡ synchronised plan None None d
unfolding synchronised
first_same plan stop d = refl

pub session_halts : (plan : Plan) (resumed : Bool) (u : ℕ) (σ : StateData) → StopsOrNot u (session plan resumed (Some u) σ) (session plan resumed None σ)
unfolding session
session_halts plan resumed u σ =
    let start : SessionData = record { state = σ; written = []; trail = []; states = []; questions = []; end = Done } in
    let n = plan.rules.gravity.setup.time_max + 1 in
    let first : Option ℕ → SessionData = λ stop. cond resumed start (synchronised plan stop None start) in
    subst (λ d. StopsOrNot u (session_from n plan (Some u) false d) (session_from n plan None false (first None))) (ap (λ d. cond resumed start d) (sym (first_same plan (Some u) start)))
    (session_from_halts n plan u false (first None))
