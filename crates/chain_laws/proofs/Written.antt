-- Each restart file of a session is that of one of its states.
use Rattle.std.proofs.Common.{◌≡◌, ◌⊎◌, inl, inr, ℕ, zero, suc, ◌+◌, ◌*◌, ◌^◌, Bool, true, false, cond, not, ◌&&◌, ◌||◌, List, [], ◌∷◌, ◌++◌, Option, Some, None, refl, ap}
use Rattle.std.proofs.lemmas.Bool.{true≢false}
use Rattle.nbody_model.specs.Evolve.{Stepped, Going, Refused, Resting, is_empty}
use Rattle.nbody_model.specs.States.{StateData}
use Rattle.nbody_model.specs.Session.{Plan, Written, Snapshot, Restart, SessionData, Stopped, is_running, is_stop, with_snapshot, with_restart, is_due, is_kept, synchronised, advanced, rested, with_trail, base_step, is_done, session_from, session, kept}
use Rattle.model_laws.specs.Resumed.{IsOneOf}
use Rattle.model_laws.proofs.Resumed.{onward, one_of_more}
use Rattle.chain_laws.specs.Chains.{IsOfState, RestartFilesAreOfStates}
use Rattle.chain_laws.proofs.Chains.{fresh}
use Rattle.chain_laws.proofs.Numbers.{synced_with}

abbrev AreOfStates : SessionData → Type 0
AreOfStates d = (n : ℕ) (ρ : StateData) → IsOneOf (Restart n ρ) d.written → IsOfState ρ d

-- ---- lists

in_front : {X : Type 0} (x y : X) (xs : List X) → IsOneOf x xs → IsOneOf x (xs ++ y ∷ [])
in_front x y [] h = absurd h
in_front x y (z ∷ xs) (inl e) = inl e
in_front x y (z ∷ xs) (inr h) = inr (in_front x y xs h)

at_end : {X : Type 0} (x : X) (xs : List X) → IsOneOf x (xs ++ x ∷ [])
at_end x [] = inl refl
at_end x (y ∷ xs) = inr (at_end x xs)

-- ---- files

is_restart : Written → Bool
is_restart (Snapshot n σ) = false
is_restart (Restart n σ) = true

state_of : Written → StateData
state_of (Snapshot n σ) = σ
state_of (Restart n σ) = σ

shown_of : (b : Bool) (d : SessionData) (n : ℕ) (ρ : StateData) → IsOneOf (Restart n ρ) (with_snapshot b d).written → IsOneOf (Restart n ρ) d.written
unfolding is_restart
shown_of false d n ρ h = h
shown_of true d n ρ h = by (one_of_more (Restart n ρ) (Snapshot d.state.next_snapshot d.state) d.written h)
  where
    by : IsOneOf (Restart n ρ) d.written ⊎ (Restart n ρ ≡ Snapshot d.state.next_snapshot d.state) → IsOneOf (Restart n ρ) d.written
    by (inl g) = g
    by (inr e) = absurd (true≢false (ap is_restart e))

saved_of : (b : Bool) (d : SessionData) (n : ℕ) (ρ : StateData) → IsOneOf (Restart n ρ) (with_restart b d).written → IsOneOf (Restart n ρ) d.written ⊎ (ρ ≡ kept d.state)
unfolding state_of
saved_of false d n ρ h = inl h
saved_of true d n ρ h = by (one_of_more (Restart n ρ) (Restart d.state.next_restart (kept d.state)) d.written h)
  where
    by : IsOneOf (Restart n ρ) d.written ⊎ (Restart n ρ ≡ Restart d.state.next_restart (kept d.state)) → IsOneOf (Restart n ρ) d.written ⊎ (ρ ≡ kept d.state)
    by (inl g) = inl g
    by (inr e) = inr (ap state_of e)

-- ---- a synchronisation

asked_of : (asks : Bool) (tick : ℕ) (d : SessionData) (n : ℕ) (ρ : StateData) → let told : SessionData = cond asks (record d { questions = d.questions ++ tick ∷ [] }) d in
    IsOneOf (Restart n ρ) told.written ⊎ (ρ ≡ kept told.state) → IsOneOf (Restart n ρ) d.written ⊎ (ρ ≡ kept d.state)
asked_of true tick d n ρ h = h
asked_of false tick d n ρ h = h

synced_of : (due asks keeps stops : Bool) (tick : ℕ) (d : SessionData) → AreOfStates d → AreOfStates (synced_with due asks keeps stops tick d)
synced_of due asks keeps stops tick d f n ρ h = by (asked_of asks tick shown n ρ (saved_of keeps told n ρ h))
  where
    shown : SessionData
    shown = with_snapshot due d

    told : SessionData
    told = cond asks (record shown { questions = shown.questions ++ tick ∷ [] }) shown

    same : (b : Bool) → (with_snapshot b d).states ≡ d.states
    same true = refl
    same false = refl

    by : IsOneOf (Restart n ρ) shown.written ⊎ (ρ ≡ kept shown.state) → IsOfState ρ (synced_with due asks keeps stops tick d)
    by (inl g) = let o = f n ρ (shown_of due d n ρ g) in record { state = o.state; one = in_front o.state shown.state d.states o.one; is = o.is }
    by (inr e) = record { state = shown.state; one = at_end shown.state d.states; is = e }

sync_of : (plan : Plan) (stop before : Option ℕ) (d : SessionData) → AreOfStates d → AreOfStates (synchronised plan stop before d)
unfolding synchronised
sync_of plan stop before d f =
    let running = is_running plan d.state in
    let asks : Bool = elim before [ None ↦ false | Some w ↦ running ] in
    let stops = asks && is_stop stop d.state.tick in
    synced_of (is_due plan before d.state.tick || not running) asks (is_kept plan d.state || stops) stops d.state.tick d f

-- ---- base steps

either_of : (b : Bool) (d e : SessionData) → AreOfStates d → AreOfStates e → AreOfStates (cond b d e)
either_of true d e f g = f
either_of false d e f g = g

onward_of : (n : ℕ) (plan : Plan) (stop : Option ℕ) → ((d : SessionData) → AreOfStates d → AreOfStates (session_from n plan stop true d)) → (d : SessionData) → AreOfStates d → (s : Stepped) → AreOfStates (onward n plan stop d s)
onward_of n plan stop later d f (Going p) m σ k =
    let x : SessionData = record (with_trail p.trail d) { state = advanced plan p d.state } in
    let e = synchronised plan stop (Some (d.state.steps * 2 ^ plan.rules.gravity.setup.top_bin)) x in
    let g : AreOfStates e = sync_of plan stop (Some (d.state.steps * 2 ^ plan.rules.gravity.setup.top_bin)) x (λ m ρ h. let o = f m ρ h in record { state = o.state; one = o.one; is = o.is }) in
    either_of (is_done e.end) (session_from n plan stop true e) e (later e g) g m σ k
onward_of n plan stop later d f (Refused p x) m ρ h = let o = f m ρ h in record { state = o.state; one = o.one; is = o.is }
onward_of n plan stop later d f (Resting p tick Fs) m ρ h =
    let σ = rested p tick Fs d.state in
    let e : SessionData = record (with_trail p.trail d) { state = σ; states = d.states ++ σ ∷ []; end = Stopped } in
    by σ (saved_of true e m ρ h)
  where
    by : (σ : StateData) → IsOneOf (Restart m ρ) d.written ⊎ (ρ ≡ kept σ) → IsOfState ρ (with_restart true (record (with_trail p.trail d) { state = σ; states = d.states ++ σ ∷ []; end = Stopped }))
    by σ (inl g) = let o = f m ρ g in record { state = o.state; one = in_front o.state σ d.states o.one; is = o.is }
    by σ (inr e) = record { state = σ; one = at_end σ d.states; is = e }

from_of : (n : ℕ) (plan : Plan) (stop : Option ℕ) (known : Bool) (d : SessionData) → AreOfStates d → AreOfStates (session_from n plan stop known d)
unfolding session_from
from_of zero plan stop known d f = f
from_of (suc n) plan stop known d f =
    either_of (is_empty d.state.depths && not (is_running plan d.state)) d (onward n plan stop d (base_step plan stop known d.state)) f
    (onward_of n plan stop (from_of n plan stop true) d f (base_step plan stop known d.state))

pub restart_files_are_of_states : RestartFilesAreOfStates
unfolding session
restart_files_are_of_states plan resumed stop σ = by resumed
  where
    none : AreOfStates (fresh σ)
    none n ρ h = absurd h

    by : (b : Bool) → AreOfStates (session plan b stop σ)
    by true = from_of (plan.rules.gravity.setup.time_max + 1) plan stop false (fresh σ) none
    by false = from_of (plan.rules.gravity.setup.time_max + 1) plan stop false (synchronised plan stop None (fresh σ)) (sync_of plan stop None (fresh σ) none)
