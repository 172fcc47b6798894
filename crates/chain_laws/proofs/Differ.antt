-- The restart files of a session have different numbers.
use Rattle.std.proofs.Common.{◌≡◌, ◌≢◌, ◌⊎◌, ◌<◌, ◌≤◌, inl, inr, ℕ, zero, suc, ◌+◌, ◌*◌, ◌%◌, ◌^◌, Bool, true, false, cond, not, ◌&&◌, ◌||◌, List, [], ◌∷◌, ◌++◌, Option, Some, None, refl, sym, ap, ◌∙◌, subst, arith}
use Rattle.std.specs.Prelude.{⊤}
use Rattle.std.proofs.lemmas.Bool.{true≢false}
use Rattle.nbody_model.specs.Setups.{IsSetup}
use Rattle.nbody_model.specs.Evolve.{Stepped, Going, Refused, Resting, is_empty}
use Rattle.nbody_model.specs.States.{StateData}
use Rattle.nbody_model.specs.Session.{Plan, Written, Snapshot, Restart, SessionData, Stopped, is_running, is_stop, with_snapshot, with_restart, is_due, is_kept, synchronised, advanced, rested, with_trail, base_step, is_done, session_from, session, kept}
use Rattle.model_laws.specs.Resumed.{IsOneOf}
use Rattle.model_laws.proofs.Resumed.{onward, one_of_more}
use Rattle.chain_laws.specs.Numbers.{RestartNumbersAreLow, RestartNumbersDiffer}
use Rattle.chain_laws.proofs.Chains.{fresh}
use Rattle.chain_laws.proofs.Numbers.{synced_with}

-- ---- files

unfoldable number_of : Written → ℕ
number_of (Snapshot n σ) = n
number_of (Restart n σ) = n

unfoldable is_restart : Written → Bool
is_restart (Snapshot n σ) = false
is_restart (Restart n σ) = true

same_number : (m n : ℕ) (ρ τ : StateData) → Restart m ρ ≡ Restart n τ → m ≡ n
unfolding number_of
same_number m n ρ τ e = ap number_of e

apart : (m n : ℕ) (ρ τ : StateData) → Restart m ρ ≡ Snapshot n τ → ⊥
unfolding is_restart
apart m n ρ τ e = true≢false (ap is_restart e)

-- no restart file behind a restart file has its number
unfoldable AllDiffer : List Written → Type 0
AllDiffer [] = ⊤
AllDiffer (Snapshot m σ ∷ ws) = AllDiffer ws
AllDiffer (Restart m σ ∷ ws) = ((n : ℕ) (τ : StateData) → IsOneOf (Restart n τ) ws → m ≢ n) × AllDiffer ws

put_shown : (ws : List Written) (n : ℕ) (τ : StateData) → AllDiffer ws → AllDiffer (ws ++ Snapshot n τ ∷ [])
unfolding AllDiffer
put_shown [] n τ a = tt
put_shown (Snapshot m σ ∷ ws) n τ a = put_shown ws n τ a
put_shown (Restart m σ ∷ ws) n τ a = (λ k ρ h. at k ρ (one_of_more (Restart k ρ) (Snapshot n τ) ws h), put_shown ws n τ a.1)
  where
    at : (k : ℕ) (ρ : StateData) → IsOneOf (Restart k ρ) ws ⊎ (Restart k ρ ≡ Snapshot n τ) → m ≢ k
    at k ρ (inl g) = a.0 k ρ g
    at k ρ (inr e) = absurd (apart k n ρ τ e)

put_kept : (ws : List Written) (n : ℕ) (τ : StateData) → AllDiffer ws → ((m : ℕ) (ρ : StateData) → IsOneOf (Restart m ρ) ws → m ≢ n) → AllDiffer (ws ++ Restart n τ ∷ [])
unfolding AllDiffer
put_kept [] n τ a f = (λ k ρ h. absurd h, tt)
put_kept (Snapshot m σ ∷ ws) n τ a f = put_kept ws n τ a (λ k ρ h. f k ρ (inr h))
put_kept (Restart m σ ∷ ws) n τ a f = (λ k ρ h. at k ρ (one_of_more (Restart k ρ) (Restart n τ) ws h), put_kept ws n τ a.1 (λ k ρ h. f k ρ (inr h)))
  where
    at : (k : ℕ) (ρ : StateData) → IsOneOf (Restart k ρ) ws ⊎ (Restart k ρ ≡ Restart n τ) → m ≢ k
    at k ρ (inl g) = a.0 k ρ g
    at k ρ (inr e) = λ q. f m σ (inl refl) (q ∙ same_number k n ρ τ e)

inside : (before after : List Written) (n : ℕ) (τ : StateData) → IsOneOf (Restart n τ) (before ++ Restart n τ ∷ after)
inside [] after n τ = inl refl
inside (w ∷ ws) after n τ = inr (inside ws after n τ)

earlier : (before after : List Written) (m n : ℕ) (ρ τ : StateData) → AllDiffer (before ++ Restart n τ ∷ after) → IsOneOf (Restart m ρ) before → m ≢ n
unfolding AllDiffer
earlier [] after m n ρ τ a h = absurd h
earlier (Snapshot k σ ∷ ws) after m n ρ τ a (inl e) = absurd (apart m k ρ σ e)
earlier (Snapshot k σ ∷ ws) after m n ρ τ a (inr h) = earlier ws after m n ρ τ a h
earlier (Restart k σ ∷ ws) after m n ρ τ a (inl e) = λ q. a.0 n τ (inside ws after n τ) (sym (same_number m k ρ σ e) ∙ q)
earlier (Restart k σ ∷ ws) after m n ρ τ a (inr h) = earlier ws after m n ρ τ a.1 h

-- ---- numbers

-- the next number is some numbers behind m, and at most k
record IsBehind (k m next : ℕ) : Type 0 where
  low : m < 2 ^ 64
  by : ℕ
  some : 1 ≤ by
  few : by ≤ k
  is : next ≡ (m + by) % 2 ^ 64

-- k restart files at most are among these, whose numbers go up to the next one
record AreCounted (k next : ℕ) (ws : List Written) : Type 0 where
  low : next < 2 ^ 64
  behind : (m : ℕ) (ρ : StateData) → IsOneOf (Restart m ρ) ws → IsBehind k m next
  differ : AllDiffer ws

abbrev Counts : ℕ → SessionData → Type 0
Counts k d = AreCounted k d.state.next_restart d.written

weaker : (j k next : ℕ) (ws : List Written) → j ≤ k → AreCounted j next ws → AreCounted k next ws
weaker j k next ws l h = record {
  low = h.low;
  behind = λ m ρ g. let b = h.behind m ρ g in record { low = b.low; by = b.by; some = b.some; few = omega (arith, b.few, l); is = b.is };
  differ = h.differ;
}

shown_counts : (b : Bool) (k : ℕ) (d : SessionData) → Counts k d → Counts k (with_snapshot b d)
shown_counts false k d h = h
shown_counts true k d h = record { low = h.low; behind = λ m ρ g. at m ρ (one_of_more (Restart m ρ) (Snapshot d.state.next_snapshot d.state) d.written g); differ = put_shown d.written d.state.next_snapshot d.state h.differ }
  where
    at : (m : ℕ) (ρ : StateData) → IsOneOf (Restart m ρ) d.written ⊎ (Restart m ρ ≡ Snapshot d.state.next_snapshot d.state) → IsBehind k m d.state.next_restart
    at m ρ (inl g) = h.behind m ρ g
    at m ρ (inr e) = absurd (apart m d.state.next_snapshot ρ d.state e)

next_behind : (k m next : ℕ) → IsBehind k m next → IsBehind (k + 1) m ((next + 1) % 2 ^ 64)
next_behind k m next b = record { low = b.low; by = b.by + 1; some = omega arith; few = omega (arith, b.few); is = omega (arith, b.is) }

first_behind : (k next : ℕ) → next < 2 ^ 64 → IsBehind (k + 1) next ((next + 1) % 2 ^ 64)
first_behind k next l = record { low = l; by = 1; some = omega arith; few = omega arith; is = refl }

not_next : (k m next : ℕ) → k < 2 ^ 64 → IsBehind k m next → m ≢ next
not_next k m next l b e = omega (arith, l, b.low, b.some, b.few, b.is, e)

kept_counts : (k : ℕ) (d : SessionData) → k < 2 ^ 64 → Counts k d → Counts (k + 1) (with_restart true d)
kept_counts k d l h = record {
  low = omega arith;
  behind = λ m ρ g. at m ρ (one_of_more (Restart m ρ) (Restart n (kept d.state)) d.written g);
  differ = put_kept d.written n (kept d.state) h.differ (λ m ρ g. not_next k m n l (h.behind m ρ g));
}
  where
    n : ℕ
    n = d.state.next_restart

    at : (m : ℕ) (ρ : StateData) → IsOneOf (Restart m ρ) d.written ⊎ (Restart m ρ ≡ Restart d.state.next_restart (kept d.state)) → IsBehind (k + 1) m ((d.state.next_restart + 1) % 2 ^ 64)
    at m ρ (inl g) = next_behind k m d.state.next_restart (h.behind m ρ g)
    at m ρ (inr e) = subst (λ x. IsBehind (k + 1) x ((d.state.next_restart + 1) % 2 ^ 64)) (sym (same_number m d.state.next_restart ρ (kept d.state) e)) (first_behind k d.state.next_restart h.low)

saved_counts : (b : Bool) (k : ℕ) (d : SessionData) → k < 2 ^ 64 → Counts k d → Counts (k + 1) (with_restart b d)
saved_counts true k d l h = kept_counts k d l h
saved_counts false k d l h = weaker k (k + 1) d.state.next_restart d.written (omega arith) h

asked_counts : (asks : Bool) (tick k : ℕ) (d : SessionData) → Counts k d → Counts k (cond asks (record d { questions = d.questions ++ tick ∷ [] }) d)
asked_counts true tick k d h = record { low = h.low; behind = h.behind; differ = h.differ }
asked_counts false tick k d h = h

synced_counts : (due asks keeps stops : Bool) (tick k : ℕ) (d : SessionData) → k < 2 ^ 64 → Counts k d → Counts (k + 1) (synced_with due asks keeps stops tick d)
synced_counts due asks keeps stops tick k d l h =
    let shown = with_snapshot due d in
    let told : SessionData = cond asks (record shown { questions = shown.questions ++ tick ∷ [] }) shown in
    let saved = saved_counts keeps k told l (asked_counts asks tick k shown (shown_counts due k d h)) in
    record { low = saved.low; behind = saved.behind; differ = saved.differ }

sync_counts : (plan : Plan) (stop before : Option ℕ) (k : ℕ) (d : SessionData) → k < 2 ^ 64 → Counts k d → Counts (k + 1) (synchronised plan stop before d)
unfolding synchronised
sync_counts plan stop before k d l h =
    let running = is_running plan d.state in
    let asks : Bool = elim before [ None ↦ false | Some w ↦ running ] in
    let stops = asks && is_stop stop d.state.tick in
    synced_counts (is_due plan before d.state.tick || not running) asks (is_kept plan d.state || stops) stops d.state.tick k d l h

-- ---- base steps

either_counts : (b : Bool) (k : ℕ) (d e : SessionData) → Counts k d → Counts k e → Counts k (cond b d e)
either_counts true k d e f g = f
either_counts false k d e f g = g

onward_counts : (n : ℕ) (plan : Plan) (stop : Option ℕ) (k : ℕ) → k < 2 ^ 64 → ((d : SessionData) → Counts (k + 1) d → Counts (k + 1 + n) (session_from n plan stop true d)) → (d : SessionData) → Counts k d → (s : Stepped) → Counts (k + 1 + n) (onward n plan stop d s)
onward_counts n plan stop k l later d h (Going p) =
    let x : SessionData = record (with_trail p.trail d) { state = advanced plan p d.state } in
    let before = Some (d.state.steps * 2 ^ plan.rules.gravity.setup.top_bin) in
    let e = synchronised plan stop before x in
    let g : Counts (k + 1) e = sync_counts plan stop before k x l (record { low = h.low; behind = h.behind; differ = h.differ }) in
    either_counts (is_done e.end) (k + 1 + n) (session_from n plan stop true e) e (later e g) (weaker (k + 1) (k + 1 + n) e.state.next_restart e.written (omega arith) g)
onward_counts n plan stop k l later d h (Refused p x) = weaker k (k + 1 + n) d.state.next_restart d.written (omega arith) h
onward_counts n plan stop k l later d h (Resting p tick Fs) =
    let σ = rested p tick Fs d.state in
    let e : SessionData = record (with_trail p.trail d) { state = σ; states = d.states ++ σ ∷ []; end = Stopped } in
    let g : Counts (k + 1) (with_restart true e) = kept_counts k e l (record { low = h.low; behind = h.behind; differ = h.differ }) in
    weaker (k + 1) (k + 1 + n) (with_restart true e).state.next_restart (with_restart true e).written (omega arith) g

from_counts : (n : ℕ) (plan : Plan) (stop : Option ℕ) (known : Bool) (k : ℕ) (d : SessionData) → k + n ≤ 2 ^ 42 → Counts k d → Counts (k + n) (session_from n plan stop known d)
unfolding session_from
from_counts zero plan stop known k d l h = weaker k (k + 0) d.state.next_restart d.written (omega arith) h
from_counts (suc n) plan stop known k d l h =
    let same : k + 1 + n ≡ k + suc n = omega arith in
    subst (λ j. Counts j (session_from (suc n) plan stop known d)) same
    (either_counts (is_empty d.state.depths && not (is_running plan d.state)) (k + 1 + n) d (onward n plan stop d (base_step plan stop known d.state))
    (weaker k (k + 1 + n) d.state.next_restart d.written (omega arith) h)
    (onward_counts n plan stop k (omega (arith, l)) (λ e g. from_counts n plan stop true (k + 1) e (omega (arith, l)) g) d h (base_step plan stop known d.state)))

none_counts : (σ : StateData) → σ.next_restart < 2 ^ 64 → Counts 0 (fresh σ)
unfolding AllDiffer
none_counts σ l = record { low = l; behind = λ m ρ h. absurd h; differ = tt }

-- of a whole session
record AreCountedIn (σ : StateData) (d : SessionData) : Type 0 where
  most : ℕ
  counts : Counts most d

session_counts : (plan : Plan) (stop : Option ℕ) (σ : StateData) → IsSetup plan.rules.gravity.setup → σ.next_restart < 2 ^ 64 → (resumed : Bool) → AreCountedIn σ (session plan resumed stop σ)
unfolding session
session_counts plan stop σ s l true = record { most = _; counts = from_counts (plan.rules.gravity.setup.time_max + 1) plan stop false 0 (fresh σ) (omega (arith, s.time_high)) (none_counts σ l) }
session_counts plan stop σ s l false =
    let first = synchronised plan stop None (fresh σ) in
    record { most = _; counts = from_counts (plan.rules.gravity.setup.time_max + 1) plan stop false 1 first (omega (arith, s.time_high)) (sync_counts plan stop None 0 (fresh σ) (omega arith) (none_counts σ l)) }

pub restart_numbers_differ : RestartNumbersDiffer
restart_numbers_differ plan resumed stop σ s l before after m n ρ τ e h = earlier before after m n ρ τ (subst AllDiffer e (session_counts plan stop σ s l resumed).counts.differ) h

pub restart_numbers_are_low : RestartNumbersAreLow
restart_numbers_are_low plan resumed stop σ s l n ρ h = ((session_counts plan stop σ s l resumed).counts.behind n ρ h).low
