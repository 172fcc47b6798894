-- A session that was stopped and resumed goes on as one that wasn't.
use Rattle.std.proofs.Common.{◌≡◌, ◌<◌, ◌≤◌, ◌⊎◌, inl, inr, ℕ, zero, suc, ◌+◌, ◌-◌, ◌*◌, ◌%◌, ◌^◌, Bool, true, false, cond, not, ◌&&◌, ◌||◌, ◌==◌, List, [], ◌∷◌, ◌++◌, length, flat_map, sum_by, Option, Some, None, refl, ap, sym, ◌∙◌, subst, arith, append_assoc, append-nil, le-mul_of_pos_right, mod-eq_of_lt, add-one, slice_index}
use Rattle.std.specs.Prelude.{⊤}
use Rattle.std.specs.List.Sorted.{IsStrictlyIncreasing}
use Rattle.std.proofs.lemmas.Bool.{false≢true, true≢false, ltb-true}
use Rattle.std.proofs.lemmas.Grind.{flat_map-append}
use Rattle.std.proofs.lemmas.Nat.{pow_pos}
use Rattle.nbody_model.specs.declared.kicks.Record.{Record}
use Rattle.nbody_model.specs.Bodies.{BodyData, only}
use Rattle.nbody_model.specs.Tables.{Rules}
use Rattle.std.proofs.lemmas.List.{length-append}
use Rattle.std.proofs.lemmas.List.Sums.{sum_by-append}
use native.Mathlib.Nat.{mod-add-mod}
use Rattle.nbody_model.specs.Factors.{kick_factor}
use Rattle.nbody_model.specs.Steps.{fast}
use Rattle.nbody_model.specs.Evolve.{Happening, Binned, Asked, record_in, records_of, Progress, tell, Refusal, Stepped, Going, Refused, Resting, StepRange, ◌>>=◌, inside, depths_of, is_empty, is_less, ask_if, kick, rest, close, between, step_by, evolve}
use Rattle.nbody_model.specs.States.{StateData, low_zeros, unfinished_fast}
use Rattle.nbody_model.specs.Continue.{continue}
use Rattle.nbody_model.specs.Session.{Plan, Written, Snapshot, Restart, SessionData, End, Done, Stopped, OutOfRange, raised64, raised128, is_running, is_stop, with_snapshot, with_restart, is_due, is_kept, synchronised, advanced, rested, with_trail, base_step, is_done, session_from, session, kept}
use Rattle.model_laws.specs.Preserved.{Holds}
use Rattle.model_laws.specs.Rests.{Agrees}
use Rattle.model_laws.specs.Nests.{led, led_step, ids_of, Nested, rest_state, IsFinished}
use Rattle.model_laws.specs.Resumed.{Shown, shown_in, snapshots_of, plain, SameTimes, Ends, GoesOn, IsOneOf, SessionsGoOn}
use Rattle.model_laws.proofs.Led.{evolve_led}
use Rattle.model_laws.proofs.Rests.{Moves, bind_moves, cond_moves, kick_moves, close_moves, evolve_moves, evolve_agrees}
use Rattle.model_laws.proofs.Nests.{Nests, stay, evolve_known, finishes}

-- ---- two sessions side by side, the first with more snapshots and kicks before

record Beside (shown : List Shown) (told : List Record) (d e : SessionData) : Type 0 where
  same : plain d.state ≡ plain e.state
  snapshots : snapshots_of d.written ≡ shown ++ snapshots_of e.written
  kicks : records_of d.trail ≡ told ++ records_of e.trail

added : {X Y : Type 0} (f : X → List Y) (w : List Y) (xs ys : List X) (x y : X) → flat_map f xs ≡ w ++ flat_map f ys → flat_map f (x ∷ []) ≡ flat_map f (y ∷ []) → flat_map f (xs ++ x ∷ []) ≡ w ++ flat_map f (ys ++ y ∷ [])
added f w xs ys x y e g =
    flat_map-append f xs (x ∷ []) ∙ (λ i. e i ++ g i) ∙ append_assoc w (flat_map f ys) (flat_map f (y ∷ [])) ∙ ap (λ zs. w ++ zs) (sym (flat_map-append f ys (y ∷ [])))

abbrev show : StateData → List Shown
show σ = record { number = σ.next_snapshot; bodies = σ.bodies; tick = σ.tick } ∷ []

snapshot_beside : (w : List Shown) (k : List Record) (b c : Bool) (d e : SessionData) → b ≡ c → Beside w k d e → Beside w k (with_snapshot b d) (with_snapshot c e)
snapshot_beside w k true true d e q h = record {
  same = λ i. record (h.same i) { next_snapshot = raised64 (h.same i).next_snapshot 1 };
  snapshots = added shown_in w d.written e.written (Snapshot d.state.next_snapshot d.state) (Snapshot e.state.next_snapshot e.state) h.snapshots (ap show h.same);
  kicks = h.kicks;
}
snapshot_beside w k false false d e q h = h
snapshot_beside w k true false d e q h = absurd (true≢false q)
snapshot_beside w k false true d e q h = absurd (false≢true q)

pub unshown : (ws : List Written) (n : ℕ) (σ : StateData) → snapshots_of (ws ++ Restart n σ ∷ []) ≡ snapshots_of ws
unshown ws n σ = flat_map-append shown_in ws (Restart n σ ∷ []) ∙ append-nil (snapshots_of ws)

restart_left : (w : List Shown) (k : List Record) (b : Bool) (d e : SessionData) → Beside w k d e → Beside w k (with_restart b d) e
restart_left w k false d e h = h
restart_left w k true d e h = record { same = h.same; snapshots = unshown d.written d.state.next_restart (kept d.state) ∙ h.snapshots; kicks = h.kicks }

restart_right : (w : List Shown) (k : List Record) (b : Bool) (d e : SessionData) → Beside w k d e → Beside w k d (with_restart b e)
restart_right w k false d e h = h
restart_right w k true d e h = record { same = h.same; snapshots = h.snapshots ∙ ap (λ zs. w ++ zs) (sym (unshown e.written e.state.next_restart (kept e.state))); kicks = h.kicks }

asked_left : (w : List Shown) (k : List Record) (b : Bool) (tick : ℕ) (d e : SessionData) → Beside w k d e → Beside w k (cond b (record d { questions = d.questions ++ tick ∷ [] }) d) e
asked_left w k true tick d e h = record { same = h.same; snapshots = h.snapshots; kicks = h.kicks }
asked_left w k false tick d e h = h

asked_right : (w : List Shown) (k : List Record) (b : Bool) (tick : ℕ) (d e : SessionData) → Beside w k d e → Beside w k d (cond b (record e { questions = e.questions ++ tick ∷ [] }) e)
asked_right w k true tick d e h = record { same = h.same; snapshots = h.snapshots; kicks = h.kicks }
asked_right w k false tick d e h = h

sync_beside : (plan : Plan) (before stop : Option ℕ) (w : List Shown) (k : List Record) (d e : SessionData) → Beside w k d e → Beside w k (synchronised plan stop before d) (synchronised plan None before e)
unfolding synchronised
sync_beside plan before stop w k d e h =
    let run : Bool = is_running plan d.state in
    let jog : Bool = is_running plan e.state in
    let bd = is_due plan before d.state.tick || not run in
    let be = is_due plan before e.state.tick || not jog in
    let q : bd ≡ be = λ i. is_due plan before (h.same i).tick || not (is_running plan (h.same i)) in
    let asks : Bool = elim before [ None ↦ false | Some w ↦ run ] in
    let bsks : Bool = elim before [ None ↦ false | Some w ↦ jog ] in
    let sd = with_snapshot bd d in
    let se = with_snapshot be e in
    let td : SessionData = cond asks (record sd { questions = sd.questions ++ d.state.tick ∷ [] }) sd in
    let te : SessionData = cond bsks (record se { questions = se.questions ++ e.state.tick ∷ [] }) se in
    let one : Beside w k td te = asked_left w k asks d.state.tick sd te (asked_right w k bsks e.state.tick sd se (snapshot_beside w k bd be d e q h)) in
    let kd = is_kept plan d.state || (asks && is_stop stop d.state.tick) in
    let ke = is_kept plan e.state || (bsks && is_stop None e.state.tick) in
    let two : Beside w k (with_restart kd td) (with_restart ke te) = restart_left w k kd td (with_restart ke te) (restart_right w k ke td te one) in
    record { same = two.same; snapshots = two.snapshots; kicks = two.kicks }

pub no_stop : (b : Bool) → (cond (b && false) Stopped Done) ≡ Done
no_stop true = refl
no_stop false = refl

pub sync_done : (plan : Plan) (before : Option ℕ) (d : SessionData) → (synchronised plan None before d).end ≡ Done
unfolding synchronised
sync_done plan before d = no_stop (elim before [ None ↦ false | Some w ↦ is_running plan d.state ])

-- a synchronisation keeps the times
pub snapshot_times : (b : Bool) (d : SessionData) → SameTimes (with_snapshot b d).state d.state
snapshot_times true d = record { depths = refl; steps = refl; tick = refl; bodies = refl }
snapshot_times false d = record { depths = refl; steps = refl; tick = refl; bodies = refl }

pub restart_times : (b : Bool) (d : SessionData) → SameTimes (with_restart b d).state d.state
restart_times true d = record { depths = refl; steps = refl; tick = refl; bodies = refl }
restart_times false d = record { depths = refl; steps = refl; tick = refl; bodies = refl }

pub asked_times : (b : Bool) (tick : ℕ) (d : SessionData) → SameTimes (cond b (record d { questions = d.questions ++ tick ∷ [] }) d).state d.state
asked_times true tick d = record { depths = refl; steps = refl; tick = refl; bodies = refl }
asked_times false tick d = record { depths = refl; steps = refl; tick = refl; bodies = refl }

pub both_times : (ρ σ τ : StateData) → SameTimes ρ σ → SameTimes σ τ → SameTimes ρ τ
both_times ρ σ τ a b = record { depths = a.depths ∙ b.depths; steps = a.steps ∙ b.steps; tick = a.tick ∙ b.tick; bodies = a.bodies ∙ b.bodies }

pub sync_times : (plan : Plan) (stop before : Option ℕ) (d : SessionData) → SameTimes (synchronised plan stop before d).state d.state
unfolding synchronised
sync_times plan stop before d =
    let asks : Bool = elim before [ None ↦ false | Some w ↦ is_running plan d.state ] in
    let bd = is_due plan before d.state.tick || not (is_running plan d.state) in
    let sd = with_snapshot bd d in
    let td : SessionData = cond asks (record sd { questions = sd.questions ++ d.state.tick ∷ [] }) sd in
    let kd = is_kept plan d.state || (asks && is_stop stop d.state.tick) in
    both_times (with_restart kd td).state td.state d.state (restart_times kd td) (both_times td.state sd.state d.state (asked_times asks d.state.tick sd) (snapshot_times bd d))

-- ---- base steps side by side

-- what a session makes of a base step's end
abbrev pub onward : ℕ → Plan → Option ℕ → SessionData → Stepped → SessionData
onward n plan stop d s = elim s [
  | Going p ↦ let e = synchronised plan stop (Some (d.state.steps * 2 ^ plan.rules.gravity.setup.top_bin)) (record (with_trail p.trail d) { state = advanced plan p d.state }) in cond (is_done e.end) (session_from n plan stop true e) e
  | Refused p x ↦ record (with_trail p.trail d) { end = OutOfRange x }
  | Resting p tick Fs ↦ let ρ = rested p tick Fs d.state in with_restart true (record (with_trail p.trail d) { state = ρ; states = d.states ++ ρ ∷ []; end = Stopped })
]

-- after a base step the session is at a synchronisation
pub record IsTimed (plan : Plan) (σ : StateData) : Type 0 where
  pub depths : σ.depths ≡ []
  pub tick : σ.tick ≡ σ.steps * 2 ^ plan.rules.gravity.setup.top_bin

-- n further base steps are enough
abbrev pub Enough : Plan → ℕ → StateData → Type 0
Enough plan n σ = plan.rules.gravity.setup.time_max ≤ σ.tick + n

-- what is left to show for the synchronisation that follows
abbrev Tails : Plan → ℕ → ℕ → Type 0
Tails plan n m = (kd ke : Bool) (w : List Shown) (k : List Record) (d e : SessionData) → Beside w k d e → d.end ≡ Done → e.end ≡ Done → IsTimed plan d.state → Enough plan n d.state → Enough plan m e.state →
    Ends w k (session_from n plan None kd d) (session_from m plan None ke e)

told_both : (k : List Record) (a b c d t : List Happening) → records_of (c ++ a) ≡ k ++ records_of (d ++ b) → records_of (c ++ (a ++ t)) ≡ k ++ records_of (d ++ (b ++ t))
told_both k a b c d t h =
    ap records_of (sym (append_assoc c a t)) ∙ flat_map-append record_in (c ++ a) t ∙ ap (λ zs. zs ++ records_of t) h ∙
    append_assoc k (records_of (d ++ b)) (records_of t) ∙ ap (λ zs. k ++ zs) (sym (flat_map-append record_in (d ++ b) t) ∙ ap records_of (append_assoc d b t))

pub done_on : (n : ℕ) (plan : Plan) (stop : Option ℕ) (e : SessionData) → e.end ≡ Done → cond (is_done e.end) (session_from n plan stop true e) e ≡ session_from n plan stop true e
done_on n plan stop e h = λ i. cond (is_done (h i)) (session_from n plan stop true e) e

abbrev pub ok : End → Type 0
ok Done = ⊤
ok Stopped = ⊥
ok (OutOfRange x) = ⊥

not_done : (x : Refusal) → OutOfRange x ≡ Done → ⊥
not_done x h = subst ok (sym h) tt

stepped : (plan : Plan) (n m : ℕ) → Tails plan n m → (w : List Shown) (k : List Record) (a b : List Happening) (d e : SessionData) →
    snapshots_of d.written ≡ w ++ snapshots_of e.written → records_of (d.trail ++ a) ≡ k ++ records_of (e.trail ++ b) → d.state.steps ≡ e.state.steps →
    ((p : Progress) → plain (advanced plan (led a p) d.state) ≡ plain (advanced plan (led b p) e.state)) →
    ((p : Progress) → Enough plan n (advanced plan p d.state)) → ((p : Progress) → Enough plan m (advanced plan p e.state)) →
    (s : Stepped) → Moves s → Ends w k (onward n plan None d (led_step a s)) (onward m plan None e (led_step b s))
stepped plan n m tails w k a b d e shown told steps same en em (Resting p tick Fs) moves = absurd moves
stepped plan n m tails w k a b d e shown told steps same en em (Refused p x) moves = record {
  snapshots = shown;
  kicks = told_both k a b d.trail e.trail p.trail told;
  end = refl;
  state = λ h. absurd (not_done x h);
}
stepped plan n m tails w k a b d e shown told steps same en em (Going p) moves =
    let width = 2 ^ plan.rules.gravity.setup.top_bin in
    let x : SessionData = record (with_trail (a ++ p.trail) d) { state = advanced plan (led a p) d.state } in
    let y : SessionData = record (with_trail (b ++ p.trail) e) { state = advanced plan (led b p) e.state } in
    let xs = synchronised plan None (Some (d.state.steps * width)) x in
    let ys = synchronised plan None (Some (e.state.steps * width)) y in
    let beside : Beside w k x y = record { same = same p; snapshots = shown; kicks = told_both k a b d.trail e.trail p.trail told } in
    let synced : Beside w k xs ys = subst (λ t. Beside w k xs (synchronised plan None (Some (t * width)) y)) steps (sync_beside plan (Some (d.state.steps * width)) None w k x y beside) in
    let dx = sync_done plan (Some (d.state.steps * width)) x in
    let dy = sync_done plan (Some (e.state.steps * width)) y in
    let tx = sync_times plan None (Some (d.state.steps * width)) x in
    let ty = sync_times plan None (Some (e.state.steps * width)) y in
    let timed : IsTimed plan xs.state = record { depths = tx.depths; tick = tx.tick ∙ ap (λ t. t * width) (sym tx.steps) } in
    let ends = tails true true w k xs ys synced dx dy timed (subst (λ t. plan.rules.gravity.setup.time_max ≤ t + n) (sym tx.tick) (en (led a p))) (subst (λ t. plan.rules.gravity.setup.time_max ≤ t + m) (sym ty.tick) (em (led b p))) in
    subst (λ z. Ends w k z (onward m plan None e (Going (led b p)))) (sym (done_on n plan None xs dx)) (subst (λ z. Ends w k (session_from n plan None true xs) z) (sym (done_on m plan None ys dy)) ends)

-- ---- from synchronisation to synchronisation

pub halted : (n : ℕ) (plan : Plan) (stop : Option ℕ) (known : Bool) (d : SessionData) → d.state.depths ≡ [] → is_running plan d.state ≡ false → session_from n plan stop known d ≡ d
unfolding session_from
halted zero plan stop known d h r = refl
halted (suc n) plan stop known d h r =
    λ i. cond (is_empty (h i) && not (r i)) d (onward n plan stop d (base_step plan stop known d.state))

pub none_of : {X : Type 0} (b : Bool) (x y : X) → cond (b && false) x y ≡ y
none_of true x y = refl
none_of false x y = refl

pub running : (n : ℕ) (plan : Plan) (stop : Option ℕ) (known : Bool) (d : SessionData) → is_running plan d.state ≡ true → session_from (suc n) plan stop known d ≡ onward n plan stop d (base_step plan stop known d.state)
unfolding session_from
running n plan stop known d r =
    (λ i. cond (is_empty d.state.depths && not (r i)) d (onward n plan stop d (base_step plan stop known d.state))) ∙
    none_of (is_empty d.state.depths) d (onward n plan stop d (base_step plan stop known d.state))

-- the first force, where it isn't known, in front of a base step
abbrev pub first_of : Bool → StateData → List Happening
first_of known σ = cond known [] (Asked (only σ.bodies (ids_of σ.bodies)) ∷ [])

first_asked : (known : Bool) (σ : StateData) → ask_if (not known) (ids_of σ.bodies) (record { bodies = σ.bodies; trail = [] }) ≡ led (first_of known σ) (record { bodies = σ.bodies; trail = [] })
first_asked true σ = refl
first_asked false σ = refl

first_untold : (known : Bool) (σ : StateData) → records_of (first_of known σ) ≡ []
first_untold true σ = refl
first_untold false σ = refl

-- the base step from a synchronisation, but for the first force
abbrev pub whole_step : Plan → Option ℕ → StateData → Stepped
whole_step plan stop σ = evolve plan.rules stop plan.rules.gravity.setup.top_bin (ids_of σ.bodies) σ.tick (record { bodies = σ.bodies; trail = [] })

pub synced_step : (plan : Plan) (stop : Option ℕ) (known : Bool) (σ : StateData) → σ.depths ≡ [] → base_step plan stop known σ ≡ led_step (first_of known σ) (whole_step plan stop σ)
unfolding base_step
synced_step plan stop known σ h =
    let all = ids_of σ.bodies in
    let start : Progress = record { bodies = σ.bodies; trail = [] } in
    let top = plan.rules.gravity.setup.top_bin in
    (λ i. cond (is_empty (h i)) (evolve plan.rules stop top all σ.tick (ask_if (not known) all start)) (continue plan.rules stop σ start)) ∙
    ap (evolve plan.rules stop top all σ.tick) (first_asked known σ) ∙
    evolve_led plan.rules stop top all σ.tick (first_of known σ) start

-- a base step later fewer are needed
advance_enough : (plan : Plan) (n : ℕ) (p : Progress) (σ : StateData) → plan.rules.gravity.setup.time_max ≤ 2 ^ 40 → IsTimed plan σ → is_running plan σ ≡ true → Enough plan (suc n) σ → Enough plan n (advanced plan p σ)
advance_enough plan n p σ small timed run en =
    let y = 2 ^ plan.rules.gravity.setup.top_bin in
    let some : 0 < y = pow_pos plan.rules.gravity.setup.top_bin in
    let below : σ.tick < plan.rules.gravity.setup.time_max = ltb-true σ.tick plan.rules.gravity.setup.time_max run in
    let few : σ.steps ≤ σ.steps * y = le-mul_of_pos_right σ.steps some in
    let e : raised64 σ.steps 1 ≡ σ.steps + 1 = mod-eq_of_lt (omega (arith, below, few, timed.tick, small)) in
    let f : raised64 σ.steps 1 * y ≡ (σ.steps + 1) * y = ap (λ t. t * y) e in
    omega (arith, f, en, timed.tick, some)

-- the state after a base step with these kicks
abbrev advance : Plan → List BodyData → List Record → StateData → StateData
advance plan B told σ =
    let steps = raised64 σ.steps 1 in
    record σ { bodies = B; depths = []; steps = steps; tick = steps * 2 ^ plan.rules.gravity.setup.top_bin; kicks = raised64 σ.kicks (length told); interactions = raised128 σ.interactions (sum_by (λ k. k.pairs + k.fast_pairs) told) }

untold_front : (a t : List Happening) → records_of a ≡ [] → records_of (a ++ t) ≡ records_of t
untold_front a t e = flat_map-append record_in a t ∙ ap (λ zs. zs ++ records_of t) e

untold_back : (a t : List Happening) → records_of a ≡ [] → records_of (t ++ a) ≡ records_of t
untold_back a t e = flat_map-append record_in t a ∙ ap (λ zs. records_of t ++ zs) e ∙ append-nil (records_of t)

advance_beside : (plan : Plan) (a b : List Happening) (σ τ : StateData) → records_of a ≡ [] → records_of b ≡ [] → plain σ ≡ plain τ → (p : Progress) → plain (advanced plan (led a p) σ) ≡ plain (advanced plan (led b p) τ)
advance_beside plan a b σ τ ea eb same p =
    (λ i. plain (advance plan p.bodies (untold_front a p.trail ea i) σ)) ∙
    (λ i. plain (advance plan p.bodies (records_of p.trail) (same i))) ∙
    (λ i. plain (advance plan p.bodies (sym (untold_front b p.trail eb) i) τ))

ended_here : (w : List Shown) (k : List Record) (d e : SessionData) → Beside w k d e → d.end ≡ Done → e.end ≡ Done → Ends w k d e
ended_here w k d e h x y = record { snapshots = h.snapshots; kicks = h.kicks; end = x ∙ sym y; state = λ z. h.same }

stopping_both : (plan : Plan) (n m : ℕ) (kd ke : Bool) (w : List Shown) (k : List Record) (d e : SessionData) → Beside w k d e → d.end ≡ Done → e.end ≡ Done → IsTimed plan d.state → is_running plan d.state ≡ false →
    Ends w k (session_from n plan None kd d) (session_from m plan None ke e)
stopping_both plan n m kd ke w k d e h x y timed run =
    let depths : e.state.depths ≡ [] = sym (ap (λ σ. σ.depths) h.same) ∙ timed.depths in
    let rune : is_running plan e.state ≡ false = sym (ap (is_running plan) h.same) ∙ run in
    subst (λ z. Ends w k z (session_from m plan None ke e)) (sym (halted n plan None kd d timed.depths run)) (subst (λ z. Ends w k d z) (sym (halted m plan None ke e depths rune)) (ended_here w k d e h x y))

tails_step : (plan : Plan) → plan.rules.gravity.setup.time_max ≤ 2 ^ 40 → (n m : ℕ) → Tails plan n m → (kd ke : Bool) (w : List Shown) (k : List Record) (d e : SessionData) → Beside w k d e → IsTimed plan d.state →
    Enough plan (suc n) d.state → Enough plan (suc m) e.state → is_running plan d.state ≡ true → Ends w k (session_from (suc n) plan None kd d) (session_from (suc m) plan None ke e)
tails_step plan small n m tails kd ke w k d e h timed en em run =
    let σ = d.state in
    let τ = e.state in
    let depths : τ.depths ≡ [] = sym (ap (λ x. x.depths) h.same) ∙ timed.depths in
    let rune : is_running plan τ ≡ true = sym (ap (is_running plan) h.same) ∙ run in
    let steps : σ.steps ≡ τ.steps = ap (λ x. x.steps) h.same in
    let ticks : σ.tick ≡ τ.tick = ap (λ x. x.tick) h.same in
    let timede : IsTimed plan τ = record { depths = depths; tick = sym ticks ∙ timed.tick ∙ ap (λ t. t * 2 ^ plan.rules.gravity.setup.top_bin) steps } in
    let a = first_of kd σ in
    let b = first_of ke τ in
    let W = whole_step plan None σ in
    let top = plan.rules.gravity.setup.top_bin in
    let ends : Ends w k (onward n plan None d (led_step a W)) (onward m plan None e (led_step b W)) =
    stepped plan n m tails w k a b d e h.snapshots
    (untold_back a d.trail (first_untold kd σ) ∙ h.kicks ∙ ap (λ zs. k ++ zs) (sym (untold_back b e.trail (first_untold ke τ)))) steps
    (advance_beside plan a b σ τ (first_untold kd σ) (first_untold ke τ) h.same)
    (λ p. advance_enough plan n p σ small timed run en) (λ p. advance_enough plan m p τ small timede rune em)
    W (evolve_moves plan.rules top (ids_of σ.bodies) σ.tick (record { bodies = σ.bodies; trail = [] })) in
    let same_step : whole_step plan None σ ≡ whole_step plan None τ = λ i. whole_step plan None (h.same i) in
    let x : session_from (suc n) plan None kd d ≡ onward n plan None d (led_step a W) = running n plan None kd d run ∙ ap (onward n plan None d) (synced_step plan None kd σ timed.depths) in
    let y : session_from (suc m) plan None ke e ≡ onward m plan None e (led_step b W) = running m plan None ke e rune ∙ ap (onward m plan None e) (synced_step plan None ke τ depths) ∙ ap (λ s. onward m plan None e (led_step b s)) (sym same_step) in
    subst (λ z. Ends w k z (session_from (suc m) plan None ke e)) (sym x) (subst (λ z. Ends w k (onward n plan None d (led_step a W)) z) (sym y) ends)

pub either_way : {X : Type 0} (b : Bool) → (b ≡ true → X) → (b ≡ false → X) → X
either_way true f g = f refl
either_way false f g = g refl

pub over : {t m : ℕ} → t < m → m ≤ t + 0 → ⊥
over h g = omega (arith, h, g)

tails : (plan : Plan) → plan.rules.gravity.setup.time_max ≤ 2 ^ 40 → (n m : ℕ) → Tails plan n m
tails plan small zero m kd ke w k d e h x y timed en em =
    either_way (is_running plan d.state)
    (λ r. absurd (over (ltb-true d.state.tick plan.rules.gravity.setup.time_max r) en))
    (stopping_both plan zero m kd ke w k d e h x y timed)
tails plan small (suc n) zero kd ke w k d e h x y timed en em =
    either_way (is_running plan d.state)
    (λ r. absurd (over (ltb-true e.state.tick plan.rules.gravity.setup.time_max (sym (ap (is_running plan) h.same) ∙ r)) em))
    (stopping_both plan (suc n) zero kd ke w k d e h x y timed)
tails plan small (suc n) (suc m) kd ke w k d e h x y timed en em =
    either_way (is_running plan d.state)
    (tails_step plan small n m (tails plan small n m) kd ke w k d e h timed en em)
    (stopping_both plan (suc n) (suc m) kd ke w k d e h x y timed)

-- ---- where a session could be resumed

no_fast : (r : Rules) (bin : ℕ) (P : List ℕ) (B : List BodyData) → B ≡ [] → is_empty (fast r.gravity bin (only B P)) ≡ true
unfolding fast
no_fast r bin P B e = λ i. is_empty (fast r.gravity bin (only (e i) P))

between_empty : (stop : Option ℕ) (finer : List ℕ → ℕ → Progress → Stepped) (bin : ℕ) (F : List ℕ) (t : ℕ) (q : Progress) → is_empty F ≡ true → between stop finer bin F t q ≡ Going q
unfolding between
between_empty stop finer bin F t q e =
    λ i. cond (e i) (Going q) (inside (F ∷ []) (finer F t q >>= (λ q. rest stop (t + 2 ^ (bin - 1)) q) >>= (λ q. finer F (t + 2 ^ (bin - 1)) q)))

-- no bodies never rest
nothing_moves : (r : Rules) (stop : Option ℕ) (bin : ℕ) (P : List ℕ) (t : ℕ) (p : Progress) → p.bodies ≡ [] → Moves (evolve r stop bin P t p)
unfolding evolve step_by
nothing_moves r stop zero P t p e = tt
nothing_moves r stop (suc c) P t p e =
    let bin = c + 1 in
    let F = fast r.gravity bin (only p.bodies P) in
    let k = kick_factor r.expansion t (t + 2 ^ (bin - 1)) in
    let known = ask_if (not (is_empty F) && is_less F P) F (tell (Binned F) p) in
    let first = kick r bin P F t k known in
    let betweens : Progress → Stepped = λ q. between stop (evolve r stop c) bin F t q in
    let closes : Progress → Stepped = λ q. close r bin P F t q in
    cond_moves (bin == r.gravity.setup.low_bin && not (is_empty F)) (Refused p (StepRange t (slice_index F 0))) (first >>= betweens >>= closes) tt
    (bind_moves (first >>= betweens) closes (bind_moves first betweens (kick_moves r bin P F t k known) (λ q. subst Moves (sym (between_empty stop (evolve r stop c) bin F t q (no_fast r bin P p.bodies e))) tt)) (close_moves r bin P F t))

pub some_left : (B C : List BodyData) (Fs : List (List ℕ)) → ids_of C ≡ ids_of B → (B ≡ [] → ⊥) → is_empty (depths_of Fs C) ≡ false
some_left B (c ∷ C) Fs e g = refl
some_left [] [] Fs e g = absurd (g refl)
some_left (b ∷ B) [] Fs e g = absurd (true≢false (ap is_empty e))

-- a step that may be stopped beside the same step that isn't
abbrev pub Resumable : Plan → Stepped → Stepped → Type 0
Resumable plan (Going p) whole = whole ≡ Going p
Resumable plan (Refused p x) whole = whole ≡ Refused p x
Resumable plan (Resting q tick Fs) whole = ((ρ : StateData) → IsFinished plan.rules (rest_state ρ q tick Fs) q whole) × (is_empty (depths_of Fs q.bodies) ≡ false)

pub moving_resumes : (plan : Plan) (s : Stepped) → Moves s → Resumable plan s s
moving_resumes plan (Going p) m = refl
moving_resumes plan (Refused p x) m = refl
moving_resumes plan (Resting p tick Fs) m = absurd m

stopped_resumes : (plan : Plan) (u n : ℕ) (B : List BodyData) (p : Progress) (s whole : Stepped) → Agrees plan.rules u plan.rules.gravity.setup.top_bin n (ids_of B) s whole → Nests (ids_of B) (ids_of B) s → Holds (stay (ids_of B)) s →
    (B ≡ [] → Moves s) → Resumable plan s whole
stopped_resumes plan u n B p (Going q) whole a nested ids some = a
stopped_resumes plan u n B p (Refused q x) whole a nested ids some = a
stopped_resumes plan u n B p (Resting q tick Fs) whole a nested ids some = (
  (λ ρ. finishes plan.rules u n ρ (ids_of B) p q tick Fs whole (sym ids) (subst (λ xs. Nested xs (ids_of B) Fs) (sym ids) nested) a),
  some_left B q.bodies Fs ids some,
)

pub resumable : (plan : Plan) (stop : Option ℕ) (σ : StateData) → IsTimed plan σ → IsStrictlyIncreasing (ids_of σ.bodies) → plan.rules.gravity.setup.top_bin ≤ 64 → Resumable plan (whole_step plan stop σ) (whole_step plan None σ)
resumable plan None σ timed inc small = moving_resumes plan (whole_step plan None σ) (evolve_moves plan.rules plan.rules.gravity.setup.top_bin (ids_of σ.bodies) σ.tick (record { bodies = σ.bodies; trail = [] }))
resumable plan (Some u) σ timed inc small =
    let r = plan.rules in
    let top = r.gravity.setup.top_bin in
    let p : Progress = record { bodies = σ.bodies; trail = [] } in
    let known = evolve_known r (ids_of σ.bodies) inc (Some u) top (ids_of σ.bodies) σ.tick p refl in
    stopped_resumes plan u σ.steps σ.bodies p (whole_step plan (Some u) σ) (whole_step plan None σ) (evolve_agrees r u top σ.steps (ids_of σ.bodies) σ.tick p small timed.tick) known.0 known.1
    (nothing_moves r (Some u) top (ids_of σ.bodies) σ.tick p)

-- ---- resumed at a synchronisation

resume_from : (plan : Plan) → plan.rules.gravity.setup.time_max ≤ 2 ^ 40 → (n : ℕ) (known : Bool) (d : SessionData) (τ : StateData) → d.end ≡ Done → IsTimed plan d.state → Enough plan n d.state → plain d.state ≡ plain τ →
    GoesOn (session_from n plan None known d) (session plan true None (kept τ))
unfolding session
resume_from plan small n known d τ done timed en same =
    let start : SessionData = record { state = kept τ; written = []; trail = []; states = []; questions = []; end = Done } in
    let w = snapshots_of d.written in
    let k = records_of d.trail in
    record {
      shown = w;
      told = k;
      ends = tails plan small n (plan.rules.gravity.setup.time_max + 1) known false w k d start (record { same = same; snapshots = sym (append-nil w); kicks = sym (append-nil k) }) done refl timed en (omega arith);
    }

-- ---- resumed at a resting point

led_led : (a b : List Happening) (s : Stepped) → led_step a (led_step b s) ≡ led_step (a ++ b) s
led_led a b (Going p) = λ i. Going (record p { trail = sym (append_assoc a b p.trail) i })
led_led a b (Refused p x) = λ i. Refused (record p { trail = sym (append_assoc a b p.trail) i }) x
led_led a b (Resting p tick Fs) = λ i. Resting (record p { trail = sym (append_assoc a b p.trail) i }) tick Fs

led_moves : (a : List Happening) (s : Stepped) → Moves (led_step a s) → Moves s
led_moves a (Going p) m = m
led_moves a (Refused p x) m = m
led_moves a (Resting p tick Fs) m = m

twice : (k M : ℕ) {X : Type 0} (xs ys : List X) → (k + length (xs ++ ys)) % M ≡ ((k + length xs) % M + length ys) % M
twice k M xs ys =
    let e : k + length (xs ++ ys) ≡ k + length xs + length ys = omega (arith, length-append xs ys) in
    ap (λ t. t % M) e ∙ sym (mod-add-mod (k + length xs) M (length ys))

twice_by : (k M : ℕ) {X : Type 0} (f : X → ℕ) (xs ys : List X) → (k + sum_by f (xs ++ ys)) % M ≡ ((k + sum_by f xs) % M + sum_by f ys) % M
twice_by k M f xs ys =
    let e : k + sum_by f (xs ++ ys) ≡ k + sum_by f xs + sum_by f ys = omega (arith, sum_by-append f xs ys) in
    ap (λ t. t % M) e ∙ sym (mod-add-mod (k + sum_by f xs) M (sum_by f ys))

counted_twice : (plan : Plan) (a : List Happening) (B : List BodyData) (σ : StateData) (q : Progress) (tick : ℕ) (Fs : List (List ℕ)) (p : Progress) →
    plain (advanced plan (led a p) σ) ≡ plain (advanced plan (led (Asked B ∷ []) p) (kept (rested (record q { trail = a }) tick Fs σ)))
counted_twice plan a B σ q tick Fs p =
    let A = records_of a in
    let T = records_of p.trail in
    let f : Record → ℕ = λ k. k.pairs + k.fast_pairs in
    (λ i. plain (advance plan p.bodies (flat_map-append record_in a p.trail i) σ)) ∙
    (λ i. record (plain (advance plan p.bodies (A ++ T) σ)) { kicks = twice σ.kicks (2 ^ 64) A T i; interactions = twice_by σ.interactions (2 ^ 128) f A T i })

pub resting_runs : (n : ℕ) (plan : Plan) (stop : Option ℕ) (known : Bool) (d : SessionData) → is_empty d.state.depths ≡ false → session_from (suc n) plan stop known d ≡ onward n plan stop d (base_step plan stop known d.state)
unfolding session_from
resting_runs n plan stop known d e = λ i. cond (e i && not (is_running plan d.state)) d (onward n plan stop d (base_step plan stop known d.state))

pub resting_step : (plan : Plan) (stop : Option ℕ) (known : Bool) (σ : StateData) → is_empty σ.depths ≡ false → base_step plan stop known σ ≡ continue plan.rules stop σ (record { bodies = σ.bodies; trail = [] })
unfolding base_step
resting_step plan stop known σ e =
    λ i. cond (e i) (evolve plan.rules stop plan.rules.gravity.setup.top_bin (ids_of σ.bodies) σ.tick (ask_if (not known) (ids_of σ.bodies) (record { bodies = σ.bodies; trail = [] }))) (continue plan.rules stop σ (record { bodies = σ.bodies; trail = [] }))

rest_resumes : (plan : Plan) → plan.rules.gravity.setup.time_max ≤ 2 ^ 40 → (n : ℕ) (a : List Happening) (d : SessionData) → ((p : Progress) → Enough plan n (advanced plan p d.state)) →
    (q : Progress) (tick : ℕ) (Fs : List (List ℕ)) (whole : Stepped) → Moves whole → Resumable plan (Resting q tick Fs) whole →
    GoesOn (onward n plan None d (led_step a whole)) (session plan true None (kept (rested (led a q) tick Fs d.state)))
unfolding session
rest_resumes plan small n a d en q tick Fs whole moves h =
    let σ = d.state in
    let ρ = kept (rested (led a q) tick Fs σ) in
    let start : SessionData = record { state = ρ; written = []; trail = []; states = []; questions = []; end = Done } in
    let F : IsFinished plan.rules ρ q whole = h.0 ρ in
    let W = F.end in
    let c = a ++ q.trail in
    let B = only q.bodies (unfinished_fast plan.rules.gravity.setup ρ (low_zeros ρ.tick + 1)) in
    let b = Asked B ∷ [] in
    let w = snapshots_of d.written in
    let k = records_of (d.trail ++ c) in
    let time = plan.rules.gravity.setup.time_max in
    let mw : Moves W = led_moves q.trail W (subst Moves F.step moves) in
    let ends : Ends w k (onward n plan None d (led_step c W)) (onward time plan None start (led_step b W)) =
    stepped plan n time (tails plan small n time) w k c b d start (sym (append-nil w)) (sym (append-nil k)) refl
    (counted_twice plan c B σ q tick Fs) en (λ p. omega arith) W mw in
    let x : onward n plan None d (led_step a whole) ≡ onward n plan None d (led_step c W) = ap (λ s. onward n plan None d (led_step a s)) F.step ∙ ap (onward n plan None d) (led_led a q.trail W) in
    let y : session_from (time + 1) plan None false start ≡ onward time plan None start (led_step b W) =
    ap (λ m. session_from m plan None false start) (add-one time) ∙ resting_runs time plan None false start h.1 ∙ ap (onward time plan None start) (resting_step plan None false ρ h.1 ∙ F.rest) in
    record {
      shown = w;
      told = k;
      ends = subst (λ z. Ends w k z (session_from (time + 1) plan None false start)) (sym x) (subst (λ z. Ends w k (onward n plan None d (led_step c W)) z) (sym y) ends);
    }

-- ---- a session that may stop beside one that doesn't

-- the session stops at this synchronisation
abbrev pub stops_here : Plan → Option ℕ → Option ℕ → SessionData → Bool
stops_here plan stop before d =
    let asks : Bool = elim before [ None ↦ false | Some w ↦ is_running plan d.state ] in
    asks && is_stop stop d.state.tick

-- once the snapshot is counted
abbrev pub once_shown : Plan → Option ℕ → SessionData → SessionData
once_shown plan before d = with_snapshot (is_due plan before d.state.tick || not (is_running plan d.state)) d

abbrev pub synced_by : Plan → Option ℕ → SessionData → Bool → SessionData
synced_by plan before d stops =
    let asks : Bool = elim before [ None ↦ false | Some w ↦ is_running plan d.state ] in
    let shown = once_shown plan before d in
    let told : SessionData = cond asks (record shown { questions = shown.questions ++ d.state.tick ∷ [] }) shown in
    let saved = with_restart (is_kept plan d.state || stops) told in
    record saved { states = d.states ++ shown.state ∷ []; end = cond stops Stopped Done }

pub synced_is : (plan : Plan) (stop before : Option ℕ) (d : SessionData) → synchronised plan stop before d ≡ synced_by plan before d (stops_here plan stop before d)
unfolding synchronised
synced_is plan stop before d = refl

pub never : (b : Bool) → (b && false) ≡ false
never true = refl
never false = refl

pub synced_none : (plan : Plan) (before : Option ℕ) (d : SessionData) → synchronised plan None before d ≡ synced_by plan before d false
synced_none plan before d = synced_is plan None before d ∙ ap (synced_by plan before d) (never (elim before [ None ↦ false | Some w ↦ is_running plan d.state ]))

plain_restart : (b : Bool) (d : SessionData) → plain (with_restart b d).state ≡ plain d.state
plain_restart true d = refl
plain_restart false d = refl

plain_asked : (b : Bool) (tick : ℕ) (d : SessionData) → plain (cond b (record d { questions = d.questions ++ tick ∷ [] }) d).state ≡ plain d.state
plain_asked true tick d = refl
plain_asked false tick d = refl

plain_synced : (plan : Plan) (before : Option ℕ) (d : SessionData) (stops : Bool) → plain (synced_by plan before d stops).state ≡ plain (once_shown plan before d).state
plain_synced plan before d stops =
    let asks : Bool = elim before [ None ↦ false | Some w ↦ is_running plan d.state ] in
    let shown = once_shown plan before d in
    plain_restart (is_kept plan d.state || stops) (cond asks (record shown { questions = shown.questions ++ d.state.tick ∷ [] }) shown) ∙ plain_asked asks d.state.tick shown

pub one_of_more : {X : Type 0} (x y : X) (ys : List X) → IsOneOf x (ys ++ y ∷ []) → IsOneOf x ys ⊎ (x ≡ y)
one_of_more x y [] (inl e) = inr e
one_of_more x y [] (inr h) = absurd h
one_of_more x y (z ∷ ys) (inl e) = inl (inl e)
one_of_more x y (z ∷ ys) (inr h) = one_more_step (one_of_more x y ys h)
  where
    one_more_step : IsOneOf x ys ⊎ (x ≡ y) → IsOneOf x (z ∷ ys) ⊎ (x ≡ y)
    one_more_step (inl h) = inl (inr h)
    one_more_step (inr e) = inr e

-- a state was there before, or the session goes on from it
abbrev pub Claim : Plan → SessionData → StateData → SessionData → Type 0
Claim plan D τ d = IsOneOf τ d.states ⊎ GoesOn D (session plan true None (kept τ))

new_or_old : (plan : Plan) (D : SessionData) (τ σ : StateData) (d : SessionData) → IsOneOf τ d.states ⊎ (τ ≡ σ) → GoesOn D (session plan true None (kept σ)) → Claim plan D τ d
new_or_old plan D τ σ d (inl h) g = inl h
new_or_old plan D τ σ d (inr e) g = inr (subst (λ t. GoesOn D (session plan true None (kept t))) (sym e) g)

old_or_on : (plan : Plan) (D : SessionData) (τ σ : StateData) (d : SessionData) → IsOneOf τ (d.states ++ σ ∷ []) ⊎ GoesOn D (session plan true None (kept τ)) → GoesOn D (session plan true None (kept σ)) → Claim plan D τ d
old_or_on plan D τ σ d (inl h) g = new_or_old plan D τ σ d (one_of_more τ σ d.states h) g
old_or_on plan D τ σ d (inr h) g = inr h

-- what is shown of the sessions from a synchronisation on
abbrev pub Outer : Plan → Option ℕ → ℕ → Type 0
Outer plan stop n = (known : Bool) (d : SessionData) → IsTimed plan d.state → IsStrictlyIncreasing (ids_of d.state.bodies) → Enough plan n d.state → d.end ≡ Done →
    (τ : StateData) → IsOneOf τ (session_from n plan stop known d).states → Claim plan (session_from n plan None known d) τ d

stop_end : (n : ℕ) (plan : Plan) (stop : Option ℕ) (e : SessionData) → e.end ≡ Stopped → cond (is_done e.end) (session_from n plan stop true e) e ≡ e
stop_end n plan stop e h = λ i. cond (is_done (h i)) (session_from n plan stop true e) e

went_on : (plan : Plan) → plan.rules.gravity.setup.time_max ≤ 2 ^ 40 → (stop : Option ℕ) (n : ℕ) → Outer plan stop n → (a : List Happening) (d : SessionData) → ((p : Progress) → Enough plan n (advanced plan p d.state)) →
    (p : Progress) → IsStrictlyIncreasing (ids_of p.bodies) → (τ : StateData) → IsOneOf τ (onward n plan stop d (led_step a (Going p))).states → Claim plan (onward n plan None d (led_step a (Going p))) τ d
went_on plan small stop n outer a d en p inc τ h =
    let before : Option ℕ = Some (d.state.steps * 2 ^ plan.rules.gravity.setup.top_bin) in
    let x : SessionData = record (with_trail (a ++ p.trail) d) { state = advanced plan (led a p) d.state } in
    let e = synchronised plan stop before x in
    let f = synchronised plan None before x in
    let σ = (once_shown plan before x).state in
    let fd = sync_done plan before x in
    let times = sync_times plan None before x in
    let timedf : IsTimed plan f.state = record { depths = times.depths; tick = times.tick ∙ ap (λ t. t * 2 ^ plan.rules.gravity.setup.top_bin) (sym times.steps) } in
    let enf : Enough plan n f.state = subst (λ t. plan.rules.gravity.setup.time_max ≤ t + n) (sym times.tick) (en (led a p)) in
    let incf : IsStrictlyIncreasing (ids_of f.state.bodies) = subst (λ B. IsStrictlyIncreasing (ids_of B)) (sym times.bodies) inc in
    let D = session_from n plan None true f in
    let same : plain f.state ≡ plain σ = ap (λ z. plain z.state) (synced_none plan before x) ∙ plain_synced plan before x false in
    let on : GoesOn D (session plan true None (kept σ)) = resume_from plan small n true f σ fd timedf enf same in
    let statesf : f.states ≡ d.states ++ σ ∷ [] = ap (λ z. z.states) (synced_none plan before x) in
    let goal : Claim plan D τ d = either_way (stops_here plan stop before x)
    (λ s.
    let q : e ≡ synced_by plan before x true = synced_is plan stop before x ∙ ap (synced_by plan before x) s in
    let r : cond (is_done e.end) (session_from n plan stop true e) e ≡ e = stop_end n plan stop e (ap (λ z. z.end) q) in
    let k : IsOneOf τ (d.states ++ σ ∷ []) = subst (λ z. IsOneOf τ z.states) (r ∙ q) h in
    new_or_old plan D τ σ d (one_of_more τ σ d.states k) on)
    (λ s.
    let q : e ≡ f = synced_is plan stop before x ∙ ap (synced_by plan before x) s ∙ sym (synced_none plan before x) in
    let k : IsOneOf τ (session_from n plan stop true f).states = subst (λ z. IsOneOf τ z.states) ((λ i. cond (is_done (q i).end) (session_from n plan stop true (q i)) (q i)) ∙ done_on n plan stop f fd) h in
    old_or_on plan D τ σ d (subst (λ xs. IsOneOf τ xs ⊎ GoesOn D (session plan true None (kept τ))) statesf (outer true f timedf incf enf fd τ k)) on) in
    subst (λ z. Claim plan z τ d) (sym (done_on n plan None f fd)) goal

pub core : (plan : Plan) → plan.rules.gravity.setup.time_max ≤ 2 ^ 40 → (stop : Option ℕ) (n : ℕ) → Outer plan stop n → (a : List Happening) (d : SessionData) → ((p : Progress) → Enough plan n (advanced plan p d.state)) →
    (ids : List ℕ) → IsStrictlyIncreasing ids → (s whole : Stepped) → Resumable plan s whole → Holds (stay ids) s → Moves whole →
    (τ : StateData) → IsOneOf τ (onward n plan stop d (led_step a s)).states → Claim plan (onward n plan None d (led_step a whole)) τ d
core plan small stop n outer a d en ids inc (Going p) whole e stays moves τ h =
    subst (λ z. Claim plan (onward n plan None d (led_step a z)) τ d) (sym e) (went_on plan small stop n outer a d en p (subst IsStrictlyIncreasing (sym stays) inc) τ h)
core plan small stop n outer a d en ids inc (Refused p x) whole e stays moves τ h = inl h
core plan small stop n outer a d en ids inc (Resting q tick Fs) whole e stays moves τ h =
    new_or_old plan (onward n plan None d (led_step a whole)) τ (rested (led a q) tick Fs d.state) d (one_of_more τ (rested (led a q) tick Fs d.state) d.states h)
    (rest_resumes plan small n a d en q tick Fs whole moves e)

pub outer_all : (plan : Plan) → plan.rules.gravity.setup.time_max ≤ 2 ^ 40 → plan.rules.gravity.setup.top_bin ≤ 64 → (stop : Option ℕ) (n : ℕ) → Outer plan stop n
unfolding session_from
outer_all plan small low stop zero known d timed inc en done τ h = inl h
outer_all plan small low stop (suc n) known d timed inc en done τ h =
    let σ = d.state in
    let a = first_of known σ in
    let r = plan.rules in
    let top = r.gravity.setup.top_bin in
    let p : Progress = record { bodies = σ.bodies; trail = [] } in
    either_way (is_running plan σ)
    (λ run.
    let x : session_from (suc n) plan stop known d ≡ onward n plan stop d (led_step a (whole_step plan stop σ)) = running n plan stop known d run ∙ ap (onward n plan stop d) (synced_step plan stop known σ timed.depths) in
    let y : session_from (suc n) plan None known d ≡ onward n plan None d (led_step a (whole_step plan None σ)) = running n plan None known d run ∙ ap (onward n plan None d) (synced_step plan None known σ timed.depths) in
    let stays = (evolve_known r (ids_of σ.bodies) inc stop top (ids_of σ.bodies) σ.tick p refl).1 in
    subst (λ z. Claim plan z τ d) (sym y)
    (core plan small stop n (outer_all plan small low stop n) a d (λ p. advance_enough plan n p σ small timed run en) (ids_of σ.bodies) inc (whole_step plan stop σ) (whole_step plan None σ) (resumable plan stop σ timed inc low) stays
    (evolve_moves r top (ids_of σ.bodies) σ.tick p) τ (subst (λ z. IsOneOf τ z.states) x h)))
    (λ run. inl (subst (λ z. IsOneOf τ z.states) (halted (suc n) plan stop known d timed.depths run) h))

no_claim : (plan : Plan) (D : SessionData) (τ σ : StateData) → IsOneOf τ (σ ∷ []) ⊎ GoesOn D (session plan true None (kept τ)) → GoesOn D (session plan true None (kept σ)) → GoesOn D (session plan true None (kept τ))
no_claim plan D τ σ (inl (inl e)) g = subst (λ t. GoesOn D (session plan true None (kept t))) (sym e) g
no_claim plan D τ σ (inl (inr h)) g = absurd h
no_claim plan D τ σ (inr h) g = h

pub sessions_go_on : SessionsGoOn
unfolding session
sessions_go_on plan stop σ zero_state inc ok_setup τ h =
    let setup = plan.rules.gravity.setup in
    let small = ok_setup.time_high in
    let low : setup.top_bin ≤ 64 = omega (arith, ok_setup.bin_high) in
    let start : SessionData = record { state = σ; written = []; trail = []; states = []; questions = []; end = Done } in
    let e = synchronised plan stop None start in
    let f = synchronised plan None None start in
    let q : e ≡ f = synced_is plan stop None start ∙ sym (synced_none plan None start) in
    let fd = sync_done plan None start in
    let times = sync_times plan None None start in
    let tick : σ.tick ≡ σ.steps * 2 ^ setup.top_bin = zero_state.tick ∙ omega arith ∙ ap (λ t. t * 2 ^ setup.top_bin) (sym zero_state.steps) in
    let timed : IsTimed plan f.state = record { depths = times.depths ∙ zero_state.depths; tick = times.tick ∙ tick ∙ ap (λ t. t * 2 ^ setup.top_bin) (sym times.steps) } in
    let n = setup.time_max + 1 in
    let enough : Enough plan n f.state = omega (arith, zero_state.tick) in
    let incf : IsStrictlyIncreasing (ids_of f.state.bodies) = subst (λ B. IsStrictlyIncreasing (ids_of B)) (sym times.bodies) inc in
    let ρ = (once_shown plan None start).state in
    let same : plain f.state ≡ plain ρ = ap (λ z. plain z.state) (synced_none plan None start) ∙ plain_synced plan None start false in
    let D = session_from n plan None false f in
    let statesf : f.states ≡ ρ ∷ [] = ap (λ z. z.states) (synced_none plan None start) in
    let k : IsOneOf τ (session_from n plan stop false f).states = subst (λ z. IsOneOf τ (session_from n plan stop false z).states) q h in
    no_claim plan D τ ρ (subst (λ xs. IsOneOf τ xs ⊎ GoesOn D (session plan true None (kept τ))) statesf (outer_all plan small low stop n false f timed incf enough fd τ k))
    (resume_from plan small n false f ρ fd timed enough same)
