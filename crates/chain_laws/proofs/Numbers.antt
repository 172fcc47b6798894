-- Sessions don't look at the number of the next restart file.
use Rattle.std.proofs.Common.{◌≡◌, ℕ, zero, suc, ◌+◌, ◌*◌, ◌^◌, Bool, true, false, cond, not, ◌&&◌, ◌||◌, List, [], ◌∷◌, ◌++◌, map, Option, Some, None, refl, ap, sym, ◌∙◌, subst}
use Rattle.std.proofs.lemmas.Bool.{false≢true, true≢false}
use Rattle.std.proofs.lemmas.Grind.{flat_map-append}
use Rattle.std.proofs.lemmas.List.{map-append}
use Rattle.nbody_model.specs.Evolve.{Stepped, Going, Refused, Resting, rests_of, is_empty}
use Rattle.nbody_model.specs.States.{StateData}
use Rattle.nbody_model.specs.Continue.{round, continue}
use Rattle.nbody_model.specs.Session.{Plan, Snapshot, SessionData, End, Done, Stopped, raised64, is_running, is_stop, with_snapshot, with_restart, is_due, is_kept, synchronised, advanced, rested, with_trail, base_step, is_done, session_from, session, kept}
use Rattle.model_laws.specs.Resumed.{shown_in, plain}
use Rattle.model_laws.proofs.Resumed.{onward, unshown}
use Rattle.chain_laws.specs.Numbers.{AreAlike, NumbersDontMatter}

more : {X Y : Type 0} (f : X → Y) (xs ys : List X) (x y : X) → map f xs ≡ map f ys → f x ≡ f y → map f (xs ++ x ∷ []) ≡ map f (ys ++ y ∷ [])
more f xs ys x y e g = map-append f xs (x ∷ []) ∙ (λ i. e i ++ g i ∷ []) ∙ sym (map-append f ys (y ∷ []))

snapshot_alike : (b : Bool) (d e : SessionData) → AreAlike d e → AreAlike (with_snapshot b d) (with_snapshot b e)
snapshot_alike false d e h = h
snapshot_alike true d e h = record {
  state = λ i. record (h.state i) { next_snapshot = raised64 (h.state i).next_snapshot 1 };
  snapshots = flat_map-append shown_in d.written (Snapshot d.state.next_snapshot d.state ∷ []) ∙ (λ i. h.snapshots i ++ record { number = (h.state i).next_snapshot; bodies = (h.state i).bodies; tick = (h.state i).tick } ∷ []) ∙
      sym (flat_map-append shown_in e.written (Snapshot e.state.next_snapshot e.state ∷ []));
  trail = h.trail;
  states = h.states;
  questions = h.questions;
  end = h.end;
}

restart_alike : (b : Bool) (d e : SessionData) → AreAlike d e → AreAlike (with_restart b d) (with_restart b e)
restart_alike false d e h = h
restart_alike true d e h = record {
  state = h.state;
  snapshots = unshown d.written d.state.next_restart (kept d.state) ∙ h.snapshots ∙ sym (unshown e.written e.state.next_restart (kept e.state));
  trail = h.trail;
  states = h.states;
  questions = h.questions;
  end = h.end;
}

asked_alike : (b : Bool) (tick : ℕ) (d e : SessionData) → AreAlike d e → AreAlike (cond b (record d { questions = d.questions ++ tick ∷ [] }) d) (cond b (record e { questions = e.questions ++ tick ∷ [] }) e)
asked_alike false tick d e h = h
asked_alike true tick d e h = record { state = h.state; snapshots = h.snapshots; trail = h.trail; states = h.states; questions = ap (λ qs. qs ++ tick ∷ []) h.questions; end = h.end }

-- a synchronisation by its tests
abbrev pub synced_with : (due asks kept stops : Bool) → ℕ → SessionData → SessionData
synced_with due asks kept stops tick d =
    let shown = with_snapshot due d in
    let told : SessionData = cond asks (record shown { questions = shown.questions ++ tick ∷ [] }) shown in
    let saved = with_restart kept told in
    record saved { states = d.states ++ shown.state ∷ []; end = cond stops Stopped Done }

synced_alike : (due asks keeps stops : Bool) (tick : ℕ) (d e : SessionData) → AreAlike d e → AreAlike (synced_with due asks keeps stops tick d) (synced_with due asks keeps stops tick e)
synced_alike due asks keeps stops tick d e h =
    let sd = with_snapshot due d in
    let se = with_snapshot due e in
    let one : AreAlike sd se = snapshot_alike due d e h in
    let td : SessionData = cond asks (record sd { questions = sd.questions ++ tick ∷ [] }) sd in
    let te : SessionData = cond asks (record se { questions = se.questions ++ tick ∷ [] }) se in
    let two : AreAlike (with_restart keeps td) (with_restart keeps te) = restart_alike keeps td te (asked_alike asks tick sd se one) in
    record { state = two.state; snapshots = two.snapshots; trail = two.trail; states = more plain d.states e.states sd.state se.state h.states one.state; questions = two.questions; end = refl }

-- by the state alone
abbrev synced_by : Plan → Option ℕ → Option ℕ → StateData → SessionData → SessionData
synced_by plan stop before σ d =
    let running = is_running plan σ in
    let asks : Bool = elim before [ None ↦ false | Some w ↦ running ] in
    let stops = asks && is_stop stop σ.tick in
    synced_with (is_due plan before σ.tick || not running) asks (is_kept plan σ || stops) stops σ.tick d

sync_alike : (plan : Plan) (stop before : Option ℕ) (d e : SessionData) → AreAlike d e → AreAlike (synchronised plan stop before d) (synchronised plan stop before e)
unfolding synchronised
sync_alike plan stop before d e h =
    let σ = d.state in
    let running = is_running plan σ in
    let asks : Bool = elim before [ None ↦ false | Some w ↦ running ] in
    let stops = asks && is_stop stop σ.tick in
    let a : AreAlike (synced_by plan stop before d.state d) (synced_by plan stop before d.state e) = synced_alike (is_due plan before σ.tick || not running) asks (is_kept plan σ || stops) stops σ.tick d e h in
    let q : synced_by plan stop before d.state e ≡ synced_by plan stop before e.state e = λ i. synced_by plan stop before (h.state i) e in
    subst (AreAlike (synced_by plan stop before d.state d)) q a

-- ---- base steps

step_plain : (plan : Plan) (stop : Option ℕ) (known : Bool) (σ : StateData) → base_step plan stop known σ ≡ base_step plan stop known (plain σ)
unfolding base_step continue round
step_plain plan stop known σ = refl

abbrev Later : ℕ → Plan → Option ℕ → Type 0
Later n plan stop = (known : Bool) (d e : SessionData) → AreAlike d e → AreAlike (session_from n plan stop known d) (session_from n plan stop known e)

done_alike : (n : ℕ) (plan : Plan) (stop : Option ℕ) → Later n plan stop → (d e : SessionData) → AreAlike d e → (x y : End) → d.end ≡ x → e.end ≡ y → AreAlike (cond (is_done d.end) (session_from n plan stop true d) d) (cond (is_done e.end) (session_from n plan stop true e) e)
done_alike n plan stop later d e h x y a b = by (is_done d.end) (is_done e.end) (ap is_done h.end)
  where
    by : (u v : Bool) → u ≡ v → AreAlike (cond u (session_from n plan stop true d) d) (cond v (session_from n plan stop true e) e)
    by true true k = later true d e h
    by false false k = h
    by true false k = absurd (true≢false k)
    by false true k = absurd (false≢true k)

onward_alike : (n : ℕ) (plan : Plan) (stop : Option ℕ) → Later n plan stop → (d e : SessionData) → AreAlike d e → (s : Stepped) → AreAlike (onward n plan stop d s) (onward n plan stop e s)
onward_alike n plan stop later d e h (Going p) =
    let width = 2 ^ plan.rules.gravity.setup.top_bin in
    let x : SessionData = record (with_trail p.trail d) { state = advanced plan p d.state } in
    let y : SessionData = record (with_trail p.trail e) { state = advanced plan p e.state } in
    let a : AreAlike x y = record {
      state = λ i. plain (advanced plan p (h.state i));
      snapshots = h.snapshots;
      trail = ap (λ t. t ++ p.trail) h.trail;
      states = h.states;
      questions = (ap (λ qs. qs ++ rests_of p.trail) h.questions);
      end = h.end;
    } in
    let b : AreAlike (synchronised plan stop (Some (d.state.steps * width)) x) (synchronised plan stop (Some (e.state.steps * width)) y) =
    subst (λ t. AreAlike (synchronised plan stop (Some (d.state.steps * width)) x) (synchronised plan stop (Some (t * width)) y)) (ap (λ σ. σ.steps) h.state) (sync_alike plan stop (Some (d.state.steps * width)) x y a) in
    done_alike n plan stop later (synchronised plan stop (Some (d.state.steps * width)) x) (synchronised plan stop (Some (e.state.steps * width)) y) b _ _ refl refl
onward_alike n plan stop later d e h (Refused p r) = record {
  state = h.state;
  snapshots = h.snapshots;
  trail = ap (λ t. t ++ p.trail) h.trail;
  states = h.states;
  questions = (ap (λ qs. qs ++ rests_of p.trail) h.questions);
  end = refl;
}
onward_alike n plan stop later d e h (Resting p tick Fs) =
    let ρ = rested p tick Fs d.state in
    let τ = rested p tick Fs e.state in
    let same : plain ρ ≡ plain τ = λ i. plain (rested p tick Fs (h.state i)) in
    restart_alike true (record (with_trail p.trail d) { state = ρ; states = d.states ++ ρ ∷ []; end = Stopped }) (record (with_trail p.trail e) { state = τ; states = e.states ++ τ ∷ []; end = Stopped }) (record {
      state = same;
      snapshots = h.snapshots;
      trail = ap (λ t. t ++ p.trail) h.trail;
      states = more plain d.states e.states ρ τ h.states same;
      questions = (ap (λ qs. qs ++ rests_of p.trail) h.questions);
      end = refl;
    })

ended_alike : (b c : Bool) (d e x y : SessionData) → b ≡ c → AreAlike d e → AreAlike x y → AreAlike (cond b d x) (cond c e y)
ended_alike true true d e x y q h g = h
ended_alike false false d e x y q h g = g
ended_alike true false d e x y q h g = absurd (true≢false q)
ended_alike false true d e x y q h g = absurd (false≢true q)

later_alike : (n : ℕ) (plan : Plan) (stop : Option ℕ) → Later n plan stop
unfolding session_from
later_alike zero plan stop known d e h = h
later_alike (suc n) plan stop known d e h =
    let same : base_step plan stop known d.state ≡ base_step plan stop known e.state = step_plain plan stop known d.state ∙ ap (base_step plan stop known) h.state ∙ sym (step_plain plan stop known e.state) in
    ended_alike (is_empty d.state.depths && not (is_running plan d.state)) (is_empty e.state.depths && not (is_running plan e.state)) d e
    (onward n plan stop d (base_step plan stop known d.state)) (onward n plan stop e (base_step plan stop known e.state))
    (λ i. is_empty (h.state i).depths && not (is_running plan (h.state i))) h
    (subst (λ s. AreAlike (onward n plan stop d (base_step plan stop known d.state)) (onward n plan stop e s)) same (onward_alike n plan stop (later_alike n plan stop) d e h (base_step plan stop known d.state)))

pub numbers_dont_matter : NumbersDontMatter
unfolding session
numbers_dont_matter plan resumed stop σ τ same = by resumed
  where
    alike : AreAlike (record { state = σ; written = []; trail = []; states = []; questions = []; end = Done }) (record { state = τ; written = []; trail = []; states = []; questions = []; end = Done })
    alike = record { state = same; snapshots = refl; trail = refl; states = refl; questions = refl; end = refl }

    by : (b : Bool) → AreAlike (session plan b stop σ) (session plan b stop τ)
    by true = later_alike (plan.rules.gravity.setup.time_max + 1) plan stop false _ _ alike
    by false = later_alike (plan.rules.gravity.setup.time_max + 1) plan stop false _ _ (sync_alike plan stop None _ _ alike)
