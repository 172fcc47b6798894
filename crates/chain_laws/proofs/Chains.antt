-- Chains of restarts go on as the run that isn't stopped.
use Rattle.std.proofs.Common.{◌≡◌, ◌<◌, ◌≤◌, ◌⊎◌, inl, inr, ℕ, zero, suc, ◌+◌, ◌*◌, ◌^◌, Bool, true, false, cond, not, ◌||◌, List, [], ◌∷◌, ◌++◌, length, Option, Some, None, refl, ap, sym, ◌∙◌, subst, arith, append_assoc, zero-add, add-one}
use Rattle.std.specs.Prelude.{⊤}
use Rattle.std.specs.List.Sorted.{IsStrictlyIncreasing}
use Rattle.std.proofs.lemmas.Bool.{true≢false}
use Rattle.nbody_model.specs.Bodies.{BodyData}
use Rattle.nbody_model.specs.Setups.{IsSetup}
use Rattle.nbody_model.specs.Evolve.{Happening, Progress, Stepped, Going, Refused, Resting, depths_of, is_empty}
use Rattle.nbody_model.specs.States.{StateData, IsStart, low_zeros}
use Rattle.nbody_model.specs.Continue.{continue}
use Rattle.nbody_model.specs.Session.{Plan, SessionData, Done, is_running, is_due, synchronised, advanced, rested, with_trail, is_done, session_from, session, kept}
use Rattle.model_laws.specs.Preserved.{Holds}
use Rattle.model_laws.specs.Rests.{IsStoppedAt, Agrees}
use Rattle.model_laws.specs.Nests.{led, led_step, ids_of, Nested, Tells}
use Rattle.model_laws.specs.Resumed.{snapshots_of, GoesOn, IsOneOf}
use Rattle.model_laws.proofs.Rests.{Moves, evolve_moves, evolve_agrees}
use Rattle.model_laws.proofs.Nests.{held, tells, Nests, stay, evolve_known, finishes}
use Rattle.model_laws.proofs.Resumed.{IsTimed, onward, whole_step, first_of, synced_step, halted, running, resting_runs, resting_step, Resumable, resumable, moving_resumes, some_left, core, outer_all, either_way, one_of_more, once_shown, synced_is, sync_times, snapshot_times, sessions_go_on}
use Rattle.chain_laws.specs.Chains.{Link, AreLinked, last_state, ChainsGoOn}
use Rattle.chain_laws.proofs.Stops.{AgreesAgain, continue_agrees}
use Rattle.chain_laws.proofs.Nested.{continue_known, continue_moves}

-- ---- states from which a session goes on

-- a rest state whose depths tell its fast parts, inside each other
pub record IsMid (plan : Plan) (σ : StateData) : Type 0 where
  pub Fs : List (List ℕ)
  pub nested : Nested (ids_of σ.bodies) (ids_of σ.bodies) Fs
  pub told : Tells plan.rules.gravity.setup σ (ids_of σ.bodies) (low_zeros σ.tick + 1) Fs
  pub count : low_zeros σ.tick + length Fs ≡ plan.rules.gravity.setup.top_bin
  pub inner : low_zeros σ.tick < plan.rules.gravity.setup.top_bin
  pub some : is_empty σ.depths ≡ false
  pub any : σ.bodies ≡ [] → ⊥

-- at a synchronisation or inside a base step
pub record IsReady (plan : Plan) (σ : StateData) : Type 0 where
  pub ascending : IsStrictlyIncreasing (ids_of σ.bodies)
  pub stands : IsTimed plan σ ⊎ IsMid plan σ

-- what is known of a base step, however it ended
record CanRest (plan : Plan) (q : Progress) (tick : ℕ) (Fs : List (List ℕ)) : Type 0 where
  ascending : IsStrictlyIncreasing (ids_of q.bodies)
  nested : Nested (ids_of q.bodies) (ids_of q.bodies) Fs
  count : low_zeros tick + length Fs ≡ plan.rules.gravity.setup.top_bin
  inner : low_zeros tick < plan.rules.gravity.setup.top_bin
  some : is_empty (depths_of Fs q.bodies) ≡ false

abbrev Lands : Plan → Stepped → Type 0
Lands plan (Going p) = IsStrictlyIncreasing (ids_of p.bodies)
Lands plan (Refused p e) = ⊤
Lands plan (Resting q tick Fs) = CanRest plan q tick Fs

no_depths : (Fs : List (List ℕ)) (B : List BodyData) → is_empty (depths_of Fs B) ≡ false → B ≡ [] → ⊥
no_depths Fs B e h = absurd (true≢false (ap (λ C. is_empty (depths_of Fs C)) (sym h) ∙ e))

rest_ready : (plan : Plan) (a : List Happening) (q : Progress) (tick : ℕ) (Fs : List (List ℕ)) (σ : StateData) → CanRest plan q tick Fs → IsReady plan (kept (rested (led a q) tick Fs σ))
rest_ready plan a q tick Fs σ k =
    let s = plan.rules.gravity.setup in
    let ρ = kept (rested (led a q) tick Fs σ) in
    let P = ids_of q.bodies in
    record {
      ascending = k.ascending;
      stands = inr (record {
        Fs = Fs;
        nested = k.nested;
        told = tells s P ρ (low_zeros tick + 1) Fs (held Fs) (λ id. 0) refl refl k.nested (λ id. sym (zero-add (held Fs id))) (λ id e. refl) (omega (arith, k.count));
        count = k.count;
        inner = k.inner;
        some = k.some;
        any = no_depths Fs q.bodies k.some;
      });
    }

-- ---- the states of a session are such

abbrev Ready : Plan → StateData → SessionData → Type 0
Ready plan τ d = IsOneOf τ d.states ⊎ IsReady plan (kept τ)

abbrev Onwards : Plan → Option ℕ → ℕ → Type 0
Onwards plan stop n = (known : Bool) (d : SessionData) → IsTimed plan d.state → IsStrictlyIncreasing (ids_of d.state.bodies) → (τ : StateData) → IsOneOf τ (session_from n plan stop known d).states → Ready plan τ d

new_or_old : (plan : Plan) (τ σ : StateData) (d : SessionData) → IsOneOf τ d.states ⊎ (τ ≡ σ) → IsReady plan (kept σ) → Ready plan τ d
new_or_old plan τ σ d (inl h) k = inl h
new_or_old plan τ σ d (inr e) k = inr (subst (λ t. IsReady plan (kept t)) (sym e) k)

old_or_ready : (plan : Plan) (τ σ : StateData) (d : SessionData) → IsOneOf τ (d.states ++ σ ∷ []) ⊎ IsReady plan (kept τ) → IsReady plan (kept σ) → Ready plan τ d
old_or_ready plan τ σ d (inl h) k = new_or_old plan τ σ d (one_of_more τ σ d.states h) k
old_or_ready plan τ σ d (inr h) k = inr h

-- after a synchronisation: the state that it adds, and that it goes on from
synced_ready : (plan : Plan) (stop before : Option ℕ) (x : SessionData) → IsTimed plan x.state → IsStrictlyIncreasing (ids_of x.state.bodies) → IsReady plan (kept (once_shown plan before x).state)
synced_ready plan stop before x timed inc =
    let t = snapshot_times (is_due plan before x.state.tick || not (is_running plan x.state)) x in
    record {
      ascending = subst (λ B. IsStrictlyIncreasing (ids_of B)) (sym t.bodies) inc;
      stands = inl (record { depths = t.depths ∙ timed.depths; tick = t.tick ∙ timed.tick ∙ ap (λ n. n * 2 ^ plan.rules.gravity.setup.top_bin) (sym t.steps) });
    }

synced_timed : (plan : Plan) (stop before : Option ℕ) (x : SessionData) → IsTimed plan x.state → IsTimed plan (synchronised plan stop before x).state
synced_timed plan stop before x timed =
    let t = sync_times plan stop before x in
    record { depths = t.depths ∙ timed.depths; tick = t.tick ∙ timed.tick ∙ ap (λ n. n * 2 ^ plan.rules.gravity.setup.top_bin) (sym t.steps) }

either_one : (τ : StateData) (b : Bool) (d e : SessionData) → IsOneOf τ (cond b d e).states → IsOneOf τ d.states ⊎ IsOneOf τ e.states
either_one τ true d e h = inl h
either_one τ false d e h = inr h

went_ready : (plan : Plan) (stop : Option ℕ) (n : ℕ) → Onwards plan stop n → (d : SessionData) (p : Progress) → IsStrictlyIncreasing (ids_of p.bodies) → (τ : StateData) → IsOneOf τ (onward n plan stop d (Going p)).states → Ready plan τ d
went_ready plan stop n later d p inc τ h =
    let before : Option ℕ = Some (d.state.steps * 2 ^ plan.rules.gravity.setup.top_bin) in
    let x : SessionData = record (with_trail p.trail d) { state = advanced plan p d.state } in
    let e = synchronised plan stop before x in
    let timed : IsTimed plan x.state = record { depths = refl; tick = refl } in
    let times = sync_times plan stop before x in
    let σ = (once_shown plan before x).state in
    let ready = synced_ready plan stop before x timed inc in
    let states : e.states ≡ d.states ++ σ ∷ [] = ap (λ z. z.states) (synced_is plan stop before x) in
    by e σ ready states (either_one τ (is_done e.end) (session_from n plan stop true e) e h)
    (λ k. later true e (synced_timed plan stop before x timed) (subst (λ B. IsStrictlyIncreasing (ids_of B)) (sym times.bodies) inc) τ k)
  where
    by : (e : SessionData) (σ : StateData) → IsReady plan (kept σ) → e.states ≡ d.states ++ σ ∷ [] → IsOneOf τ (session_from n plan stop true e).states ⊎ IsOneOf τ e.states → (IsOneOf τ (session_from n plan stop true e).states → Ready plan τ e) → Ready plan τ d
    by e σ ready states (inl k) f = old_or_ready plan τ σ d (subst (λ xs. IsOneOf τ xs ⊎ IsReady plan (kept τ)) states (f k)) ready
    by e σ ready states (inr k) f = new_or_old plan τ σ d (one_of_more τ σ d.states (subst (IsOneOf τ) states k)) ready

step_ready : (plan : Plan) (stop : Option ℕ) (n : ℕ) → Onwards plan stop n → (a : List Happening) (d : SessionData) (s : Stepped) → Lands plan s → (τ : StateData) → IsOneOf τ (onward n plan stop d (led_step a s)).states → Ready plan τ d
step_ready plan stop n later a d (Going p) k τ h = went_ready plan stop n later d (led a p) k τ h
step_ready plan stop n later a d (Refused p e) k τ h = inl h
step_ready plan stop n later a d (Resting q tick Fs) k τ h = new_or_old plan τ (rested (led a q) tick Fs d.state) d (one_of_more τ (rested (led a q) tick Fs d.state) d.states h) (rest_ready plan a q tick Fs d.state k)

-- a base step lands where it can rest
moving_lands : (plan : Plan) (ids : List ℕ) (s : Stepped) → IsStrictlyIncreasing ids → Moves s → Holds (stay ids) s → Lands plan s
moving_lands plan ids (Going p) inc m h = subst IsStrictlyIncreasing (sym h) inc
moving_lands plan ids (Refused p e) inc m h = tt
moving_lands plan ids (Resting q tick Fs) inc m h = absurd m

stopped_lands : (plan : Plan) (w n : ℕ) (ids : List ℕ) (q : Progress) (tick : ℕ) (Fs : List (List ℕ)) (whole : Stepped) → IsStrictlyIncreasing ids → IsStoppedAt plan.rules w plan.rules.gravity.setup.top_bin n ids q tick Fs whole → Nested ids ids Fs → ids_of q.bodies ≡ ids →
    is_empty (depths_of Fs q.bodies) ≡ false → CanRest plan q tick Fs
stopped_lands plan w n ids q tick Fs whole inc a nested same some = record {
  ascending = subst IsStrictlyIncreasing (sym same) inc;
  nested = subst (λ xs. Nested xs xs Fs) (sym same) nested;
  count = ap (λ t. low_zeros t + length Fs) a.at ∙ a.count;
  inner = subst (λ t. low_zeros t < plan.rules.gravity.setup.top_bin) (sym a.at) a.inner;
  some = some;
}

agreeing_lands : (plan : Plan) (w n : ℕ) (ids : List ℕ) (s whole : Stepped) → IsStrictlyIncreasing ids → Agrees plan.rules w plan.rules.gravity.setup.top_bin n ids s whole → Nests ids ids s → Holds (stay ids) s → Resumable plan s whole → Lands plan s
agreeing_lands plan w n ids (Going p) whole inc a m h r = subst IsStrictlyIncreasing (sym h) inc
agreeing_lands plan w n ids (Refused p e) whole inc a m h r = tt
agreeing_lands plan w n ids (Resting q tick Fs) whole inc a m h r = stopped_lands plan w n ids q tick Fs whole inc a m h r.1

whole_lands : (plan : Plan) (stop : Option ℕ) (σ : StateData) → IsTimed plan σ → IsStrictlyIncreasing (ids_of σ.bodies) → plan.rules.gravity.setup.top_bin ≤ 64 → Lands plan (whole_step plan stop σ)
whole_lands plan None σ timed inc low =
    let r = plan.rules in
    let top = r.gravity.setup.top_bin in
    let p : Progress = record { bodies = σ.bodies; trail = [] } in
    moving_lands plan (ids_of σ.bodies) (whole_step plan None σ) inc (evolve_moves r top (ids_of σ.bodies) σ.tick p) (evolve_known r (ids_of σ.bodies) inc None top (ids_of σ.bodies) σ.tick p refl).1
whole_lands plan (Some w) σ timed inc low =
    let r = plan.rules in
    let top = r.gravity.setup.top_bin in
    let p : Progress = record { bodies = σ.bodies; trail = [] } in
    let known = evolve_known r (ids_of σ.bodies) inc (Some w) top (ids_of σ.bodies) σ.tick p refl in
    agreeing_lands plan w σ.steps (ids_of σ.bodies) (whole_step plan (Some w) σ) (whole_step plan None σ) inc (evolve_agrees r w top σ.steps (ids_of σ.bodies) σ.tick p low timed.tick) known.0 known.1 (resumable plan (Some w) σ timed inc low)

onwards : (plan : Plan) (stop : Option ℕ) (n : ℕ) → plan.rules.gravity.setup.top_bin ≤ 64 → Onwards plan stop n
unfolding session_from
onwards plan stop zero low known d timed inc τ h = inl h
onwards plan stop (suc n) low known d timed inc τ h =
    let σ = d.state in
    let a = first_of known σ in
    either_way (is_running plan σ)
    (λ run.
    let x : session_from (suc n) plan stop known d ≡ onward n plan stop d (led_step a (whole_step plan stop σ)) = running n plan stop known d run ∙ ap (onward n plan stop d) (synced_step plan stop known σ timed.depths) in
    step_ready plan stop n (onwards plan stop n low) a d (whole_step plan stop σ) (whole_lands plan stop σ timed inc low) τ (subst (λ z. IsOneOf τ z.states) x h))
    (λ run. inl (subst (λ z. IsOneOf τ z.states) (halted (suc n) plan stop known d timed.depths run) h))

-- ---- from a state inside a base step

pub led_none : (s : Stepped) → led_step [] s ≡ s
led_none (Going p) = refl
led_none (Refused p e) = refl
led_none (Resting p tick Fs) = refl

again_resumes : (plan : Plan) (u w : ℕ) (B : List BodyData) (p : Progress) (s whole : Stepped) → AgreesAgain plan.rules u w plan.rules.gravity.setup.top_bin (ids_of B) s whole → Nests (ids_of B) (ids_of B) s → Holds (stay (ids_of B)) s → (B ≡ [] → ⊥) → Resumable plan s whole
again_resumes plan u w B p (Going q) whole a n h any = a
again_resumes plan u w B p (Refused q e) whole a n h any = a
again_resumes plan u w B p (Resting q tick Fs) whole a n h any = (
  (λ ρ. finishes plan.rules w a.both.m ρ (ids_of B) p q tick Fs whole (sym h) (subst (λ xs. Nested xs (ids_of B) Fs) (sym h) n) a.stopped),
  some_left B q.bodies Fs h any,
)

again_lands : (plan : Plan) (u w : ℕ) (ids : List ℕ) (s whole : Stepped) → IsStrictlyIncreasing ids → AgreesAgain plan.rules u w plan.rules.gravity.setup.top_bin ids s whole → Nests ids ids s → Holds (stay ids) s → Resumable plan s whole → Lands plan s
again_lands plan u w ids (Going p) whole inc a m h r = subst IsStrictlyIncreasing (sym h) inc
again_lands plan u w ids (Refused p e) whole inc a m h r = tt
again_lands plan u w ids (Resting q tick Fs) whole inc a m h r = stopped_lands plan w a.both.m ids q tick Fs whole inc a.stopped m h r.1

-- a step beside the one that isn't stopped
record StepsOn (plan : Plan) (ids : List ℕ) (s whole : Stepped) : Type 0 where
  resumes : Resumable plan s whole
  lands : Lands plan s
  stays : Holds (stay ids) s
  moves : Moves whole

mid_steps : (plan : Plan) (stop : Option ℕ) (σ : StateData) → plan.rules.gravity.setup.top_bin ≤ 64 → IsStrictlyIncreasing (ids_of σ.bodies) → IsMid plan σ →
    StepsOn plan (ids_of σ.bodies) (continue plan.rules stop σ (record { bodies = σ.bodies; trail = [] })) (continue plan.rules None σ (record { bodies = σ.bodies; trail = [] }))
mid_steps plan None σ low inc k =
    let r = plan.rules in
    let ids = ids_of σ.bodies in
    let p : Progress = record { bodies = σ.bodies; trail = [] } in
    let m = continue_moves r σ p in
    let known = continue_known r ids inc None σ ids k.Fs k.told k.count k.nested p refl in
    record { resumes = moving_resumes plan (continue r None σ p) m; lands = moving_lands plan ids (continue r None σ p) inc m known.1; stays = known.1; moves = m }
mid_steps plan (Some w) σ low inc k =
    let r = plan.rules in
    let ids = ids_of σ.bodies in
    let p : Progress = record { bodies = σ.bodies; trail = [] } in
    let a = continue_agrees r w σ ids k.Fs k.told k.count low k.inner p in
    let known = continue_known r ids inc (Some w) σ ids k.Fs k.told k.count k.nested p refl in
    let resumes = again_resumes plan σ.tick w σ.bodies p (continue r (Some w) σ p) (continue r None σ p) a known.0 known.1 k.any in
    record { resumes = resumes; lands = again_lands plan σ.tick w ids (continue r (Some w) σ p) (continue r None σ p) inc a known.0 known.1 resumes; stays = known.1; moves = continue_moves r σ p }

-- a session that begins with a state
abbrev pub fresh : StateData → SessionData
fresh σ = record { state = σ; written = []; trail = []; states = []; questions = []; end = Done }

pub mid_session : (plan : Plan) (stop : Option ℕ) (σ : StateData) → IsMid plan σ → session plan true stop σ ≡ onward plan.rules.gravity.setup.time_max plan stop (fresh σ) (led_step [] (continue plan.rules stop σ (record { bodies = σ.bodies; trail = [] })))
unfolding session
mid_session plan stop σ k =
    let time = plan.rules.gravity.setup.time_max in
    ap (λ m. session_from m plan stop false (fresh σ)) (add-one time) ∙ resting_runs time plan stop false (fresh σ) k.some ∙
    ap (onward time plan stop (fresh σ)) (resting_step plan stop false σ k.some ∙ sym (led_none (continue plan.rules stop σ (record { bodies = σ.bodies; trail = [] }))))

-- ---- one link

pub record LinksOn (plan : Plan) (σ ρ : StateData) : Type 0 where
  pub goes : GoesOn (session plan true None σ) (session plan true None (kept ρ))
  pub ready : IsReady plan (kept ρ)

left_out : {X : Type 0} → ⊥ ⊎ X → X
left_out (inl h) = absurd h
left_out (inr x) = x

pub one_link : (plan : Plan) (stop : Option ℕ) (σ ρ : StateData) → IsSetup plan.rules.gravity.setup → IsStrictlyIncreasing (ids_of σ.bodies) → IsTimed plan σ ⊎ IsMid plan σ → IsOneOf ρ (session plan true stop σ).states → LinksOn plan σ ρ
unfolding session
one_link plan stop σ ρ ok inc (inl timed) h =
    let s = plan.rules.gravity.setup in
    let low : s.top_bin ≤ 64 = omega (arith, ok.bin_high) in
    record {
      goes = left_out (outer_all plan ok.time_high low stop (s.time_max + 1) false (fresh σ) timed inc (omega arith) refl ρ h);
      ready = left_out (onwards plan stop (s.time_max + 1) low false (fresh σ) timed inc ρ h);
    }
one_link plan stop σ ρ ok inc (inr mid) h =
    let r = plan.rules in
    let s = r.gravity.setup in
    let time = s.time_max in
    let low : s.top_bin ≤ 64 = omega (arith, ok.bin_high) in
    let p : Progress = record { bodies = σ.bodies; trail = [] } in
    let step = continue r stop σ p in
    let whole = continue r None σ p in
    let k = mid_steps plan stop σ low inc mid in
    let g : IsOneOf ρ (onward time plan stop (fresh σ) (led_step [] step)).states = subst (λ z. IsOneOf ρ z.states) (mid_session plan stop σ mid) h in
    let on : GoesOn (onward time plan None (fresh σ) (led_step [] whole)) (session plan true None (kept ρ)) =
    left_out (core plan ok.time_high stop time (outer_all plan ok.time_high low stop time) [] (fresh σ) (λ q. omega arith) (ids_of σ.bodies) inc step whole k.resumes k.stays k.moves ρ g) in
    record {
      goes = subst (λ z. GoesOn z (session plan true None (kept ρ))) (sym (mid_session plan None σ mid)) on;
      ready = left_out (step_ready plan stop time (onwards plan stop time low) [] (fresh σ) step k.lands ρ g);
    }

-- ---- chains

goes_both : (D E F : SessionData) → GoesOn D E → GoesOn E F → GoesOn D F
goes_both D E F a b = record {
  shown = a.shown ++ b.shown;
  told = a.told ++ b.told;
  ends = record {
    snapshots = a.ends.snapshots ∙ ap (λ zs. a.shown ++ zs) b.ends.snapshots ∙ sym (append_assoc a.shown b.shown (snapshots_of F.written));
    kicks = a.ends.kicks ∙ ap (λ zs. a.told ++ zs) b.ends.kicks ∙ sym (append_assoc a.told b.told _);
    end = a.ends.end ∙ b.ends.end;
    state = λ h. a.ends.state h ∙ b.ends.state (sym a.ends.end ∙ h);
  };
}

linked : (plan : Plan) → IsSetup plan.rules.gravity.setup → (D : SessionData) (τ : StateData) (ls : List Link) → GoesOn D (session plan true None (kept τ)) → IsReady plan (kept τ) → AreLinked plan τ ls → GoesOn D (session plan true None (kept (last_state τ ls)))
linked plan ok D τ [] on ready h = on
linked plan ok D τ (l ∷ ls) on ready h =
    let k = one_link plan l.stop (kept τ) l.state ok ready.ascending ready.stands h.0 in
    linked plan ok D l.state ls (goes_both D (session plan true None (kept τ)) (session plan true None (kept l.state)) on k.goes) k.ready h.1

pub first_ready : (plan : Plan) (stop : Option ℕ) (σ τ : StateData) → IsStart σ → IsStrictlyIncreasing (ids_of σ.bodies) → IsSetup plan.rules.gravity.setup → IsOneOf τ (session plan false stop σ).states → IsReady plan (kept τ)
unfolding session
first_ready plan stop σ τ z inc ok h =
    let s = plan.rules.gravity.setup in
    let low : s.top_bin ≤ 64 = omega (arith, ok.bin_high) in
    let e = synchronised plan stop None (fresh σ) in
    let tick : σ.tick ≡ σ.steps * 2 ^ s.top_bin = z.tick ∙ omega arith ∙ ap (λ t. t * 2 ^ s.top_bin) (sym z.steps) in
    let timed : IsTimed plan σ = record { depths = z.depths; tick = tick } in
    let times = sync_times plan stop None (fresh σ) in
    let ρ = (once_shown plan None (fresh σ)).state in
    let states : e.states ≡ ρ ∷ [] = ap (λ y. y.states) (synced_is plan stop None (fresh σ)) in
    left_out (old_or_ready plan τ ρ (fresh σ)
    (subst (λ xs. IsOneOf τ xs ⊎ IsReady plan (kept τ)) states (onwards plan stop (s.time_max + 1) low false e (synced_timed plan stop None (fresh σ) timed) (subst (λ B. IsStrictlyIncreasing (ids_of B)) (sym times.bodies) inc) τ h))
    (synced_ready plan stop None (fresh σ) timed inc))

pub chains_go_on : ChainsGoOn
chains_go_on plan stop σ τ ls z inc ok h links =
    linked plan ok (session plan false None σ) τ ls (sessions_go_on plan stop σ z inc ok τ h) (first_ready plan stop σ τ z inc ok h) links
