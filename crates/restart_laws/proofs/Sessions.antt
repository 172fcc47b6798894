-- What a run from tick 0 keeps: its states at synchronisations, and the one at which it is stopped inside a base step.
use Rattle.std.proofs.Common.{◌≡◌, ◌<◌, ◌≤◌, ◌⊎◌, inl, inr, ℕ, zero, suc, ◌+◌, ◌-◌, ◌*◌, ◌/◌, ◌^◌, Bool, true, false, cond, not, ◌&&◌, ◌||◌, nat_lt, List, [], ◌∷◌, ◌++◌, length, map, Option, Some, None, refl, ap, sym, ◌∙◌, subst, arith, mod-lt, mod-eq_of_lt, le-mul_of_pos_right, le-div_iff_mul-le, div-lt_iff_lt-mul}
use Rattle.std.specs.Prelude.{⊤}
use Rattle.std.specs.List.{AllByRecursion}
use Rattle.std.proofs.lemmas.Bool.{false≢true, ltb-true, ltb-false}
use Rattle.std.proofs.lemmas.List.{length-map}
use Rattle.std.proofs.lemmas.List.Sums.{count_by-le-length}
use Rattle.std.proofs.lemmas.Nat.{pow_below, pow_pos}
use Rattle.nbody_model.specs.Bodies.{BodyData, has}
use Rattle.nbody_model.specs.Setups.{SetupData, IsSetup}
use Rattle.nbody_model.specs.Tables.{Rules}
use Rattle.nbody_model.specs.Evolve.{Progress, Stepped, Going, Refused, Resting, is_empty, ask_if, depths_of, evolve}
use Rattle.nbody_model.specs.States.{StateData, low_zeros}
use Rattle.nbody_model.specs.Continue.{continue}
use Rattle.nbody_model.specs.Session.{Plan, Written, Snapshot, Restart, SessionData, Done, raised64, is_running, is_stop, with_snapshot, with_restart, is_due, is_kept, synchronised, advanced, rested, with_trail, base_step, is_done, session_from, session, kept}
use Rattle.model_laws.specs.Preserved.{Holds}
use Rattle.model_laws.specs.Rests.{Agrees}
use Rattle.model_laws.proofs.Rests.{Moves, evolve_moves, evolve_agrees}
use Rattle.model_laws.proofs.Resumed.{onward}
use Rattle.restart_files.specs.Stored.{AreStorable, IsKept}
use Rattle.restart_laws.specs.Kept.{IsFirst}
use Rattle.restart_laws.proofs.Bodies.{AreSafe, evolve_safe, safe_first}
use Rattle.restart_laws.proofs.Resting.{Coarse, evolve_alone, evolve_coarse}

-- ---- what is shown

-- a state that can be written, with the bodies of the run, and from which the run goes on
pub record IsGood (s : SetupData) (B : List BodyData) (σ : StateData) : Type 0 where
  pub safe : AreSafe B σ.bodies
  pub room : AreStorable σ
  pub goes : IsKept s σ

-- the run is over
pub record IsOver (s : SetupData) (σ : StateData) : Type 0 where
  pub depths : σ.depths ≡ []
  pub late : s.time_max ≤ σ.tick

-- of a state of the run, by the number that its restart file has
pub record IsFine (s : SetupData) (B : List BodyData) (τ : StateData) : Type 0 where
  pub safe : AreSafe B τ.bodies
  pub room : AreStorable (kept τ)
  pub goes : IsKept s (kept τ) ⊎ IsOver s τ

abbrev pub IsGoodFile : SetupData → List BodyData → Written → Type 0
IsGoodFile s B (Snapshot n σ) = ⊤
IsGoodFile s B (Restart n σ) = IsGood s B σ

pub record AreKept (s : SetupData) (B : List BodyData) (d : SessionData) : Type 0 where
  pub states : AllByRecursion (IsFine s B) d.states
  pub files : AllByRecursion (IsGoodFile s B) d.written

all_more : {X : Type 0} (P : X → Type 0) (xs : List X) (x : X) → AllByRecursion P xs → P x → AllByRecursion P (xs ++ x ∷ [])
all_more P [] x a h = (h, tt)
all_more P (y ∷ ys) x a h = (a.0, all_more P ys x a.1 h)

-- ---- between base steps

pub record Stands (s : SetupData) (B : List BodyData) (σ : StateData) : Type 0 where
  pub safe : AreSafe B σ.bodies
  pub depths : σ.depths ≡ []
  pub tick : σ.tick ≡ σ.steps * 2 ^ s.top_bin
  pub near : σ.tick < s.time_max + 2 ^ s.top_bin
  pub next_snapshot : σ.next_snapshot < 2 ^ 64
  pub next_restart : σ.next_restart < 2 ^ 64
  pub kicks : σ.kicks < 2 ^ 64
  pub interactions : σ.interactions < 2 ^ 128

-- how long a base step is at most
width_most : (n : ℕ) → n ≤ 20 → 2 ^ n < 2 ^ 21
width_most n l = pow_below n 21 (omega (arith, l))

few_steps : (s : SetupData) (B : List BodyData) (σ : StateData) → IsSetup s → Stands s B σ → σ.steps < 2 ^ 41
few_steps s B σ h k =
    let l : σ.steps ≤ σ.steps * 2 ^ s.top_bin = le-mul_of_pos_right σ.steps (pow_pos s.top_bin) in
    omega (arith, l, k.tick, k.near, h.time_high, width_most s.top_bin h.bin_high)

room_of : (s : SetupData) (B : List BodyData) (σ : StateData) → IsSetup s → Stands s B σ → AreStorable (kept σ)
room_of s B σ h k = record {
  steps = omega (arith, few_steps s B σ h k);
  tick = omega (arith, k.near, h.time_high, width_most s.top_bin h.bin_high);
  next_snapshot = k.next_snapshot;
  next_restart = mod-lt (σ.next_restart + 1) (omega arith);
  kicks = k.kicks;
  interactions = k.interactions;
}

good_of : (s : SetupData) (B : List BodyData) (σ : StateData) → IsSetup s → Stands s B σ → nat_lt σ.tick s.time_max ≡ true → IsGood s B (kept σ)
good_of s B σ h k run = record { safe = k.safe; room = room_of s B σ h k; goes = inl (record { depths = k.depths; tick = k.tick; running = ltb-true σ.tick s.time_max run }) }

fine_by : (s : SetupData) (B : List BodyData) (σ : StateData) → IsSetup s → Stands s B σ → (run : Bool) → nat_lt σ.tick s.time_max ≡ run → IsFine s B σ
fine_by s B σ h k true run = record { safe = k.safe; room = room_of s B σ h k; goes = inl (good_of s B σ h k run).goes }
fine_by s B σ h k false run = record { safe = k.safe; room = room_of s B σ h k; goes = inr (record { depths = k.depths; late = ltb-false σ.tick s.time_max run }) }

-- in front of a base step, or inside one
pub record IsGoing (s : SetupData) (B : List BodyData) (σ : StateData) : Type 0 where
  pub safe : AreSafe B σ.bodies
  pub begun : σ.steps * 2 ^ s.top_bin < s.time_max
  pub next_snapshot : σ.next_snapshot < 2 ^ 64
  pub next_restart : σ.next_restart < 2 ^ 64
  pub kicks : σ.kicks < 2 ^ 64
  pub interactions : σ.interactions < 2 ^ 128

going_on : (s : SetupData) (B : List BodyData) (σ : StateData) → Stands s B σ → σ.tick < s.time_max → IsGoing s B σ
going_on s B σ k below = record {
  safe = k.safe;
  begun = omega (arith, below, k.tick);
  next_snapshot = k.next_snapshot;
  next_restart = k.next_restart;
  kicks = k.kicks;
  interactions = k.interactions;
}

few_begun : (s : SetupData) (B : List BodyData) (σ : StateData) → IsSetup s → IsGoing s B σ → σ.steps < 2 ^ 40
few_begun s B σ h k =
    let l : σ.steps ≤ σ.steps * 2 ^ s.top_bin = le-mul_of_pos_right σ.steps (pow_pos s.top_bin) in
    omega (arith, l, k.begun, h.time_high)

-- ---- a synchronisation

record Stage (plan : Plan) (B : List BodyData) (run : Bool) (d : SessionData) : Type 0 where
  stands : Stands plan.rules.gravity.setup B d.state
  files : AllByRecursion (IsGoodFile plan.rules.gravity.setup B) d.written
  runs : is_running plan d.state ≡ run

shown_stage : (plan : Plan) (B : List BodyData) (run b : Bool) (d : SessionData) → Stage plan B run d → Stage plan B run (with_snapshot b d)
shown_stage plan B run false d k = k
shown_stage plan B run true d k =
    let σ = d.state in
    let h = k.stands in
    record {
      stands = record {
        safe = h.safe;
        depths = h.depths;
        tick = h.tick;
        near = h.near;
        next_snapshot = mod-lt (σ.next_snapshot + 1) (omega arith);
        next_restart = h.next_restart;
        kicks = h.kicks;
        interactions = h.interactions;
      };
      files = all_more (IsGoodFile plan.rules.gravity.setup B) d.written (Snapshot σ.next_snapshot σ) k.files tt;
      runs = k.runs;
    }

told_stage : (plan : Plan) (B : List BodyData) (run b : Bool) (tick : ℕ) (d : SessionData) → Stage plan B run d → Stage plan B run (cond b (record d { questions = d.questions ++ tick ∷ [] }) d)
told_stage plan B run true tick d k = record { stands = k.stands; files = k.files; runs = k.runs }
told_stage plan B run false tick d k = k

saved_stage : (plan : Plan) (B : List BodyData) (run b : Bool) (d : SessionData) → IsSetup plan.rules.gravity.setup → (b ≡ true → run ≡ true) → Stage plan B run d → Stage plan B run (with_restart b d)
saved_stage plan B run false d h f k = k
saved_stage plan B run true d h f k =
    let s = plan.rules.gravity.setup in
    let σ = d.state in
    let t = k.stands in
    record {
      stands = record {
        safe = t.safe;
        depths = t.depths;
        tick = t.tick;
        near = t.near;
        next_snapshot = t.next_snapshot;
        next_restart = mod-lt (σ.next_restart + 1) (omega arith);
        kicks = t.kicks;
        interactions = t.interactions;
      };
      files = all_more (IsGoodFile s B) d.written (Restart σ.next_restart (kept σ)) k.files (good_of s B σ h t (k.runs ∙ f refl));
      runs = k.runs;
    }

asks_where : (before : Option ℕ) (run : Bool) → ◌≡◌ {A = Bool} (elim before [ None ↦ false | Some w ↦ run ]) true → run ≡ true
asks_where None run e = absurd (false≢true e)
asks_where (Some w) run e = e

saves_where : (run x asks y : Bool) → (asks ≡ true → run ≡ true) → ((run && x) || (asks && y)) ≡ true → run ≡ true
saves_where true x asks y f e = refl
saves_where false x true y f e = f refl
saves_where false x false y f e = absurd (false≢true e)

pub record Comes (plan : Plan) (B : List BodyData) (d : SessionData) : Type 0 where
  pub stands : Stands plan.rules.gravity.setup B d.state
  pub keeps : AreKept plan.rules.gravity.setup B d

sync_comes : (plan : Plan) (B : List BodyData) (stop before : Option ℕ) (d : SessionData) → IsSetup plan.rules.gravity.setup → Comes plan B d → Comes plan B (synchronised plan stop before d)
unfolding synchronised
sync_comes plan B stop before d h k =
    let s = plan.rules.gravity.setup in
    let tick = d.state.tick in
    let run = is_running plan d.state in
    let asks : Bool = elim before [ None ↦ false | Some w ↦ run ] in
    let bd = is_due plan before tick || not run in
    let shown = with_snapshot bd d in
    let told : SessionData = cond asks (record shown { questions = shown.questions ++ tick ∷ [] }) shown in
    let b = is_kept plan d.state || (asks && is_stop stop tick) in
    let one : Stage plan B run shown = shown_stage plan B run bd d (record { stands = k.stands; files = k.keeps.files; runs = refl }) in
    let two : Stage plan B run (with_restart b told) = saved_stage plan B run b told h (saves_where run _ asks (is_stop stop tick) (asks_where before run)) (told_stage plan B run asks tick shown one) in
    record {
      stands = two.stands;
      keeps = record { states = all_more (IsFine s B) d.states shown.state k.keeps.states (fine_by s B shown.state h one.stands run one.runs); files = two.files };
    }

-- ---- a base step

pub record IsInside (top n tick : ℕ) (Fs : List (List ℕ)) : Type 0 where
  pub after : n * 2 ^ top < tick
  pub before : tick < (n + 1) * 2 ^ top
  pub count : low_zeros tick + length Fs ≡ top
  pub inner : low_zeros tick < top

abbrev Placed : ℕ → ℕ → Stepped → Type 0
Placed top n (Going p) = ⊤
Placed top n (Refused p e) = ⊤
Placed top n (Resting p tick Fs) = IsInside top n tick Fs

placed_moving : (top n : ℕ) (s : Stepped) → Moves s → Placed top n s
placed_moving top n (Going p) m = tt
placed_moving top n (Refused p e) m = tt
placed_moving top n (Resting p tick Fs) m = absurd m

placed_agreeing : (r : Rules) (u top n : ℕ) (P : List ℕ) (s whole : Stepped) → Agrees r u top n P s whole → Placed top n s
placed_agreeing r u top n P (Going p) whole a = tt
placed_agreeing r u top n P (Refused p e) whole a = tt
placed_agreeing r u top n P (Resting p tick Fs) whole a = record {
  after = subst (λ t. n * 2 ^ top < t) (sym a.at) a.after;
  before = subst (λ t. t < (n + 1) * 2 ^ top) (sym a.at) a.before;
  count = ap (λ t. low_zeros t + length Fs) a.at ∙ a.count;
  inner = subst (λ t. low_zeros t < top) (sym a.at) a.inner;
}

evolve_placed : (r : Rules) (stop : Option ℕ) (top n : ℕ) (P : List ℕ) (t : ℕ) (p : Progress) → top ≤ 64 → t ≡ n * 2 ^ top → Placed top n (evolve r stop top P t p)
evolve_placed r None top n P t p l e = placed_moving top n (evolve r None top P t p) (evolve_moves r top P t p)
evolve_placed r (Some u) top n P t p l e = placed_agreeing r u top n P (evolve r (Some u) top P t p) (evolve r None top P t p) (evolve_agrees r u top n P t p l e)

pub record RestsAt (s : SetupData) (B : List BodyData) (σ : StateData) (p : Progress) (tick : ℕ) (Fs : List (List ℕ)) : Type 0 where
  pub safe : AreSafe B p.bodies
  pub inside : IsInside s.top_bin σ.steps tick Fs
  pub coarse : length Fs + s.low_bin ≤ s.top_bin
  pub some : 1 ≤ length p.bodies

-- what is known of a base step, however it ended
abbrev pub Facts : SetupData → List BodyData → StateData → Stepped → Type 0
Facts s B σ (Going p) = AreSafe B p.bodies
Facts s B σ (Refused p e) = ⊤
Facts s B σ (Resting p tick Fs) = RestsAt s B σ p tick Fs

one_at_least : (xs : List BodyData) → (xs ≡ [] → ⊥) → 1 ≤ length xs
one_at_least [] n = absurd (n refl)
one_at_least (x ∷ xs) n = omega arith

as_many : (B C D : List BodyData) → AreSafe B C → AreSafe B D → length C ≡ length D
as_many B C D h g = sym (length-map C (λ b. b.id)) ∙ ap length (h.ids ∙ sym g.ids) ∙ length-map D (λ b. b.id)

facts_of : (s : SetupData) (B : List BodyData) (σ : StateData) (step : Stepped) → AreSafe B σ.bodies → Holds (λ p. AreSafe B p.bodies) step → Coarse s.low_bin s.top_bin step → Placed s.top_bin σ.steps step → (σ.bodies ≡ [] → Moves step) → Facts s B σ step
facts_of s B σ (Going p) k h c w m = h
facts_of s B σ (Refused p e) k h c w m = tt
facts_of s B σ (Resting p tick Fs) k h c w m = record { safe = h; inside = w; coarse = c; some = subst (λ n. 1 ≤ n) (as_many B σ.bodies p.bodies k h) (one_at_least σ.bodies m) }

asked_bodies : (b : Bool) (P : List ℕ) (p : Progress) → (ask_if b P p).bodies ≡ p.bodies
asked_bodies true P p = refl
asked_bodies false P p = refl

step_facts : (plan : Plan) (stop : Option ℕ) (known : Bool) (B : List BodyData) (σ : StateData) → IsSetup plan.rules.gravity.setup → Stands plan.rules.gravity.setup B σ → Facts plan.rules.gravity.setup B σ (base_step plan stop known σ)
unfolding base_step
step_facts plan stop known B σ h k =
    let r = plan.rules in
    let s = r.gravity.setup in
    let all = map (λ b. b.id) σ.bodies in
    let start : Progress = record { bodies = σ.bodies; trail = [] } in
    let p = ask_if (not known) all start in
    let same : p.bodies ≡ σ.bodies = asked_bodies (not known) all start in
    subst (λ a. Facts s B σ (cond a (evolve r stop s.top_bin all σ.tick p) (continue r stop σ start))) (sym (ap is_empty k.depths))
    (facts_of s B σ (evolve r stop s.top_bin all σ.tick p) k.safe (evolve_safe r stop s.top_bin all σ.tick B p (subst (AreSafe B) (sym same) k.safe)) (evolve_coarse r stop s.top_bin h.bins_ordered all σ.tick p)
    (evolve_placed r stop s.top_bin σ.steps all σ.tick p (omega (arith, h.bin_high)) k.tick) (λ n. evolve_alone r stop s.top_bin all σ.tick p (same ∙ n)))

-- ---- after a whole base step

advanced_stands : (plan : Plan) (B : List BodyData) (σ : StateData) (p : Progress) → IsSetup plan.rules.gravity.setup → IsGoing plan.rules.gravity.setup B σ → AreSafe B p.bodies → Stands plan.rules.gravity.setup B (advanced plan p σ)
advanced_stands plan B σ p h k safe =
    let s = plan.rules.gravity.setup in
    let y = 2 ^ s.top_bin in
    let e : raised64 σ.steps 1 ≡ σ.steps + 1 = mod-eq_of_lt (omega (arith, few_begun s B σ h k)) in
    let f : raised64 σ.steps 1 * y ≡ (σ.steps + 1) * y = ap (λ n. n * y) e in
    record {
      safe = safe;
      depths = refl;
      tick = refl;
      near = omega (arith, f, k.begun);
      next_snapshot = k.next_snapshot;
      next_restart = k.next_restart;
      kicks = mod-lt _ (omega arith);
      interactions = mod-lt _ (omega arith);
    }

-- ---- inside a base step

depths_most : (Fs : List (List ℕ)) (most : ℕ) → length Fs ≤ most → (B : List BodyData) → AllByRecursion (λ depth. depth ≤ most) (depths_of Fs B)
depths_most Fs most l [] = tt
depths_most Fs most l (b ∷ B) = (omega (arith, l, count_by-le-length (λ F. has F b.id) Fs), depths_most Fs most l B)

pub whole_part : (n top u : ℕ) → n * 2 ^ top < u → u < (n + 1) * 2 ^ top → n ≡ u / 2 ^ top
whole_part n top u a b =
    let low : n ≤ u / 2 ^ top = (le-div_iff_mul-le {k = 2 ^ top} (pow_pos top)).1 (omega (arith, a)) in
    let high : u / 2 ^ top < n + 1 = (div-lt_iff_lt-mul {k = 2 ^ top} (pow_pos top)).1 b in
    omega (arith, low, high)

rest_good : (plan : Plan) (B : List BodyData) (σ : StateData) (p : Progress) (tick : ℕ) (Fs : List (List ℕ)) → IsSetup plan.rules.gravity.setup → IsGoing plan.rules.gravity.setup B σ →
    RestsAt plan.rules.gravity.setup B σ p tick Fs → IsGood plan.rules.gravity.setup B (kept (rested p tick Fs σ))
rest_good plan B σ p tick Fs h k f =
    let s = plan.rules.gravity.setup in
    record {
      safe = f.safe;
      room = record {
        steps = omega (arith, few_begun s B σ h k);
        tick = omega (arith, f.inside.before, k.begun, h.time_high, width_most s.top_bin h.bin_high);
        next_snapshot = k.next_snapshot;
        next_restart = mod-lt (σ.next_restart + 1) (omega arith);
        kicks = mod-lt _ (omega arith);
        interactions = mod-lt _ (omega arith);
      };
      goes = inr (record {
        some = f.some;
        each = length-map p.bodies (λ b. _);
        steps = whole_part σ.steps s.top_bin tick f.inside.after f.inside.before;
        running = k.begun;
        not_finest = omega (arith, f.inside.count, f.coarse);
        not_whole = f.inside.inner;
        shallow = depths_most Fs (s.top_bin - low_zeros tick) (omega (arith, f.inside.count)) p.bodies;
      });
    }

-- ---- a whole run

abbrev pub Further : Plan → Option ℕ → List BodyData → ℕ → Type 0
Further plan stop B n = (known : Bool) (d : SessionData) → Comes plan B d → AreKept plan.rules.gravity.setup B (session_from n plan stop known d)

later_keeps : (plan : Plan) (B : List BodyData) (b : Bool) (d e : SessionData) → AreKept plan.rules.gravity.setup B d → AreKept plan.rules.gravity.setup B e → AreKept plan.rules.gravity.setup B (cond b d e)
later_keeps plan B true d e h g = h
later_keeps plan B false d e h g = g

pub onward_keeps : (plan : Plan) (stop : Option ℕ) (B : List BodyData) (n : ℕ) → IsSetup plan.rules.gravity.setup → Further plan stop B n → (d : SessionData) → IsGoing plan.rules.gravity.setup B d.state → AreKept plan.rules.gravity.setup B d →
    (step : Stepped) → Facts plan.rules.gravity.setup B d.state step →
    AreKept plan.rules.gravity.setup B (onward n plan stop d step)
onward_keeps plan stop B n h more d k keeps (Going p) f =
    let before : Option ℕ = Some (d.state.steps * 2 ^ plan.rules.gravity.setup.top_bin) in
    let x : SessionData = record (with_trail p.trail d) { state = advanced plan p d.state } in
    let e = synchronised plan stop before x in
    let c : Comes plan B e = sync_comes plan B stop before x h (record { stands = advanced_stands plan B d.state p h k f; keeps = record { states = keeps.states; files = keeps.files } }) in
    later_keeps plan B (is_done e.end) (session_from n plan stop true e) e (more true e c) c.keeps
onward_keeps plan stop B n h more d k keeps (Refused p x) f = record { states = keeps.states; files = keeps.files }
onward_keeps plan stop B n h more d k keeps (Resting p tick Fs) f =
    let s = plan.rules.gravity.setup in
    let ρ = rested p tick Fs d.state in
    let g : IsGood s B (kept ρ) = rest_good plan B d.state p tick Fs h k f in
    record {
      states = all_more (IsFine s B) d.states ρ keeps.states (record { safe = g.safe; room = g.room; goes = inl g.goes });
      files = all_more (IsGoodFile s B) d.written (Restart ρ.next_restart (kept ρ)) keeps.files g;
    }

unless_over : (s : SetupData) (B : List BodyData) (a run : Bool) (d e : SessionData) → a ≡ true → AreKept s B d → (run ≡ true → AreKept s B e) → AreKept s B (cond (a && not run) d e)
unless_over s B false run d e t k f = absurd (false≢true t)
unless_over s B true true d e t k f = f refl
unless_over s B true false d e t k f = k

pub further : (plan : Plan) (stop : Option ℕ) (B : List BodyData) (n : ℕ) → IsSetup plan.rules.gravity.setup → Further plan stop B n
unfolding session_from
further plan stop B zero h known d k = k.keeps
further plan stop B (suc n) h known d k =
    let s = plan.rules.gravity.setup in
    unless_over s B (is_empty d.state.depths) (is_running plan d.state) d
    (onward n plan stop d (base_step plan stop known d.state))
    (ap is_empty k.stands.depths) k.keeps (λ run. onward_keeps plan stop B n h (further plan stop B n h) d (going_on s B d.state k.stands (ltb-true d.state.tick s.time_max run)) k.keeps (base_step plan stop known d.state) (step_facts plan stop known B d.state h k.stands))

pub run_keeps : (plan : Plan) (stop : Option ℕ) (σ : StateData) → IsFirst σ → IsSetup plan.rules.gravity.setup → AreKept plan.rules.gravity.setup σ.bodies (session plan false stop σ)
unfolding session
run_keeps plan stop σ f h =
    let s = plan.rules.gravity.setup in
    let z = f.start in
    let start : SessionData = record { state = σ; written = []; trail = []; states = []; questions = []; end = Done } in
    let stands : Stands s σ.bodies σ = record {
      safe = safe_first σ.bodies f.storable;
      depths = z.depths;
      tick = z.tick ∙ sym (ap (λ n. n * 2 ^ s.top_bin) z.steps ∙ zero_times (2 ^ s.top_bin));
      near = omega (arith, z.tick, pow_pos s.top_bin);
      next_snapshot = omega (arith, z.next_snapshot);
      next_restart = omega (arith, z.next_restart);
      kicks = omega (arith, z.kicks);
      interactions = omega (arith, z.interactions);
    } in
    further plan stop σ.bodies (s.time_max + 1) h false (synchronised plan stop None start) (sync_comes plan σ.bodies stop None start h (record { stands = stands; keeps = record { states = tt; files = tt } }))
  where
    zero_times : (y : ℕ) → 0 * y ≡ 0
    zero_times y = omega arith
