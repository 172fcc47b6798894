-- A base step of a run: from what a taker was told of it to what is left of it.
use Rattle.std.proofs.Common.{◌≡◌, ◌≤◌, ◌<◌, ◌⊎◌, inl, inr, ℕ, ◌+◌, ◌-◌, ◌*◌, ◌/◌, ◌^◌, Bool, true, false, cond, not, IsTrue, List, [], ◌∷◌, length, map, Option, Some, None, Ok, Err, Result, refl, ap, sym, ◌∙◌, subst, arith, count_by}
use Rattle.std.specs.Option.{IfSome}
use Rattle.std.proofs.lemmas.List.{length-append, length-map}
use Rattle.std.proofs.lemmas.Nat.{pow_pos}
use Rattle.std.proofs.Math.Nat.{pow-le-pow_right, mul-div_cancel, le-div_iff_mul-le, le-mul_of_pos_right, mul-le-mul_right}
use Rattle.store_io.specs.Causes.{Rose}
use Rattle.nbody_model.specs.Bodies.{BodyData, has}
use Rattle.nbody_model.specs.Fields.{FieldData}
use Rattle.nbody_model.specs.Setups.{SetupData, IsSetup, last_tick}
use Rattle.nbody_model.specs.Tables.{Gravity, ExpansionData, Reaches as HasReach, Rules}
use Rattle.nbody_model.specs.Evolve.{Progress, Refusal, MomRange, StepRange, Stepped, Going, Refused, Resting, is_empty, ask_if, evolve, depths_of, rests_of}
use Rattle.nbody_model.specs.States.{StateData, began}
use Rattle.nbody_model.specs.Continue.{continue}
use Rattle.nbody_model.specs.Session.{Plan, base_step, advanced, rested, raised64, raised128}
use Rattle.model_laws.specs.Conserved.{start_of}
use Rattle.restart_files.specs.Stored.{IsKept}
use Rattle.step_engine.specs.declared.step_end.StepCount.{StepCount}
use Rattle.step_engine.specs.declared.step_end.StepEnd.{StepEnd}
use Rattle.step_engine.specs.declared.step_end.StepEnd.TheVariants as ends
use Rattle.step_engine.specs.Taken.{Taken}
use Rattle.step_engine.specs.Told.{AreForcesAmong}
use Rattle.nbody_model.specs.Passes.{Passes}
use Rattle.step_engine.specs.Ends.{NoYes, LastYes, IsOutside}
use Rattle.step_engine.specs.BaseSteps.{Seen, Reaches, Counts, Goes, Refuses, RestsAt, StepEnds, StepCause, AreKnown, is_known, whole_step}
use Rattle.step_engine.specs.Resumed.{IsInside}
use Rattle.run_session.specs.declared.course.Progress.{Progress as Run}
use Rattle.run_session.specs.declared.step.Counters.{Counters}
use Rattle.run_session.specs.declared.step.Made.{Made}
use Rattle.run_session.specs.Numbers.{flag, recorder_numbers}
use Rattle.run_session.specs.Own.{Own, OwnTexts}
use Rattle.run_session.specs.Logs.{texts_taken, leaves, tells}
use Rattle.run_session.specs.Stages.{IsLogged, IsLastOf, IsWhole, IsAtRest, IsOut}
use Rattle.run_session.specs.Steps.{CanStep, IsRecorded, IsMade, StepMade, RestsWith, made_of, state_with, counted_by, stepped_by, step_end}
use Rattle.run_session.proofs.ToldTexts.{tells_none, tells_texts, logged}
use Rattle.run_session.proofs.Questions.{left_after, ends_in, EndsIn}
use Rattle.run_session.specs.Worlds.{World}

-- ---- the base step of a state, where no body has a depth, and where there are depths

base_whole : (plan : Plan) (known : Bool) (σ : StateData) → σ.depths ≡ [] → (stop : Option ℕ) → base_step plan stop known σ ≡ whole_step plan.rules known σ.bodies σ.tick stop
unfolding base_step
base_whole plan known σ h stop =
    let r = plan.rules in
    let all = map (λ (b : BodyData). b.id) σ.bodies in
    λ i. cond (is_empty (h i)) (evolve r stop r.gravity.setup.top_bin all σ.tick (ask_if (not known) all (start_of σ.bodies))) (continue r stop σ (start_of σ.bodies))

base_rest : (plan : Plan) (known : Bool) (σ : StateData) → is_empty σ.depths ≡ false → (stop : Option ℕ) → base_step plan stop known σ ≡ continue plan.rules stop σ (start_of σ.bodies)
unfolding base_step
base_rest plan known σ h stop =
    let r = plan.rules in
    let all = map (λ (b : BodyData). b.id) σ.bodies in
    λ i. cond (h i) (evolve r stop r.gravity.setup.top_bin all σ.tick (ask_if (not known) all (start_of σ.bodies))) (continue r stop σ (start_of σ.bodies))

no_depth : (s : SetupData) (B : List BodyData) (depths : List ℕ) (tick : ℕ) → ((depths ≡ []) × (began s.top_bin tick ≡ tick)) ⊎ IsInside s B depths tick → length depths ≡ 0 → (depths ≡ []) × (began s.top_bin tick ≡ tick)
no_depth s B depths tick (inl h) e = h
no_depth s B depths tick (inr h) e = absurd (omega (arith, e, h.some, h.each))

some_depths : (depths : List ℕ) → (length depths ≡ 0 → ⊥) → is_empty depths ≡ false
some_depths [] h = absurd (h refl)
some_depths (d ∷ depths) h = refl

module _ (g : Gravity) (passes : Passes) (A Z : Seen) (plan : Plan) (r : Rules) (known : Bool) (σ : StateData) (same : plan.rules ≡ r) where
  pub begins_whole : (s : SetupData) (B : List BodyData) (depths : List ℕ) (t : ℕ) (answer : Result StepCount StepEnd) → σ.bodies ≡ B → σ.depths ≡ depths → σ.tick ≡ t →
      ((depths ≡ []) × (began s.top_bin t ≡ t)) ⊎ IsInside s B depths t → length depths ≡ 0 →
      StepEnds g passes A Z (whole_step r known B t) t (t + 2 ^ s.top_bin) answer → StepEnds g passes A Z (λ stop. base_step plan stop known σ) t (began s.top_bin t + 2 ^ s.top_bin) answer
  begins_whole s B depths t answer b d e here none ends =
      let h = no_depth s B depths t here none in
      let f : (stop : Option ℕ) → base_step plan stop known σ ≡ whole_step r known B t stop = λ stop. base_whole plan known σ (d ∙ h.0) stop ∙ (λ i. whole_step (same i) known (b i) (e i) stop) in
      subst (λ (x : Option ℕ → Stepped). StepEnds g passes A Z x t (began s.top_bin t + 2 ^ s.top_bin) answer) (sym (λ i stop. f stop i))
      (subst (λ n. StepEnds g passes A Z (whole_step r known B t) t (n + 2 ^ s.top_bin) answer) (sym h.1) ends)

  pub begins_rest : (depths : List ℕ) (from to : ℕ) (answer : Result StepCount StepEnd) → σ.depths ≡ depths → (length depths ≡ 0 → ⊥) →
      StepEnds g passes A Z (λ stop. continue r stop σ (start_of σ.bodies)) from to answer → StepEnds g passes A Z (λ stop. base_step plan stop known σ) from to answer
  begins_rest depths from to answer d some ends =
      let f : (stop : Option ℕ) → base_step plan stop known σ ≡ continue r stop σ (start_of σ.bodies) = λ stop. base_rest plan known σ (ap is_empty d ∙ some_depths depths some) stop ∙ (λ i. continue (same i) stop σ (start_of σ.bodies)) in
      subst (λ (x : Option ℕ → Stepped). StepEnds g passes A Z x from to answer) (sym (λ i stop. f stop i)) ends

-- ---- where it begins

whole_of_tick : (top n tick : ℕ) → tick ≡ n * 2 ^ top → began top tick ≡ n * 2 ^ top
whole_of_tick top n tick e = ap (λ k. k / 2 ^ top * 2 ^ top) e ∙ ap (λ k. k * 2 ^ top) (mul-div_cancel n {n = 2 ^ top} (pow_pos top))

-- the base step that a state is in ends by the last tick
last_reached : (s : SetupData) (n : ℕ) → n * 2 ^ s.top_bin < s.time_max → (n + 1) * 2 ^ s.top_bin ≤ last_tick s
last_reached s n h =
    let w = 2 ^ s.top_bin in
    let pos : 1 ≤ w = pow_pos s.top_bin in
    let up : n + 1 ≤ (s.time_max + w - 1) / w = (le-div_iff_mul-le {k = w} pos).1 (omega (arith, h, pos)) in
    mul-le-mul_right w up

pub begun_at : (s : SetupData) (σ : StateData) → IsKept s σ → began s.top_bin σ.tick ≡ σ.steps * 2 ^ s.top_bin
begun_at s σ (inl h) = whole_of_tick s.top_bin σ.steps σ.tick h.tick
begun_at s σ (inr h) = ap (λ n. n * 2 ^ s.top_bin) (sym h.steps)

begun_early : (s : SetupData) (σ : StateData) → IsKept s σ → σ.steps * 2 ^ s.top_bin < s.time_max
begun_early s σ (inl h) = subst (λ t. t < s.time_max) h.tick h.running
begun_early s σ (inr h) = h.running

begun_here : (s : SetupData) (σ : StateData) → IsKept s σ → ((σ.depths ≡ []) × (began s.top_bin σ.tick ≡ σ.tick)) ⊎ IsInside s σ.bodies σ.depths σ.tick
begun_here s σ (inl h) = inl (h.depths, whole_of_tick s.top_bin σ.steps σ.tick h.tick ∙ sym h.tick)
begun_here s σ (inr h) = inr (record { some = h.some; each = h.each; not_finest = h.not_finest; not_whole = h.not_whole; shallow = h.shallow })

reach_to : (e : Option ExpansionData) (a b : ℕ) → b ≤ a → IfSome e (λ table. HasReach table a) → IfSome e (λ table. HasReach table b)
reach_to None a b h r = tt
reach_to (Some table) a b h r = omega (arith, h, r)

pub can_step : (s : SetupData) (e : Option ExpansionData) (σ : StateData) → IsSetup s → IfSome e (λ table. HasReach table (last_tick s)) → IsKept s σ → CanStep s e σ.bodies σ.depths σ.tick
can_step s e σ l r k =
    let at = begun_at s σ k in
    let low = begun_early s σ k in
    record {
      here = begun_here s σ k;
      early = omega (arith, at, low, l.time_high);
      spans = reach_to e (last_tick s) (began s.top_bin σ.tick + 2 ^ s.top_bin) (omega (arith, at, last_reached s σ.steps low)) r;
    }

-- its tick has room
pub has_room : (s : SetupData) (σ : StateData) → IsSetup s → IsKept s σ → (σ.steps + 1) * 2 ^ s.top_bin < 2 ^ 64
has_room s σ l k =
    let low = begun_early s σ k in
    let w = 2 ^ s.top_bin in
    let short : w ≤ 2 ^ 20 = pow-le-pow_right {n = 2} (omega arith) {i = s.top_bin} {j = 20} l.bin_high in
    omega (arith, low, short, l.time_high)

few_steps : (s : SetupData) (σ : StateData) → IsSetup s → IsKept s σ → σ.steps + 1 < 2 ^ 64
few_steps s σ l k = let pos : 1 ≤ 2 ^ s.top_bin = pow_pos s.top_bin in omega (arith, has_room s σ l k, le-mul_of_pos_right {m = 2 ^ s.top_bin} (σ.steps + 1) pos)

-- ---- the forces that are known at its end

known_forces : (g : Gravity) (B : List BodyData) (count : StepCount) (field : Option FieldData) → AreKnown (Ok count) g B field → is_known field ≡ true
known_forces g B count None h = absurd h
known_forces g B count (Some f) h = refl

forces_there : (g : Gravity) (B C : List BodyData) (count : StepCount) (field : Option FieldData) → C ≡ B → AreKnown (Ok count) g B field → IfSome field (AreForcesAmong g C)
forces_there g B C count None e h = tt
forces_there g B C count (Some f) e h = subst (λ x. AreForcesAmong g x f) (sym e) h

some_same : {X : Type 0} {x y : X} → Some x ≡ Some y → x ≡ y
some_same e = cc

-- ---- what is left of it

abbrev no_texts : OwnTexts
no_texts = record { kicks = []; trace = []; bins = [] }

module _ (plan : Plan) (o : Own) (passes : Passes) (known : Bool) (σ : StateData) (B : List BodyData) (log : OwnTexts) (A Z : World) where
  abbrev Before : Bool → Bool → Seen
  Before traced binned = record { bodies = σ.bodies; state = A.state; took = tells traced binned no_texts A.left }

  abbrev After : Bool → Bool → Seen
  After traced binned = record { bodies = B; state = Z.state; took = tells traced binned log Z.left }

  module _ (traced binned : Bool) (t : IfSome o.trace (λ _. traced ≡ true)) (b : IfSome o.bins (λ _. binned ≡ true)) where
    abbrev g : Gravity
    g = plan.rules.gravity

    -- what the taker tells of the entries
    told : (K : List Taken → Type 0) (p : Progress) → (h : Reaches g passes (Before traced binned) (After traced binned) K p) → (log ≡ texts_taken traced binned h.entries) × IsTrue (leaves A.left h.entries Z.left)
    told K p h = tells_texts traced binned log Z.left A.left h.entries (h.took A.left [] (tells_none traced binned A.left))

    kept : (K : List Taken → Type 0) (p : Progress) → (h : Reaches g passes (Before traced binned) (After traced binned) K p) → IsLogged o passes p.trail A.state Z.state log
    kept K p h = logged o g passes traced binned t b p.trail h.entries A.state Z.state log h.told (told K p h).0

    whole_by : (count : StepCount) (τ : StateData) (stop : Option ℕ) (s : Stepped) → base_step plan stop known σ ≡ s → ((p : Progress) → p.bodies ≡ B → Counts p.trail count → τ ≡ advanced plan p σ) →
        Goes g passes (Before traced binned) (After traced binned) count s → IsWhole plan o passes known σ τ log A Z stop
    whole_by count τ stop (Going p) e f h = record {
      p = p;
      is = e;
      state = f p h.0.bodies h.1;
      logged = kept NoYes p h.0;
      left = left_after g h.0.entries p.trail A.left Z.left (told NoYes p h.0).1 h.0.kind h.0.told.each;
    }
    whole_by count τ stop (Refused p x) e f h = absurd h
    whole_by count τ stop (Resting p tick Fs) e f h = absurd h

    out_by : (why : Refusal) (s : Stepped) → base_step plan None known σ ≡ s → Refuses g passes (Before traced binned) (After traced binned) why s → IsOut plan o passes known σ why log A Z
    out_by why (Refused p x) e h = record {
      p = p;
      is = e ∙ ap (Refused p) h.0;
      logged = kept NoYes p h.1;
      left = left_after g h.1.entries p.trail A.left Z.left (told NoYes p h.1).1 h.1.kind h.1.told.each;
    }
    out_by why (Going p) e h = absurd h
    out_by why (Resting p tick Fs) e h = absurd h

    last_of : (left : Option ℕ) (tick : ℕ) (ticks : List ℕ) → EndsIn left tick ticks → IsLastOf left ticks
    last_of None tick ticks h = tt
    last_of (Some l) tick ticks h = let c = h.count in omega (arith, c, ap length h.is, length-append h.front (tick ∷ []))

    rest_by : (depth : List ℕ) (count : StepCount) (τ : StateData) (s : Stepped) → base_step plan (Some τ.tick) known σ ≡ s →
        ((p : Progress) (Fs : List (List ℕ)) → p.bodies ≡ B → depth ≡ depths_of Fs B → Counts p.trail count → τ ≡ rested p τ.tick Fs σ) → Rose A.yes Z.yes →
        RestsAt g passes (Before traced binned) (After traced binned) τ.tick depth count s → IsAtRest plan o passes known σ τ log A Z
    rest_by depth count τ (Resting p tick Fs) e f y h = record {
      p = p;
      parts = Fs;
      is = e ∙ ap (λ n. Resting p n Fs) h.0;
      state = f p Fs h.2.bodies h.1 h.3;
      logged = kept (LastYes τ.tick) p h.2;
      yes = y;
      left = last_of A.left τ.tick (rests_of p.trail) (ends_in g τ.tick h.2.entries p.trail A.left Z.left (told (LastYes τ.tick) p h.2).1 h.2.kind h.2.told.each);
    }
    rest_by depth count τ (Going p) e f y h = absurd h
    rest_by depth count τ (Refused p x) e f y h = absurd h

  -- so far it was counted; the counters of the state are those after the step
  advanced_by : (n : Counters) (B₀ : List BodyData) (D₀ : List ℕ) (count : StepCount) (τ : StateData) → state_with B₀ D₀ n ≡ σ → n.steps + 1 < 2 ^ 64 → τ ≡ state_with B [] (stepped_by plan.rules.gravity.setup.top_bin count n) →
      (p : Progress) → p.bodies ≡ B → Counts p.trail count → τ ≡ advanced plan p σ
  advanced_by n B₀ D₀ count τ e few t p b c =
      let top = plan.rules.gravity.setup.top_bin in
      let more : n.steps + 1 ≡ raised64 n.steps 1 = omega arith in
      t ∙ (λ i. record {
        bodies = sym b i;
        depths = [];
        steps = more i;
        tick = more i * 2 ^ top;
        next_snapshot = n.next_snapshot;
        next_restart = n.next_restart;
        kicks = raised64 n.kicks (c.kicks i);
        interactions = raised128 n.interactions (c.interactions i);
      }) ∙ ap (advanced plan p) e

  rested_by : (n : Counters) (B₀ : List BodyData) (D₀ depth : List ℕ) (tick : ℕ) (count : StepCount) → state_with B₀ D₀ n ≡ σ →
      (p : Progress) (Fs : List (List ℕ)) → p.bodies ≡ B → depth ≡ depths_of Fs B → Counts p.trail count → state_with B depth (record (counted_by count n) { tick = tick }) ≡ rested p tick Fs σ
  rested_by n B₀ D₀ depth tick count e p Fs b d c =
      (λ i. record {
        bodies = sym b i;
        depths = (d ∙ ap (depths_of Fs) (sym b)) i;
        steps = n.steps;
        tick = tick;
        next_snapshot = n.next_snapshot;
        next_restart = n.next_restart;
        kicks = raised64 n.kicks (c.kicks i);
        interactions = raised128 n.interactions (c.interactions i);
      }) ∙ ap (rested p tick Fs) e

  -- ---- its ends

  end_is : began plan.rules.gravity.setup.top_bin σ.tick ≡ σ.steps * 2 ^ plan.rules.gravity.setup.top_bin → began plan.rules.gravity.setup.top_bin σ.tick + 2 ^ plan.rules.gravity.setup.top_bin ≡ step_end plan σ
  end_is e = omega (arith, e)

  pub whole_made : (n : Counters) (B₀ : List BodyData) (D₀ : List ℕ) (count : StepCount) (next : Run) → IsSetup plan.rules.gravity.setup → IsKept plan.rules.gravity.setup σ → state_with B₀ D₀ n ≡ σ →
      next.state ≡ state_with B [] (stepped_by plan.rules.gravity.setup.top_bin count n) → AreKnown (Ok count) plan.rules.gravity B next.known → IsRecorded plan o passes known σ B log A Z (Ok count) → IsMade plan o passes known σ log A Z next
  whole_made n B₀ D₀ count next limits kept e t k r =
      let few : n.steps + 1 < 2 ^ 64 = subst (λ (τ : StateData). τ.steps + 1 < 2 ^ 64) (sym e) (few_steps plan.rules.gravity.setup σ limits kept) in
      let to = end_is (begun_at plan.rules.gravity.setup σ kept) in
      record {
        whole = λ stop out. whole_by r.traced r.binned r.keeps_trace r.keeps_bins count next.state stop (base_step plan stop known σ) refl (advanced_by n B₀ D₀ count next.state e few t) (r.ends stop (subst (λ u. IsOutside σ.tick u stop) (sym to) out));
        yes = r.cause.1;
        has_forces = known_forces plan.rules.gravity B count next.known k;
        forces = forces_there plan.rules.gravity B next.state.bodies count next.known (ap (λ (τ : StateData). τ.bodies) t) k;
      }

  pub halt_made : (n : Counters) (B₀ : List BodyData) (D₀ : List ℕ) (end : StepEnd) (m : Made) → IsKept plan.rules.gravity.setup σ → state_with B₀ D₀ n ≡ σ → made_of B n end ≡ Some m → IsRecorded plan o passes known σ B log A Z (Err end) → StepMade plan o passes known σ log A Z m
  halt_made n B₀ D₀ (ends.MomRange tick bin id axis) m kept e h r =
      subst (StepMade plan o passes known σ log A Z) (some_same h) (out_by r.traced r.binned r.keeps_trace r.keeps_bins (MomRange tick bin id axis) (base_step plan None known σ) refl r.ends, r.cause.1)
  halt_made n B₀ D₀ (ends.StepRange tick id) m kept e h r =
      subst (StepMade plan o passes known σ log A Z) (some_same h) (out_by r.traced r.binned r.keeps_trace r.keeps_bins (StepRange tick id) (base_step plan None known σ) refl r.ends, r.cause.1)
  halt_made n B₀ D₀ (ends.Rest tick depth count) m kept e h r =
      let to = end_is (begun_at plan.rules.gravity.setup σ kept) in
      let τ = state_with B depth (record (counted_by count n) { tick = tick }) in
      subst (StepMade plan o passes known σ log A Z) (some_same h) (
        r.ends.0,
        subst (λ u. tick < u) to r.ends.1,
        rest_by r.traced r.binned r.keeps_trace r.keeps_bins depth count τ (base_step plan (Some tick) known σ) refl (rested_by n B₀ D₀ depth tick count e) r.cause.1 r.ends.2,
      )
  halt_made n B₀ D₀ ends.OutFault m kept e h r = cc
  halt_made n B₀ D₀ ends.Memory m kept e h r = cc

  rest_length : (traced binned : Bool) (tick : ℕ) (depth : List ℕ) (count : StepCount) (s : Stepped) → RestsAt plan.rules.gravity passes (Before traced binned) (After traced binned) tick depth count s → length depth ≡ length B
  rest_length traced binned tick depth count (Resting p at Fs) h = ap length h.1 ∙ length-map B (λ (b : BodyData). count_by (λ F. has F b.id) Fs)
  rest_length traced binned tick depth count (Going p) h = absurd h
  rest_length traced binned tick depth count (Refused p x) h = absurd h

  -- a rest has a depth for each body
  pub rests_with : (end : StepEnd) → IsRecorded plan o passes known σ B log A Z (Err end) → RestsWith B end
  rests_with (ends.MomRange tick bin id axis) r = tt
  rests_with (ends.StepRange tick id) r = tt
  rests_with (ends.Rest tick depth count) r = rest_length r.traced r.binned tick depth count (base_step plan (Some tick) known σ) r.ends.2
  rests_with ends.OutFault r = tt
  rests_with ends.Memory r = tt

-- ---- as it was recorded

-- what differs between what was told to a taker and what is said of it
record Told : Type 0 where
  pub gravity : Gravity
  pub top : ℕ
  pub bodies : List BodyData
  pub tick : ℕ
  pub traced : Bool
  pub binned : Bool
  pub log : OwnTexts
  pub left : Option ℕ
  pub now_traced : Bool
  pub now_binned : Bool
  pub now_log : OwnTexts
  pub now_left : Option ℕ

abbrev ends_told : Passes → (Option ℕ → Stepped) → List BodyData → List ℕ → List ℕ → Result StepCount StepEnd → Told → Type 0
ends_told passes step B a z ended w =
    StepEnds w.gravity passes (record { bodies = w.bodies; state = a; took = tells w.traced w.binned w.log w.left }) (record { bodies = B; state = z; took = tells w.now_traced w.now_binned w.now_log w.now_left }) step w.tick (began w.top w.tick + 2 ^ w.top) ended

flag_same : (a b : Bool) → flag a ≡ flag b → a ≡ b
flag_same true true e = refl
flag_same false false e = refl
flag_same true false e = cc
flag_same false true e = cc

same_traced : (k l m n : ℕ) (a b c d : Bool) → recorder_numbers k m a b ≡ recorder_numbers l n c d → a ≡ c
same_traced k l m n a b c d e = flag_same a c cc

same_binned : (k l m n : ℕ) (a b c d : Bool) → recorder_numbers k m a b ≡ recorder_numbers l n c d → b ≡ d
same_binned k l m n a b c d e = flag_same b d cc

pub recorded : (plan : Plan) (o : Own) (passes : Passes) (known : Bool) (σ : StateData) (B : List BodyData) (log : OwnTexts) (A Z : World) (ended : Result StepCount StepEnd) (traced binned : Bool) → IfSome o.trace (λ _. traced ≡ true) → IfSome o.bins (λ _. binned ≡ true) →
    (g : Gravity) (top : ℕ) (bodies : List BodyData) (tick : ℕ) (t b : Bool) (first : OwnTexts) (left : Option ℕ) (t' b' : Bool) (log' : OwnTexts) (left' : Option ℕ) (k l m n : ℕ) → plan.rules.gravity ≡ g → g.setup.top_bin ≡ top → σ.bodies ≡ bodies → σ.tick ≡ tick →
    t ≡ traced → b ≡ binned → first ≡ no_texts → left ≡ A.left → recorder_numbers k m t' b' ≡ recorder_numbers l n t b → log' ≡ log → left' ≡ Z.left →
    StepEnds g passes (record { bodies = bodies; state = A.state; took = tells t b first left }) (record { bodies = B; state = Z.state; took = tells t' b' log' left' }) (λ stop. base_step plan stop known σ) tick (began top tick + 2 ^ top) ended →
    StepCause ended 0 0 A.yes Z.yes → IsRecorded plan o passes known σ B log A Z ended
recorded plan o passes known σ B log A Z ended traced binned ht hb g top bodies tick t b first left t' b' log' left' k l m n eg et es ek e1 e2 e3 e4 e5 e6 e7 h c = record {
  traced = traced;
  binned = binned;
  keeps_trace = ht;
  keeps_bins = hb;
  ends = subst (ends_told passes (λ stop. base_step plan stop known σ) B A.state Z.state ended) (λ i. record {
    gravity = sym eg i;
    top = sym (ap (λ (x : Gravity). x.setup.top_bin) eg ∙ et) i;
    bodies = sym es i;
    tick = sym ek i;
    traced = e1 i;
    binned = e2 i;
    log = e3 i;
    left = e4 i;
    now_traced = (same_traced k l m n t' b' t b e5 ∙ e1) i;
    now_binned = (same_binned k l m n t' b' t b e5 ∙ e2) i;
    now_log = e6 i;
    now_left = e7 i;
  }) h;
  cause = c;
}
