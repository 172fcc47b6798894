-- Sessions conserve ids, kinds, masses and the momentum of all bodies together.
use Rattle.std.proofs.Common.{◌≡◌, ◌≤◌, ℕ, zero, suc, ◌+◌, ◌*◌, ◌^◌, Bool, true, false, cond, not, ◌&&◌, ◌||◌, ◌==◌, pos, List, [], ◌∷◌, ◌++◌, length, map, sum_by, Option, Some, None, refl, ap, sym, ◌∙◌, subst}
use Rattle.std.specs.List.{AllByRecursion}
use Rattle.std.specs.List.Sorted.{IsStrictlyIncreasing}
use Rattle.std.proofs.lemmas.List.{length-map}
use Rattle.std.proofs.lemmas.List.Folds.{fold-map}
use Rattle.std.proofs.lemmas.Grind.{flat_map-append}
use Rattle.fixed_point.specs.declared.V3.{V3}
use Rattle.fixed_point.proofs.Euclid.{rem_below}
use Rattle.cell_space.specs.Cells.{InBox}
use Rattle.nbody_model.specs.Bodies.{BodyData, has, only, total}
use Rattle.nbody_model.specs.Setups.{SetupData}
use Rattle.nbody_model.specs.Tables.{Rules}
use Rattle.nbody_model.specs.Steps.{at_each, drifted, drift, change, kicked_by, kicked_bodies, first_out}
use Rattle.nbody_model.specs.Evolve.{Happening, Binned, Asked, Kicked, Rested, record_in, records_of, Progress, tell, MomRange, Stepped, Going, Refused, Resting, record_of, is_empty, ask_if, kick, evolve}
use Rattle.nbody_model.specs.States.{StateData}
use Rattle.nbody_model.specs.Continue.{continue}
use Rattle.nbody_model.specs.Session.{Plan, SessionData, Done, Stopped, OutOfRange, with_snapshot, with_restart, is_due, is_kept, is_running, is_stop, synchronised, advanced, rested, with_trail, base_step, is_done, session_from, session}
use Rattle.model_laws.specs.Laws.{AreBodies}
use Rattle.model_laws.specs.Still.{SamePlaces}
use Rattle.model_laws.specs.Preserved.{IsPart, Holds, IsPreserved}
use Rattle.model_laws.specs.Conserved.{unmoved, tells, IsConserved, start_of, EvolvesConserve, ContinuesConserve, SessionsConserve}
use Rattle.model_laws.proofs.Still.{map-mapped, map-same, kicks_move_nothing, positions_still}
use Rattle.model_laws.proofs.Kept.{kick_keeps, drift_total}
use Rattle.model_laws.proofs.Preserved.{evolves, continues}

-- ---- lists

all_mapped : {X Y : Type 0} (Q : Y → Type 0) (h : X → Y) (xs : List X) → AllByRecursion Q (map h xs) → AllByRecursion (λ x. Q (h x)) xs
all_mapped Q h [] a = tt
all_mapped Q h (x ∷ xs) a = (a.0, all_mapped Q h xs a.1)

pub mapped_all : {X Y : Type 0} (Q : Y → Type 0) (h : X → Y) (xs : List X) → AllByRecursion (λ x. Q (h x)) xs → AllByRecursion Q (map h xs)
mapped_all Q h [] a = tt
mapped_all Q h (x ∷ xs) a = (a.0, mapped_all Q h xs a.1)

all_joined : {X : Type 0} (Q : X → Type 0) (xs ys : List X) → AllByRecursion Q xs → AllByRecursion Q ys → AllByRecursion Q (xs ++ ys)
all_joined Q [] ys a b = b
all_joined Q (x ∷ xs) ys a b = (a.0, all_joined Q xs ys a.1 b)

-- ---- bodies that moved

of_unmoved : {X : Type 0} (get : BodyData → X) → ((b : BodyData) → get (unmoved b) ≡ get b) → (B C : List BodyData) → map unmoved C ≡ map unmoved B → map get C ≡ map get B
of_unmoved get same B C e =
    let one : (D : List BodyData) → map get (map unmoved D) ≡ map get D = λ D. map-mapped get unmoved D ∙ map-same (λ b. get (unmoved b)) get same D in
    sym (one C) ∙ ap (map get) e ∙ one B

light_moved : (B C : List BodyData) → map (λ b. b.mass) C ≡ map (λ b. b.mass) B → sum_by (λ b. b.mass) C ≡ sum_by (λ b. b.mass) B
light_moved B C e = sym (fold-map (λ a m. a + m) (λ b. b.mass) 0 C) ∙ ap (sum_by (λ m. m)) e ∙ fold-map (λ a m. a + m) (λ b. b.mass) 0 B

are_moved : (B C : List BodyData) → map unmoved C ≡ map unmoved B → AllByRecursion (λ b. InBox b.motion.pos) C → AreBodies B → AreBodies C
are_moved B C e box a =
    let ids : map (λ b. b.id) C ≡ map (λ b. b.id) B = of_unmoved (λ b. b.id) (λ b. refl) B C e in
    let masses : map (λ b. b.mass) C ≡ map (λ b. b.mass) B = of_unmoved (λ b. b.mass) (λ b. refl) B C e in
    let lengths : length C ≡ length B = sym (length-map C (λ b. b.id)) ∙ ap length ids ∙ length-map B (λ b. b.id) in
    record {
      valid = record {
        ascending = subst IsStrictlyIncreasing (sym ids) a.valid.ascending;
        few = subst (λ n. n ≤ 1048576) (sym lengths) a.valid.few;
        light = subst (λ n. n ≤ 2 ^ 32) (sym (light_moved B C masses)) a.valid.light;
      };
      heavy = all_mapped (λ m. 1 ≤ m) (λ b. b.mass) C (subst (AllByRecursion (λ m. 1 ≤ m)) (sym masses) (mapped_all (λ m. 1 ≤ m) (λ b. b.mass) B a.heavy));
      in_box = box;
    }

-- ---- the drift

drifted_in : (s : SetupData) (ticks : ℕ) (b : BodyData) → InBox (drifted s ticks b).motion.pos
drifted_in s ticks b = record { below_x = rem_below _; below_y = rem_below _; below_z = rem_below _ }

drift_step : (s : SetupData) (ticks : ℕ) (b : BodyData) (t : Bool) → InBox b.motion.pos → InBox (cond t (drifted s ticks b) b).motion.pos
drift_step s ticks b true h = drifted_in s ticks b
drift_step s ticks b false h = h

drift_in : (s : SetupData) (P : List ℕ) (ticks : ℕ) (B : List BodyData) → AllByRecursion (λ b. InBox b.motion.pos) B → AllByRecursion (λ b. InBox b.motion.pos) (drift s P ticks B)
drift_in s P ticks [] a = tt
drift_in s P ticks (b ∷ B) a = (drift_step s ticks b (has P b.id) a.0, drift_in s P ticks B a.1)

unmoved_step : (f : BodyData → BodyData) → ((b : BodyData) → unmoved (f b) ≡ unmoved b) → (b : BodyData) (t : Bool) → unmoved (cond t (f b) b) ≡ unmoved b
unmoved_step f e b true = e b
unmoved_step f e b false = refl

at_each_same : (f : BodyData → BodyData) → ((b : BodyData) → unmoved (f b) ≡ unmoved b) → (P : List ℕ) (B : List BodyData) → map unmoved (at_each P f B) ≡ map unmoved B
at_each_same f e P B =
    map-mapped unmoved (λ b. cond (has P b.id) (f b) b) B ∙ map-same (λ b. unmoved (cond (has P b.id) (f b) b)) unmoved (λ b. unmoved_step f e b (has P b.id)) B

-- ---- the kick

places_in : (B C : List BodyData) → SamePlaces C B → AllByRecursion (λ b. InBox b.motion.pos) B → AllByRecursion (λ b. InBox b.motion.pos) C
places_in B C e a =
    let same : map (λ b. b.motion.pos) C ≡ map (λ b. b.motion.pos) B = sym (positions_still C) ∙ ap (map (λ b. b.motion.pos)) e ∙ positions_still B in
    all_mapped InBox (λ b. b.motion.pos) C (subst (AllByRecursion InBox) (sym same) (mapped_all InBox (λ b. b.motion.pos) B a))

-- a trail with more
told_more : (p : V3) (trail more : List Happening) → AllByRecursion (tells p) (records_of trail) → AllByRecursion (tells p) (records_of more) → AllByRecursion (tells p) (records_of (trail ++ more))
told_more p trail more a b = subst (AllByRecursion (tells p)) (sym (flat_map-append record_in trail more)) (all_joined (tells p) (records_of trail) (records_of more) a b)

-- what holds of a step's progress, from the bodies B on
abbrev going : List BodyData → Progress → Type 0
going B p = IsConserved B p.bodies p.trail

quiet : (B : List BodyData) (what : Happening) (p : Progress) → AllByRecursion (tells (total B)) (record_in what ++ []) → going B p → going B (tell what p)
quiet B what p n k = record { bodies = k.bodies; same = k.same; momentum = k.momentum; told = told_more (total B) p.trail (what ∷ []) k.told n }

pub drift_goes : (s : SetupData) (B : List BodyData) (P : List ℕ) (ticks : ℕ) (p : Progress) → going B p → going B (record p { bodies = drift s P ticks p.bodies })
drift_goes s B P ticks p k =
    let same = at_each_same (drifted s ticks) (λ b. refl) P p.bodies in
    record {
      bodies = are_moved p.bodies (drift s P ticks p.bodies) same (drift_in s P ticks p.bodies k.bodies.in_box) k.bodies;
      same = same ∙ k.same;
      momentum = drift_total s P ticks p.bodies ∙ k.momentum;
      told = k.told;
    }

-- after a kick
abbrev pub kicked_by_all : Rules → List ℕ → List ℕ → ℕ → List BodyData → List BodyData
kicked_by_all r P F h B = kicked_bodies h P (change r.gravity P F B) B

pub kick_goes : (r : Rules) (B : List BodyData) (bin tick h : ℕ) (P F : List ℕ) (p : Progress) → IsPart F P → going B p →
    going B (tell (Kicked (record_of r tick bin P F p.bodies (kicked_by_all r P F h p.bodies))) (record p { bodies = kicked_by_all r P F h p.bodies }))
kick_goes r B bin tick h P F p part k =
    let v = change r.gravity P F p.bodies in
    let C = kicked_by_all r P F h p.bodies in
    let same : map unmoved C ≡ map unmoved p.bodies = at_each_same (λ b. record b { motion = record { pos = b.motion.pos; mom = kicked_by h b.motion.mom (v b) } }) (λ b. refl) P p.bodies in
    let sum : total C ≡ total B = kick_keeps r.gravity P F p.bodies k.bodies part h ∙ k.momentum in
    record {
      bodies = are_moved p.bodies C same (places_in p.bodies C (kicks_move_nothing h P v p.bodies) k.bodies.in_box) k.bodies;
      same = same ∙ k.same;
      momentum = sum;
      told = told_more (total B) p.trail (Kicked (record_of r tick bin P F p.bodies C) ∷ []) k.told ((λ i. (sum i).x ∷ (sum i).y ∷ (sum i).z ∷ []), tt);
    }

kick_ends : (B : List BodyData) (p q : Progress) (bin tick : ℕ) (out : Option (ℕ × ℕ)) → going B p → going B q →
    Holds (going B) (elim out [ Some first ↦ Refused p (MomRange tick bin first.0 first.1) | None ↦ Going q ])
kick_ends B p q bin tick None h g = g
kick_ends B p q bin tick (Some first) h g = h

preserved : (r : Rules) (B : List BodyData) → IsPreserved r (going B)
unfolding kick
preserved r B = record {
  binned = λ F p k. quiet B (Binned F) p tt k;
  asked = λ C p k. quiet B (Asked C) p tt k;
  rested = λ tick p k. quiet B (Rested tick) p tt k;
  drifted = λ P ticks p k. drift_goes r.gravity.setup B P ticks p k;
  kicked = λ bin tick h P F p part k.
      kick_ends B p (tell (Kicked (record_of r tick bin P F p.bodies (kicked_by_all r P F h p.bodies))) (record p { bodies = kicked_by_all r P F h p.bodies })) bin tick
      (cond (h == 0) None (first_out (only (kicked_by_all r P F h p.bodies) P))) k (kick_goes r B bin tick h P F p part k);
}

-- ---- sessions

-- what holds of a session so far
abbrev lasting : List BodyData → SessionData → Type 0
lasting B d = IsConserved B d.state.bodies d.trail

shown_lasts : (B : List BodyData) (b : Bool) (d : SessionData) → lasting B d → lasting B (with_snapshot b d)
shown_lasts B true d k = k
shown_lasts B false d k = k

saved_lasts : (B : List BodyData) (b : Bool) (d : SessionData) → lasting B d → lasting B (with_restart b d)
saved_lasts B true d k = k
saved_lasts B false d k = k

told_lasts : (B : List BodyData) (b : Bool) (d : SessionData) (tick : ℕ) → lasting B d → lasting B (cond b (record d { questions = d.questions ++ tick ∷ [] }) d)
told_lasts B true d tick k = k
told_lasts B false d tick k = k

synchronised_lasts : (B : List BodyData) (plan : Plan) (stop before : Option ℕ) (d : SessionData) → lasting B d → lasting B (synchronised plan stop before d)
unfolding synchronised
synchronised_lasts B plan stop before d k =
    let tick = d.state.tick in
    let running = is_running plan d.state in
    let asks : Bool = elim before [ None ↦ false | Some w ↦ running ] in
    let shown = with_snapshot (is_due plan before tick || not running) d in
    let told : SessionData = cond asks (record shown { questions = shown.questions ++ tick ∷ [] }) shown in
    saved_lasts B (is_kept plan d.state || (asks && is_stop stop tick)) told (told_lasts B asks shown tick (shown_lasts B (is_due plan before tick || not running) d k))

either_step : (I : Progress → Type 0) (b : Bool) (s t : Stepped) → Holds I s → Holds I t → Holds I (cond b s t)
either_step I true s t h g = h
either_step I false s t h g = g

asks_first : (B : List BodyData) (b : Bool) (P : List ℕ) (p : Progress) → going B p → going B (ask_if b P p)
asks_first B true P p k = quiet B (Asked (only p.bodies P)) p tt k
asks_first B false P p k = k

base_steps : (plan : Plan) (stop : Option ℕ) (known : Bool) (B : List BodyData) (σ : StateData) → IsConserved B σ.bodies [] → Holds (going B) (base_step plan stop known σ)
unfolding base_step
base_steps plan stop known B σ k =
    let all = map (λ b. b.id) σ.bodies in
    let start : Progress = record { bodies = σ.bodies; trail = [] } in
    either_step (going B) (is_empty σ.depths) (evolve plan.rules stop plan.rules.gravity.setup.top_bin all σ.tick (ask_if (not known) all start)) (continue plan.rules stop σ start)
    (evolves plan.rules (going B) (preserved plan.rules B) stop plan.rules.gravity.setup.top_bin all σ.tick (ask_if (not known) all start) (asks_first B (not known) all start k))
    (continues plan.rules (going B) (preserved plan.rules B) stop σ start k)

-- the trail of a step behind that of the session
joined : (B : List BodyData) (p : Progress) (d : SessionData) → going B p → lasting B d → IsConserved B p.bodies (d.trail ++ p.trail)
joined B p d k l = record { bodies = k.bodies; same = k.same; momentum = k.momentum; told = told_more (total B) d.trail p.trail l.told k.told }

refused : (B : List BodyData) (p : Progress) (d : SessionData) → going B p → lasting B d → IsConserved B d.state.bodies (d.trail ++ p.trail)
refused B p d k l = record { bodies = l.bodies; same = l.same; momentum = l.momentum; told = told_more (total B) d.trail p.trail l.told k.told }

later_step : (B : List BodyData) (b : Bool) (d e : SessionData) → lasting B d → lasting B e → lasting B (cond b d e)
later_step B true d e h g = h
later_step B false d e h g = g

sessions_step : (plan : Plan) (stop : Option ℕ) (B : List BodyData) (n : ℕ) → ((d : SessionData) → lasting B d → lasting B (session_from n plan stop true d)) →
    (s : Stepped) → Holds (going B) s → (d : SessionData) → lasting B d →
    lasting B (elim s [
      | Going p ↦ let e = synchronised plan stop (Some (d.state.steps * 2 ^ plan.rules.gravity.setup.top_bin)) (record (with_trail p.trail d) { state = advanced plan p d.state }) in cond (is_done e.end) (session_from n plan stop true e) e
      | Refused p e ↦ record (with_trail p.trail d) { end = OutOfRange e }
      | Resting p tick Fs ↦ let ρ = rested p tick Fs d.state in with_restart true (record (with_trail p.trail d) { state = ρ; states = d.states ++ ρ ∷ []; end = Stopped })
    ])
sessions_step plan stop B n more (Going p) h d k =
    let e = synchronised plan stop (Some (d.state.steps * 2 ^ plan.rules.gravity.setup.top_bin)) (record (with_trail p.trail d) { state = advanced plan p d.state }) in
    let l : lasting B e = synchronised_lasts B plan stop (Some (d.state.steps * 2 ^ plan.rules.gravity.setup.top_bin)) (record (with_trail p.trail d) { state = advanced plan p d.state }) (joined B p d h k) in
    later_step B (is_done e.end) (session_from n plan stop true e) e (more e l) l
sessions_step plan stop B n more (Refused p e) h d k = refused B p d h k
sessions_step plan stop B n more (Resting p tick Fs) h d k = joined B p d h k

sessions_from : (n : ℕ) (plan : Plan) (stop : Option ℕ) (known : Bool) (B : List BodyData) (d : SessionData) → lasting B d → lasting B (session_from n plan stop known d)
unfolding session_from
sessions_from zero plan stop known B d k = k
sessions_from (suc n) plan stop known B d k =
    let σ = d.state in
    later_step B (is_empty σ.depths && not (is_running plan σ)) d
    (elim (base_step plan stop known σ) [
      | Going p ↦ let e = synchronised plan stop (Some (σ.steps * 2 ^ plan.rules.gravity.setup.top_bin)) (record (with_trail p.trail d) { state = advanced plan p σ }) in cond (is_done e.end) (session_from n plan stop true e) e
      | Refused p e ↦ record (with_trail p.trail d) { end = OutOfRange e }
      | Resting p tick Fs ↦ let ρ = rested p tick Fs σ in with_restart true (record (with_trail p.trail d) { state = ρ; states = d.states ++ ρ ∷ []; end = Stopped })
    ]) k
    (sessions_step plan stop B n (sessions_from n plan stop true B) (base_step plan stop known σ)
    (base_steps plan stop known B σ (record { bodies = k.bodies; same = k.same; momentum = k.momentum; told = tt })) d k)

started : (plan : Plan) (stop : Option ℕ) (resumed : Bool) (B : List BodyData) (d : SessionData) → lasting B d → lasting B (cond resumed d (synchronised plan stop None d))
started plan stop true B d k = k
started plan stop false B d k = synchronised_lasts B plan stop None d k

pub sessions_conserve : SessionsConserve
unfolding session
sessions_conserve plan resumed stop σ a =
    let start : SessionData = record { state = σ; written = []; trail = []; states = []; questions = []; end = Done } in
    sessions_from (plan.rules.gravity.setup.time_max + 1) plan stop false σ.bodies (cond resumed start (synchronised plan stop None start))
    (started plan stop resumed σ.bodies start (record { bodies = a; same = refl; momentum = refl; told = tt }))

pub evolves_conserve : EvolvesConserve
evolves_conserve r stop bin tick P B a = evolves r (going B) (preserved r B) stop bin P tick (start_of B) (record { bodies = a; same = refl; momentum = refl; told = tt })

pub continues_conserve : ContinuesConserve
continues_conserve r stop σ a = continues r (going σ.bodies) (preserved r σ.bodies) stop σ (start_of σ.bodies) (record { bodies = a; same = refl; momentum = refl; told = tt })
