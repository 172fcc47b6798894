-- Where the rest of a base step is stopped again.
use Rattle.std.proofs.Common.{◌≡◌, ◌<◌, ◌≤◌, ℕ, suc, ◌+◌, ◌-◌, ◌*◌, ◌/◌, ◌^◌, Bool, true, false, cond, ◌==◌, nat_le, List, [], ◌∷◌, length, Option, Some, None, ap, sym, ◌∙◌, subst, arith}
use Rattle.std.proofs.lemmas.List.{length-append, length-map}
use Rattle.nbody_model.specs.Bodies.{BodyData}
use Rattle.nbody_model.specs.Tables.{Rules}
use Rattle.nbody_model.specs.Setups.{SetupData, IsSetup}
use Rattle.nbody_model.specs.Evolve.{Progress, Stepped, Going, Refused, Resting, ◌>>=◌, inside, ask_if, rest, close, evolve}
use Rattle.nbody_model.specs.States.{StateData, low_zeros, began, unfinished_fast, IsRest}
use Rattle.nbody_model.specs.Continue.{continue}
use Rattle.nbody_model.specs.Session.{Plan}
use Rattle.model_laws.specs.Preserved.{Holds}
use Rattle.model_laws.specs.Rests.{head_or}
use Rattle.model_laws.specs.Nests.{ids_of}
use Rattle.model_laws.proofs.Preserved.{continues}
use Rattle.model_laws.proofs.Rests.{Moves, close_moves, less_one}
use Rattle.restart_laws.proofs.Bodies.{AreSafe, preserved}
use Rattle.restart_laws.proofs.Resting.{Coarse, moving, bound, rests_coarse, evolve_coarse}
use Rattle.restart_laws.proofs.Sessions.{Facts, whole_part}
use Rattle.chain_laws.proofs.Stops.{AgreesAgain, stop_step, rounds, continue_rounds, continue_agrees}
use Rattle.chain_laws.proofs.Nested.{continue_moves}
use Rattle.chain_laws.proofs.Chains.{IsMid}

-- ---- in no bin that is too fine

coarse_if : (low bin : ℕ) (b : Bool) (s t : Stepped) → Coarse low bin s → Coarse low bin t → Coarse low bin (cond b s t)
coarse_if low bin true s t h g = h
coarse_if low bin false s t h g = g

-- inside the unfinished evolves with the fast parts Gs
coarse_inside : (low bin : ℕ) (Gs : List (List ℕ)) (s : Stepped) → Coarse low bin s → Coarse low (bin + length Gs) (inside Gs s)
coarse_inside low bin Gs (Going q) h = tt
coarse_inside low bin Gs (Refused q e) h = tt
coarse_inside low bin Gs (Resting q tick Fs) h = omega (arith, length-append Fs Gs, h)

round_coarse : (r : Rules) (stop : Option ℕ) (u c : ℕ) (P F : List ℕ) (Gs : List (List ℕ)) → r.gravity.setup.low_bin ≤ c → (p : Progress) → Coarse r.gravity.setup.low_bin (c + length Gs) (stop_step r stop u (c + 1) P F Gs p)
round_coarse r stop u c P F Gs l p =
    let low = r.gravity.setup.low_bin in
    let bin = c + 1 in
    let t = began bin u in
    let middle = t + 2 ^ (bin - 1) in
    let ready : Stepped = cond (bin == low_zeros u + 1) (Going p) (rest stop middle p) in
    let steps : Progress → Stepped = λ q. evolve r stop (bin - 1) F middle q in
    let coarse : (q : Progress) → Coarse low c (steps q) = λ q. subst (λ n. Coarse low c (evolve r stop n F middle q)) (sym (less_one c)) (evolve_coarse r stop c l F middle q) in
    let finer = inside Gs (ready >>= steps) in
    let reached : Stepped = cond (nat_le u middle) finer (Going p) in
    bound low (c + length Gs) reached (λ q. close r bin P F t q)
    (coarse_if low (c + length Gs) (nat_le u middle) finer (Going p)
    (coarse_inside low c Gs (ready >>= steps) (bound low c ready steps (coarse_if low c (bin == low_zeros u + 1) (Going p) (rest stop middle p) tt (rests_coarse low c stop middle p l)) coarse)) tt)
    (λ q. moving low (c + length Gs) (close r bin P F t q) (close_moves r bin P F t q))

rounds_coarse : (r : Rules) (stop : Option ℕ) (u : ℕ) (P : List ℕ) (c : ℕ) (Fs : List (List ℕ)) → r.gravity.setup.low_bin ≤ c → (s : Stepped) → Coarse r.gravity.setup.low_bin (c + length Fs) s →
    Coarse r.gravity.setup.low_bin (c + length Fs) (rounds r stop u P (c + 1) Fs s)
rounds_coarse r stop u P c [] l s h = h
rounds_coarse r stop u P c (F ∷ Fs) l s h =
    let low = r.gravity.setup.low_bin in
    let len : c + suc (length Fs) ≡ c + 1 + length Fs = omega arith in
    let f : Progress → Stepped = λ p. stop_step r stop u (c + 1) (head_or P Fs) F (F ∷ Fs) p in
    let here : Coarse low (c + suc (length Fs)) (s >>= f) = bound low (c + suc (length Fs)) s f h (λ q. round_coarse r stop u c (head_or P Fs) F (F ∷ Fs) l q) in
    subst (λ n. Coarse low n (rounds r stop u P (c + 1 + 1) Fs (s >>= f))) (sym len)
    (rounds_coarse r stop u P (c + 1) Fs (omega (arith, l)) (s >>= f) (subst (λ n. Coarse low n (s >>= f)) len here))

continue_coarse : (plan : Plan) (stop : Option ℕ) (σ : StateData) → IsMid plan σ → plan.rules.gravity.setup.low_bin ≤ low_zeros σ.tick → (p : Progress) →
    Coarse plan.rules.gravity.setup.low_bin plan.rules.gravity.setup.top_bin (continue plan.rules stop σ p)
continue_coarse plan stop σ k l p =
    let r = plan.rules in
    let s = r.gravity.setup in
    let v = low_zeros σ.tick in
    let ids = ids_of σ.bodies in
    let z = ask_if true (unfinished_fast s σ (v + 1)) p in
    subst (Coarse s.low_bin s.top_bin) (continue_rounds r stop σ ids k.Fs k.told k.count p)
    (subst (λ n. Coarse s.low_bin n (rounds r stop σ.tick ids (v + 1) k.Fs (Going z))) k.count
    (rounds_coarse r stop σ.tick ids v k.Fs l (Going z) tt))

-- ---- what is known of the rest of a base step, however it ended

rest_facts : (s : SetupData) (r : Rules) (w : ℕ) (B : List BodyData) (σ : StateData) (ids : List ℕ) (step whole : Stepped) → AreSafe B σ.bodies → 1 ≤ length σ.bodies → σ.steps ≡ σ.tick / 2 ^ s.top_bin →
    Holds (λ p. AreSafe B p.bodies) step → Coarse s.low_bin s.top_bin step → AgreesAgain r σ.tick w s.top_bin ids step whole → Facts s B σ step
rest_facts s r w B σ ids (Going p) whole safe some steps h c a = h
rest_facts s r w B σ ids (Refused p e) whole safe some steps h c a = tt
rest_facts s r w B σ ids (Resting p tick Fs) whole safe some steps h c a =
    let same : a.both.m ≡ σ.steps = whole_part a.both.m s.top_bin σ.tick a.both.after a.both.before ∙ sym steps in
    let lengths : length p.bodies ≡ length σ.bodies = sym (length-map p.bodies (λ b. b.id)) ∙ ap length (h.ids ∙ sym safe.ids) ∙ length-map σ.bodies (λ b. b.id) in
    record {
      safe = h;
      inside = record {
        after = subst (λ n. n * 2 ^ s.top_bin < tick) same (subst (λ t. a.both.m * 2 ^ s.top_bin < t) (sym a.stopped.at) a.stopped.after);
        before = subst (λ n. tick < (n + 1) * 2 ^ s.top_bin) same (subst (λ t. t < (a.both.m + 1) * 2 ^ s.top_bin) (sym a.stopped.at) a.stopped.before);
        count = ap (λ t. low_zeros t + length Fs) a.stopped.at ∙ a.stopped.count;
        inner = subst (λ t. low_zeros t < s.top_bin) (sym a.stopped.at) a.stopped.inner;
      };
      coarse = c;
      some = subst (λ n. 1 ≤ n) (sym lengths) some;
    }

going_facts : (s : SetupData) (B : List BodyData) (σ : StateData) (step : Stepped) → Moves step → Holds (λ p. AreSafe B p.bodies) step → Facts s B σ step
going_facts s B σ (Going p) m h = h
going_facts s B σ (Refused p e) m h = tt
going_facts s B σ (Resting p tick Fs) m h = absurd m

pub continue_facts : (plan : Plan) (stop : Option ℕ) (B : List BodyData) (σ : StateData) → IsSetup plan.rules.gravity.setup → AreSafe B σ.bodies → IsRest plan.rules.gravity.setup σ → IsMid plan σ →
    Facts plan.rules.gravity.setup B σ (continue plan.rules stop σ (record { bodies = σ.bodies; trail = [] }))
continue_facts plan None B σ h safe rest k =
    let r = plan.rules in
    let p : Progress = record { bodies = σ.bodies; trail = [] } in
    going_facts r.gravity.setup B σ (continue r None σ p) (continue_moves r σ p) (continues r (λ q. AreSafe B q.bodies) (preserved r B) None σ p safe)
continue_facts plan (Some w) B σ h safe rest k =
    let r = plan.rules in
    let s = r.gravity.setup in
    let p : Progress = record { bodies = σ.bodies; trail = [] } in
    rest_facts s r w B σ (ids_of σ.bodies) (continue r (Some w) σ p) (continue r None σ p) safe rest.some rest.steps
    (continues r (λ q. AreSafe B q.bodies) (preserved r B) (Some w) σ p safe) (continue_coarse plan (Some w) σ k rest.not_finest p)
    (continue_agrees r w σ (ids_of σ.bodies) k.Fs k.told k.count (omega (arith, h.bin_high)) k.inner p)
