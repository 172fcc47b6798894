-- Where a step may rest: inside bins that aren't too fine, and only where there are bodies.
use Rattle.std.proofs.Common.{◌≡◌, ◌≤◌, ℕ, zero, suc, ◌+◌, ◌-◌, ◌^◌, Bool, true, false, cond, not, ◌&&◌, ◌==◌, List, [], ◌∷◌, length, slice_index, Option, Some, None, refl, ap, sym, ◌∙◌, subst, arith, add-one}
use Rattle.std.specs.Prelude.{⊤}
use Rattle.std.proofs.lemmas.Bool.{false≢true, eq-eqb}
use Rattle.std.proofs.lemmas.List.{length-append}
use Rattle.nbody_model.specs.Bodies.{only}
use Rattle.nbody_model.specs.Tables.{Rules, Gravity}
use Rattle.nbody_model.specs.Factors.{kick_factor}
use Rattle.nbody_model.specs.Steps.{fast}
use Rattle.nbody_model.specs.Evolve.{Binned, Rested, Progress, tell, Refusal, StepRange, Stepped, Going, Refused, Resting, ◌>>=◌, inside, is_empty, is_less, ask_if, kick, rest, close, between, step_by, evolve}
use Rattle.model_laws.proofs.Rests.{Moves, bind_moves, kick_moves, close_moves}

-- as many unfinished evolves as there are bins from `low` up to `bin` have room above the resting point
abbrev pub Coarse : ℕ → ℕ → Stepped → Type 0
Coarse low bin (Going q) = ⊤
Coarse low bin (Refused q e) = ⊤
Coarse low bin (Resting q tick Fs) = length Fs + low ≤ bin

pub moving : (low bin : ℕ) (s : Stepped) → Moves s → Coarse low bin s
moving low bin (Going q) m = tt
moving low bin (Refused q e) m = tt
moving low bin (Resting q tick Fs) m = absurd m

pub bound : (low bin : ℕ) (s : Stepped) (f : Progress → Stepped) → Coarse low bin s → ((q : Progress) → Coarse low bin (f q)) → Coarse low bin (s >>= f)
bound low bin (Going q) f h g = g q
bound low bin (Refused q e) f h g = h
bound low bin (Resting q tick Fs) f h g = h

within : (low bin : ℕ) (F : List ℕ) (s : Stepped) → Coarse low bin s → Coarse low (bin + 1) (inside (F ∷ []) s)
within low bin F (Going q) h = tt
within low bin F (Refused q e) h = tt
within low bin F (Resting q tick Fs) h = omega (arith, length-append Fs (F ∷ []), h)

rest_or_go : (low bin : ℕ) (p : Progress) (tick : ℕ) (b : Bool) → low ≤ bin → Coarse low bin (cond b (Resting p tick []) (Going p))
rest_or_go low bin p tick true l = omega (arith, l)
rest_or_go low bin p tick false l = tt

pub rests_coarse : (low bin : ℕ) (stop : Option ℕ) (tick : ℕ) (p : Progress) → low ≤ bin → Coarse low bin (rest stop tick p)
rests_coarse low bin None tick p l = tt
rests_coarse low bin (Some s) tick p l = rest_or_go low bin (tell (Rested tick) p) tick (s == tick) l

-- two finer steps with a resting point between them
two_coarse : (low bin : ℕ) (stop : Option ℕ) (finer : List ℕ → ℕ → Progress → Stepped) (F : List ℕ) (t u : ℕ) → low ≤ bin → ((t : ℕ) (q : Progress) → Coarse low bin (finer F t q)) → (p : Progress) →
    Coarse low (bin + 1) (inside (F ∷ []) (finer F t p >>= (λ q. rest stop u q) >>= (λ q. finer F u q)))
two_coarse low bin stop finer F t u l f p =
    within low bin F (finer F t p >>= (λ q. rest stop u q) >>= (λ q. finer F u q))
    (bound low bin (finer F t p >>= (λ q. rest stop u q)) (λ q. finer F u q) (bound low bin (finer F t p) (λ q. rest stop u q) (f t p) (λ q. rests_coarse low bin stop u q l)) (f u))

-- a step: refused in the finest bin where a part is fast; without finer steps where none is
by_cases : (low bin : ℕ) (p : Progress) (x : Refusal) (k : Stepped) (g closes : Progress → Stepped) (a e : Bool) → Moves k → ((q : Progress) → Moves (closes q)) → (a ≡ false → e ≡ false → (q : Progress) → Coarse low bin (g q)) →
    Coarse low bin (cond (a && not e) (Refused p x) (k >>= (λ q. cond e (Going q) (g q)) >>= closes))
by_cases low bin p x k g closes true false m c f = tt
by_cases low bin p x k g closes true true m c f = moving low bin (k >>= (λ q. Going q) >>= closes) (bind_moves (k >>= (λ q. Going q)) closes (bind_moves k (λ q. Going q) m (λ q. tt)) c)
by_cases low bin p x k g closes false true m c f = moving low bin (k >>= (λ q. Going q) >>= closes) (bind_moves (k >>= (λ q. Going q)) closes (bind_moves k (λ q. Going q) m (λ q. tt)) c)
by_cases low bin p x k g closes false false m c f =
    bound low bin (k >>= g) closes (bound low bin k g (moving low bin k m) (f refl refl)) (λ q. moving low bin (closes q) (c q))

-- a bin above the finest one
above : (low c : ℕ) → (c + 1 ≡ low → ⊥) → low ≤ c + 1 → low ≤ c
above low c n l = omega (arith, n, l)

finer_left : (low c : ℕ) → low ≤ c + 1 → (c + 1 == low) ≡ false → low ≤ c
finer_left low c l a = above low c (λ e. false≢true (sym a ∙ eq-eqb (c + 1) low e)) l

step_coarse : (r : Rules) (stop : Option ℕ) (c : ℕ) → r.gravity.setup.low_bin ≤ c + 1 → (r.gravity.setup.low_bin ≤ c → (P : List ℕ) (t : ℕ) (p : Progress) → Coarse r.gravity.setup.low_bin c (evolve r stop c P t p)) →
    (P : List ℕ) (t : ℕ) (p : Progress) → Coarse r.gravity.setup.low_bin (c + 1) (step_by r stop (evolve r stop c) (c + 1) P t p)
unfolding step_by between
step_coarse r stop c l f P t p =
    let low = r.gravity.setup.low_bin in
    let bin = c + 1 in
    let half = 2 ^ (bin - 1) in
    let F = fast r.gravity bin (only p.bodies P) in
    let known = ask_if (not (is_empty F) && is_less F P) F (tell (Binned F) p) in
    by_cases low bin p (StepRange t (slice_index F 0)) (kick r bin P F t (kick_factor r.expansion t (t + half)) known)
    (λ q. inside (F ∷ []) (evolve r stop c F t q >>= (λ q. rest stop (t + half) q) >>= (λ q. evolve r stop c F (t + half) q))) (λ q. close r bin P F t q)
    (bin == low) (is_empty F) (kick_moves r bin P F t (kick_factor r.expansion t (t + half)) known) (λ q. close_moves r bin P F t q)
    (λ a e q. two_coarse low c stop (evolve r stop c) F t (t + half) (finer_left low c l a) (λ u x. f (finer_left low c l a) F u x) q)

pub evolve_coarse : (r : Rules) (stop : Option ℕ) (bin : ℕ) → r.gravity.setup.low_bin ≤ bin → (P : List ℕ) (t : ℕ) (p : Progress) → Coarse r.gravity.setup.low_bin bin (evolve r stop bin P t p)
unfolding evolve
evolve_coarse r stop zero l P t p = tt
evolve_coarse r stop (suc c) l P t p =
    subst (λ n. Coarse r.gravity.setup.low_bin n (step_by r stop (evolve r stop c) (c + 1) P t p)) (add-one c)
    (step_coarse r stop c (omega (arith, l)) (λ m. evolve_coarse r stop c m) P t p)

-- ---- without bodies nothing rests

no_part : (p : Progress) (x : Refusal) (k : Stepped) (g closes : Progress → Stepped) (a e : Bool) → e ≡ true → Moves k → ((q : Progress) → Moves (closes q)) →
    Moves (cond (a && not e) (Refused p x) (k >>= (λ q. cond e (Going q) (g q)) >>= closes))
no_part p x k g closes true false h m c = absurd (false≢true h)
no_part p x k g closes false false h m c = absurd (false≢true h)
no_part p x k g closes true true h m c = bind_moves (k >>= (λ q. Going q)) closes (bind_moves k (λ q. Going q) m (λ q. tt)) c
no_part p x k g closes false true h m c = bind_moves (k >>= (λ q. Going q)) closes (bind_moves k (λ q. Going q) m (λ q. tt)) c

none_fast : (g : Gravity) (bin : ℕ) (P : List ℕ) → fast g bin (only [] P) ≡ []
unfolding fast
none_fast g bin P = refl

step_alone : (r : Rules) (stop : Option ℕ) (c : ℕ) (P : List ℕ) (t : ℕ) (p : Progress) → p.bodies ≡ [] → Moves (step_by r stop (evolve r stop c) (c + 1) P t p)
unfolding step_by between
step_alone r stop c P t p n =
    let bin = c + 1 in
    let half = 2 ^ (bin - 1) in
    let F = fast r.gravity bin (only p.bodies P) in
    let known = ask_if (not (is_empty F) && is_less F P) F (tell (Binned F) p) in
    let none : is_empty F ≡ true = ap (λ B. is_empty (fast r.gravity bin (only B P))) n ∙ ap is_empty (none_fast r.gravity bin P) in
    no_part p (StepRange t (slice_index F 0)) (kick r bin P F t (kick_factor r.expansion t (t + half)) known)
    (λ q. inside (F ∷ []) (evolve r stop c F t q >>= (λ q. rest stop (t + half) q) >>= (λ q. evolve r stop c F (t + half) q))) (λ q. close r bin P F t q)
    (bin == r.gravity.setup.low_bin) (is_empty F) none (kick_moves r bin P F t (kick_factor r.expansion t (t + half)) known) (λ q. close_moves r bin P F t q)

pub evolve_alone : (r : Rules) (stop : Option ℕ) (bin : ℕ) (P : List ℕ) (t : ℕ) (p : Progress) → p.bodies ≡ [] → Moves (evolve r stop bin P t p)
unfolding evolve
evolve_alone r stop zero P t p n = tt
evolve_alone r stop (suc c) P t p n = step_alone r stop c P t p n
