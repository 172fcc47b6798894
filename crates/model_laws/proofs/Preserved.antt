-- What kicks and drifts preserve, evolve and continue preserve.
use Rattle.std.proofs.Common.{◌≡◌, ℕ, zero, suc, ◌+◌, ◌-◌, ◌^◌, Bool, true, false, cond, not, ◌&&◌, ◌||◌, ◌==◌, nat_le, arith, IsTrue, List, [], ◌∷◌, map, filter, zip, fold, slice_index, Option, Some, None, refl, subst}
use Rattle.std.specs.List.{range_with_len}
use Rattle.std.proofs.lemmas.Bool.{false≢true, eqb-true, leb-true, le-leb, or_left, or_right}
use Rattle.nbody_model.specs.Bodies.{BodyData, has, only}
use Rattle.nbody_model.specs.Setups.{SetupData}
use Rattle.nbody_model.specs.Tables.{Rules, Gravity}
use Rattle.nbody_model.specs.Force.{force_at}
use Rattle.nbody_model.specs.Factors.{kick_factor, drift_factor}
use Rattle.nbody_model.specs.Steps.{fits, fast, without, drift}
use Rattle.nbody_model.specs.Evolve.{Binned, Rested, Progress, tell, StepRange, Stepped, Going, Refused, Resting, ◌>>=◌, inside, is_empty, is_less, ask_if, kick, rest, close, between, step_by, evolve}
use Rattle.nbody_model.specs.States.{StateData, low_zeros, began, unfinished, unfinished_fast, fast_parts}
use Rattle.nbody_model.specs.Continue.{round, continue}
use Rattle.model_laws.specs.Preserved.{IsPart, Holds, IsPreserved}

pub bound : (I : Progress → Type 0) (s : Stepped) (f : Progress → Stepped) → Holds I s → ((p : Progress) → I p → Holds I (f p)) → Holds I (s >>= f)
bound I (Going p) f h g = g p h
bound I (Refused p e) f h g = h
bound I (Resting p tick Fs) f h g = h

pub within : (I : Progress → Type 0) (Gs : List (List ℕ)) (s : Stepped) → Holds I s → Holds I (inside Gs s)
within I Gs (Going p) h = h
within I Gs (Refused p e) h = h
within I Gs (Resting p tick Fs) h = h

pub either : (I : Progress → Type 0) (b : Bool) (s t : Stepped) → Holds I s → Holds I t → Holds I (cond b s t)
either I true s t h g = h
either I false s t h g = g

pub asks : (r : Rules) (I : Progress → Type 0) → IsPreserved r I → (b : Bool) (P : List ℕ) (p : Progress) → I p → I (ask_if b P p)
asks r I k true P p h = k.asked (only p.bodies P) p h
asks r I k false P p h = h

rest_step : (I : Progress → Type 0) (told : Progress) (tick : ℕ) (b : Bool) → I told → Holds I (cond b (Resting told tick []) (Going told))
rest_step I told tick true h = h
rest_step I told tick false h = h

pub rests : (r : Rules) (I : Progress → Type 0) → IsPreserved r I → (stop : Option ℕ) (tick : ℕ) (p : Progress) → I p → Holds I (rest stop tick p)
rests r I k None tick p h = k.rested tick p h
rests r I k (Some s) tick p h = rest_step I (tell (Rested tick) p) tick (s == tick) (k.rested tick p h)

-- ---- the fast part is a part

first_or_later : {X : Type 0} (a b : Bool) → IsTrue (a || b) → (IsTrue a → X) → (IsTrue b → X) → X
first_or_later true b e f g = f refl
first_or_later false b e f g = g e

-- an id that is one of a body that passed, or of a later one
had : (u : BodyData → Bool) (b : BodyData) (B : List BodyData) (id : ℕ) (X : Type 0) (m : Bool) → (b.id ≡ id → X) → (IsTrue (has (map (λ c. c.id) (filter u B)) id) → X) → IsTrue (has (map (λ c. c.id) (cond m (b ∷ filter u B) (filter u B))) id) → X
had u b B id X true f g h = first_or_later (b.id == id) (has (map (λ c. c.id) (filter u B)) id) h (λ e. f (eqb-true b.id id e)) g
had u b B id X false f g h = g h

filtered_had : (u : BodyData → Bool) (b : BodyData) (B : List BodyData) (P : List ℕ) (id : ℕ) (m : Bool) → has P b.id ≡ m → (IsTrue (has (map (λ c. c.id) (filter u B)) id) → IsTrue (has P id)) → IsTrue (has (map (λ c. c.id) (filter u (cond m (b ∷ B) B))) id) → IsTrue (has P id)
filtered_had u b B P id true e g h = had u b B id (IsTrue (has P id)) (u b) (λ d. subst (λ n. IsTrue (has P n)) d e) g h
filtered_had u b B P id false e g h = g h

part_of : (u : BodyData → Bool) (P : List ℕ) (B : List BodyData) → IsPart (map (λ c. c.id) (filter u (only B P))) P
part_of u P [] id h = absurd (false≢true h)
part_of u P (b ∷ B) id h = filtered_had u b (only B P) P id (has P b.id) refl (part_of u P B id) h

pub fast_is_part : (g : Gravity) (bin : ℕ) (P : List ℕ) (B : List BodyData) → IsPart (fast g bin (only B P)) P
unfolding fast
fast_is_part g bin P B = part_of (λ b. not (fits g.setup b (force_at g (only B P) b) bin)) P B

pub closes : (r : Rules) (I : Progress → Type 0) → IsPreserved r I → (bin : ℕ) (P F : List ℕ) (t : ℕ) (p : Progress) → IsPart F P → I p → Holds I (close r bin P F t p)
unfolding close
closes r I k bin P F t p part h =
    let ticks = drift_factor r.expansion t (t + 2 ^ bin) in
    let moved : Progress = record p { bodies = drift r.gravity.setup (without F P) ticks p.bodies } in
    k.kicked bin (t + 2 ^ bin) (kick_factor r.expansion (t + 2 ^ (bin - 1)) (t + 2 ^ bin)) P F (ask_if (is_less F P) P moved) part (asks r I k (is_less F P) P moved (k.drifted (without F P) ticks p h))

pub betweens : (r : Rules) (I : Progress → Type 0) → IsPreserved r I → (stop : Option ℕ) (finer : List ℕ → ℕ → Progress → Stepped) →
    ((F : List ℕ) (t : ℕ) (p : Progress) → I p → Holds I (finer F t p)) → (bin : ℕ) (F : List ℕ) (t : ℕ) (p : Progress) → I p → Holds I (between stop finer bin F t p)
unfolding between
betweens r I k stop finer f bin F t p h =
    let middle = t + 2 ^ (bin - 1) in
    either I (is_empty F) (Going p) (inside (F ∷ []) (finer F t p >>= (λ q. rest stop middle q) >>= (λ q. finer F middle q))) h
    (within I (F ∷ []) (finer F t p >>= (λ q. rest stop middle q) >>= (λ q. finer F middle q))
    (bound I (finer F t p >>= (λ q. rest stop middle q)) (λ q. finer F middle q)
    (bound I (finer F t p) (λ q. rest stop middle q) (f F t p h) (λ q. rests r I k stop middle q))
    (f F middle)))

steps_by : (r : Rules) (I : Progress → Type 0) → IsPreserved r I → (stop : Option ℕ) (finer : List ℕ → ℕ → Progress → Stepped) →
    ((F : List ℕ) (t : ℕ) (p : Progress) → I p → Holds I (finer F t p)) → (bin : ℕ) (P : List ℕ) (t : ℕ) (p : Progress) → I p → Holds I (step_by r stop finer bin P t p)
unfolding step_by
steps_by r I k stop finer f bin P t p h =
    let half = 2 ^ (bin - 1) in
    let F = fast r.gravity bin (only p.bodies P) in
    let asked = not (is_empty F) && is_less F P in
    let known = ask_if asked F (tell (Binned F) p) in
    let part = fast_is_part r.gravity bin P p.bodies in
    let first = kick r bin P F t (kick_factor r.expansion t (t + half)) known in
    either I (bin == r.gravity.setup.low_bin && not (is_empty F)) (Refused p (StepRange t (slice_index F 0)))
    (first >>= (λ q. between stop finer bin F t q) >>= (λ q. close r bin P F t q)) h
    (bound I (first >>= (λ q. between stop finer bin F t q)) (λ q. close r bin P F t q)
    (bound I first (λ q. between stop finer bin F t q)
    (k.kicked bin t (kick_factor r.expansion t (t + half)) P F known part (asks r I k asked F (tell (Binned F) p) (k.binned F p h)))
    (betweens r I k stop finer f bin F t))
    (λ q. closes r I k bin P F t q part))

pub evolves : (r : Rules) (I : Progress → Type 0) → IsPreserved r I → (stop : Option ℕ) (bin : ℕ) (P : List ℕ) (t : ℕ) (p : Progress) → I p → Holds I (evolve r stop bin P t p)
unfolding evolve
evolves r I k stop zero P t p h = h
evolves r I k stop (suc c) P t p h = steps_by r I k stop (evolve r stop c) (λ F u q. evolves r I k stop c F u q) (c + 1) P t p h

-- ---- continue

ids_deeper : (x : BodyData × ℕ) (xs ys : List (BodyData × ℕ)) (id : ℕ) (a b : Bool) → (IsTrue a → IsTrue b) →
    (IsTrue (has (map (λ x. x.0.id) xs) id) → IsTrue (has (map (λ x. x.0.id) ys) id)) →
    IsTrue (has (map (λ x. x.0.id) (cond a (x ∷ xs) xs)) id) → IsTrue (has (map (λ x. x.0.id) (cond b (x ∷ ys) ys)) id)
ids_deeper x xs ys id true true f g h = first_or_later (x.0.id == id) (has (map (λ x. x.0.id) xs) id) h (λ e. or_left (x.0.id == id) (has (map (λ x. x.0.id) ys) id) e) (λ e. or_right (x.0.id == id) (has (map (λ x. x.0.id) ys) id) (g e))
ids_deeper x xs ys id true false f g h = absurd (false≢true (f refl))
ids_deeper x xs ys id false true f g h = or_right (x.0.id == id) (has (map (λ x. x.0.id) ys) id) (g h)
ids_deeper x xs ys id false false f g h = g h

less_deep : (n d : ℕ) → IsTrue (nat_le (n + 1) d) → IsTrue (nat_le n d)
less_deep n d e = le-leb n d (omega (arith, leb-true (n + 1) d e))

deeper : (n : ℕ) (xs : List (BodyData × ℕ)) (id : ℕ) → IsTrue (has (map (λ x. x.0.id) (filter (λ x. nat_le (n + 1) x.1) xs)) id) → IsTrue (has (map (λ x. x.0.id) (filter (λ x. nat_le n x.1) xs)) id)
deeper n [] id h = h
deeper n (x ∷ xs) id h =
    ids_deeper x (filter (λ x. nat_le (n + 1) x.1) xs) (filter (λ x. nat_le n x.1) xs) id (nat_le (n + 1) x.1) (nat_le n x.1) (less_deep n x.1) (deeper n xs id) h

unfinished_is_part : (s : SetupData) (σ : StateData) (bin : ℕ) → IsPart (unfinished_fast s σ bin) (unfinished s σ bin)
unfinished_is_part s σ bin id h = deeper (s.top_bin - bin) (zip σ.bodies σ.depths) id h

rounds : (r : Rules) (I : Progress → Type 0) → IsPreserved r I → (stop : Option ℕ) (σ : StateData) (bin : ℕ) (p : Progress) → I p → Holds I (round r stop σ bin p)
unfolding round
rounds r I k stop σ bin p h =
    let s = r.gravity.setup in
    let t = began bin σ.tick in
    let middle = t + 2 ^ (bin - 1) in
    let F = unfinished_fast s σ bin in
    let ready : Stepped = cond (bin == low_zeros σ.tick + 1) (Going p) (rest stop middle p) in
    let finer = inside (fast_parts s σ bin) (ready >>= (λ q. evolve r stop (bin - 1) F middle q)) in
    bound I (cond (nat_le σ.tick middle) finer (Going p)) (λ q. close r bin (unfinished s σ bin) F t q)
    (either I (nat_le σ.tick middle) finer (Going p)
    (within I (fast_parts s σ bin) (ready >>= (λ q. evolve r stop (bin - 1) F middle q))
    (bound I ready (λ q. evolve r stop (bin - 1) F middle q)
    (either I (bin == low_zeros σ.tick + 1) (Going p) (rest stop middle p) h (rests r I k stop middle p h))
    (λ q. evolves r I k stop (bin - 1) F middle q)))
    h)
    (λ q. closes r I k bin (unfinished s σ bin) F t q (unfinished_is_part s σ bin))

folds : (I : Progress → Type 0) (f : ℕ → Progress → Stepped) → ((bin : ℕ) (p : Progress) → I p → Holds I (f bin p)) → (s : Stepped) (bins : List ℕ) → Holds I s → Holds I (fold (λ step bin. step >>= f bin) s bins)
folds I f g s [] h = h
folds I f g s (bin ∷ bins) h = folds I f g (s >>= f bin) bins (bound I s (f bin) h (g bin))

pub continues : (r : Rules) (I : Progress → Type 0) → IsPreserved r I → (stop : Option ℕ) (σ : StateData) (p : Progress) → I p → Holds I (continue r stop σ p)
unfolding continue
continues r I k stop σ p h =
    let s = r.gravity.setup in
    let v = low_zeros σ.tick in
    folds I (λ bin q. round r stop σ bin q) (rounds r I k stop σ) (Going (ask_if true (unfinished_fast s σ (v + 1)) p)) (range_with_len (v + 1) (s.top_bin - v)) (asks r I k true (unfinished_fast s σ (v + 1)) p h)
