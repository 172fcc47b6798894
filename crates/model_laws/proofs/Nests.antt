-- The depths of a rest state tell the fast parts of its unfinished evolves.
use Rattle.std.proofs.Common.{◌≡◌, ◌<◌, ◌≤◌, ℕ, zero, suc, ◌+◌, ◌-◌, ◌*◌, ◌^◌, Bool, true, false, cond, not, ◌&&◌, ◌||◌, ◌==◌, nat_le, List, [], ◌∷◌, ◌++◌, length, map, filter, zip, fold, count_by, slice_index, Option, Some, None, refl, ap, sym, ◌∙◌, subst, arith, zero-add}
use Rattle.std.specs.Prelude.{⊤}
use Rattle.std.specs.List.{AllByRecursion, range_with_len}
use Rattle.std.specs.List.Sorted.{IsStrictlyIncreasing}
use Rattle.std.proofs.lemmas.Bool.{false≢true, le-leb, lt-leb, or_from, eq-eqb, ne_eqb}
use Rattle.std.proofs.lemmas.List.Sums.{sum_by-cons}
use Rattle.nbody_model.specs.Bodies.{BodyData, has, only}
use Rattle.nbody_model.specs.Setups.{SetupData}
use Rattle.nbody_model.specs.Tables.{Rules, Gravity}
use Rattle.nbody_model.specs.Force.{force_at}
use Rattle.nbody_model.specs.Factors.{kick_factor}
use Rattle.nbody_model.specs.Steps.{fits, fast, at_each, drifted, change, kicked_by, kicked_bodies, first_out}
use Rattle.nbody_model.specs.Evolve.{Binned, Asked, Kicked, Rested, Progress, tell, MomRange, StepRange, Stepped, Going, Refused, Resting, ◌>>=◌, inside, is_empty, is_less, ask_if, record_of, kick, rest, close, between, step_by, evolve}
use Rattle.nbody_model.specs.States.{StateData, low_zeros, began, deep, unfinished, unfinished_fast, fast_parts}
use Rattle.nbody_model.specs.Continue.{round, continue}
use Rattle.model_laws.specs.Preserved.{IsPart, Holds, IsPreserved}
use Rattle.model_laws.specs.Rests.{rest_of_step, head_or, rest_of_steps, IsStoppedAt, Agrees}
use Rattle.model_laws.proofs.Led.{rest_steps_led}
use Rattle.model_laws.specs.Nests.{led, ids_of, Nested, Tells, rest_state, IsFinished, ContinueFinishes}
use Rattle.model_laws.proofs.Still.{map-mapped, map-same}
use Rattle.model_laws.proofs.Shares.{Ascending, ascending-from}
use Rattle.model_laws.proofs.Preserved.{bound, asks, fast_is_part, betweens, evolves, rests}
use Rattle.model_laws.proofs.Rests.{evolve_agrees, bind_same, head_more, close_moves, kick_moves, Moves, inside_moves, bind_moves, cond_moves, evolve_moves}
use Rattle.std.proofs.lemmas.List.{append-nil}

abbrev one_if : Bool → ℕ
one_if b = cond b 1 0

-- how many of the lists hold an id
abbrev pub held : List (List ℕ) → ℕ → ℕ
held Fs id = count_by (λ F. has F id) Fs

cases : {X : Type 0} (b : Bool) → (b ≡ true → X) → (b ≡ false → X) → X
cases true f g = f refl
cases false f g = g refl

-- an id of a list is held by all lists from it on
held_all : (ids P : List ℕ) (F : List ℕ) (Fs : List (List ℕ)) (id : ℕ) → Nested ids P (F ∷ Fs) → has F id ≡ true → held (F ∷ Fs) id ≡ length (F ∷ Fs)
held_all ids P F [] id n h = sum_by-cons (λ F. one_if (has F id)) F [] ∙ ap (λ b. one_if b + 0) h
held_all ids P F (G ∷ Fs) id n h =
    let e = held_all ids P G Fs id n.2 (n.1 id h) in
    let f : one_if (has F id) ≡ 1 = ap one_if h in
    omega (arith, sum_by-cons (λ F. one_if (has F id)) F (G ∷ Fs), e, f)

one_most : (b : Bool) → one_if b ≤ 1
one_most true = omega arith
one_most false = omega arith

held_most : (Fs : List (List ℕ)) (id : ℕ) → held Fs id ≤ length Fs
held_most [] id = omega arith
held_most (F ∷ Fs) id = omega (arith, sum_by-cons (λ F. one_if (has F id)) F Fs, held_most Fs id, one_most (has F id))

-- how deep an id must be for the first list to hold it
first_held : (ids P : List ℕ) (F : List ℕ) (Fs : List (List ℕ)) (id pre : ℕ) → Nested ids P (F ∷ Fs) → (has F id ≡ false → pre ≡ 0) → nat_le (length (F ∷ Fs)) (pre + held (F ∷ Fs) id) ≡ has F id
first_held ids P F Fs id pre n h = cases (has F id)
    (λ e. le-leb (length (F ∷ Fs)) (pre + held (F ∷ Fs) id) (omega (arith, held_all ids P F Fs id n e)) ∙ sym e)
    (λ e. let f : one_if (has F id) ≡ 0 = ap one_if e in
    lt-leb (length (F ∷ Fs)) (pre + held (F ∷ Fs) id) (omega (arith, h e, f, sum_by-cons (λ F. one_if (has F id)) F Fs, held_most Fs id)) ∙ sym e)

-- ---- the bodies of a depth

zip_step : (n : ℕ) (b : BodyData) (d : ℕ) (xs : List (BodyData × ℕ)) (ys : List ℕ) (t : Bool) → map (λ x. x.0.id) xs ≡ ys → map (λ x. x.0.id) (cond t ((b, d) ∷ xs) xs) ≡ cond t (b.id ∷ ys) ys
zip_step n b d xs ys true e = ap (λ zs. b.id ∷ zs) e
zip_step n b d xs ys false e = e

deep_is : (n : ℕ) (d : ℕ → ℕ) (B : List BodyData) → map (λ x. x.0.id) (filter (λ x. nat_le n x.1) (zip B (map (λ b. d b.id) B))) ≡ filter (λ id. nat_le n (d id)) (ids_of B)
deep_is n d [] = refl
deep_is n d (b ∷ B) = zip_step n b (d b.id) (filter (λ x. nat_le n x.1) (zip B (map (λ b. d b.id) B))) (filter (λ id. nat_le n (d id)) (ids_of B)) (nat_le n (d b.id)) (deep_is n d B)

filter_same : (t u : ℕ → Bool) → ((id : ℕ) → t id ≡ u id) → (ids : List ℕ) → filter t ids ≡ filter u ids
filter_same t u e ids = λ i. filter (λ id. e id i) ids

filter_all : (t : ℕ → Bool) → ((id : ℕ) → t id ≡ true) → (ids : List ℕ) → filter t ids ≡ ids
filter_all t e [] = refl
filter_all t e (id ∷ ids) = (λ i. cond (e id i) (id ∷ filter t ids) (filter t ids)) ∙ ap (λ zs. id ∷ zs) (filter_all t e ids)

-- the bodies that as many of the lists hold as there are from here on
deep_head : (P : List ℕ) (σ : StateData) (Fs : List (List ℕ)) (d pre : ℕ → ℕ) → σ.depths ≡ map (λ b. d b.id) σ.bodies → P ≡ ids_of σ.bodies → Nested (ids_of σ.bodies) P Fs →
    ((id : ℕ) → d id ≡ pre id + held Fs id) → ((id : ℕ) → has (head_or P Fs) id ≡ false → pre id ≡ 0) → deep (length Fs) σ ≡ head_or P Fs
deep_head P σ [] d pre e p n f h =
    (λ i. map (λ x. x.0.id) (filter (λ x. nat_le 0 x.1) (zip σ.bodies (e i)))) ∙ deep_is 0 d σ.bodies ∙
    filter_all (λ id. nat_le 0 (d id)) (λ id. le-leb 0 (d id) (omega arith)) (ids_of σ.bodies) ∙ sym p
deep_head P σ (F ∷ Fs) d pre e p n f h =
    (λ i. map (λ x. x.0.id) (filter (λ x. nat_le (length (F ∷ Fs)) x.1) (zip σ.bodies (e i)))) ∙ deep_is (length (F ∷ Fs)) d σ.bodies ∙
    filter_same (λ id. nat_le (length (F ∷ Fs)) (d id)) (has F) (λ id. ap (nat_le (length (F ∷ Fs))) (f id) ∙ first_held (ids_of σ.bodies) P F Fs id (pre id) n (h id)) (ids_of σ.bodies) ∙
    n.0

-- with one list less from here on
less_held : (F : List ℕ) (Fs : List (List ℕ)) (d pre : ℕ → ℕ) → ((id : ℕ) → d id ≡ pre id + held (F ∷ Fs) id) → (id : ℕ) → d id ≡ pre id + one_if (has F id) + held Fs id
less_held F Fs d pre f id = omega (arith, f id, sum_by-cons (λ F. one_if (has F id)) F Fs)

less_none : (P F : List ℕ) (Fs : List (List ℕ)) (pre : ℕ → ℕ) → IsPart F (head_or P Fs) → ((id : ℕ) → has F id ≡ false → pre id ≡ 0) → (id : ℕ) → has (head_or P Fs) id ≡ false → pre id + one_if (has F id) ≡ 0
less_none P F Fs pre part h id e = cases (has F id)
    (λ f. absurd (false≢true (sym e ∙ part id f)))
    (λ f. let g : one_if (has F id) ≡ 0 = ap one_if f in omega (arith, h id f, g))

pub tells : (s : SetupData) (P : List ℕ) (σ : StateData) (c : ℕ) (Fs : List (List ℕ)) (d pre : ℕ → ℕ) → σ.depths ≡ map (λ b. d b.id) σ.bodies → P ≡ ids_of σ.bodies → Nested (ids_of σ.bodies) P Fs →
    ((id : ℕ) → d id ≡ pre id + held Fs id) → ((id : ℕ) → has (head_or P Fs) id ≡ false → pre id ≡ 0) → c + length Fs ≡ s.top_bin + 1 → Tells s σ P c Fs
tells s P σ c [] d pre e p n f h g = tt
tells s P σ c (F ∷ Fs) d pre e p n f h g =
    let more : ℕ → ℕ = λ id. pre id + one_if (has F id) in
    let at : (id : ℕ) → d id ≡ more id + held Fs id = less_held F Fs d pre f in
    let none : (id : ℕ) → has (head_or P Fs) id ≡ false → more id ≡ 0 = less_none P F Fs pre n.1 h in
    let here : s.top_bin - c + 1 ≡ length (F ∷ Fs) = omega (arith, g) in
    let there : s.top_bin - c ≡ length Fs = omega (arith, g) in (
      ap (λ k. deep k σ) here ∙ deep_head P σ (F ∷ Fs) d pre e p n f h,
      ap (λ k. deep k σ) there ∙ deep_head P σ Fs d more e p n.2 at none,
      tells s P σ (c + 1) Fs d more e p n.2 at none (omega (arith, g)),
    )

-- ---- a fast part is the part of the ids that it holds

filter_on : (t u : ℕ → Bool) (ids : List ℕ) → AllByRecursion (λ id. t id ≡ u id) ids → filter t ids ≡ filter u ids
filter_on t u [] e = refl
filter_on t u (id ∷ ids) e = λ i. cond (e.0 i) (id ∷ filter_on t u ids e.1 i) (filter_on t u ids e.1 i)

filtered_both : (b : BodyData) (ys zs : List BodyData) (u : BodyData → Bool) (t : Bool) → filter u ys ≡ zs → filter u (cond t (b ∷ ys) ys) ≡ cond (t && u b) (b ∷ zs) zs
filtered_both b ys zs u true e = λ i. cond (u b) (b ∷ e i) (e i)
filtered_both b ys zs u false e = e

filter_filter : (u v : BodyData → Bool) (B : List BodyData) → filter u (filter v B) ≡ filter (λ b. v b && u b) B
filter_filter u v [] = refl
filter_filter u v (b ∷ B) = filtered_both b (filter v B) (filter (λ b. v b && u b) B) u (v b) (filter_filter u v B)

none_step : (x : ℕ) (b : BodyData) (ys : List BodyData) (t : Bool) → x < b.id → has (ids_of ys) x ≡ false → has (ids_of (cond t (b ∷ ys) ys)) x ≡ false
none_step x b ys true h e = or_from (b.id == x) (has (ids_of ys) x) (ne_eqb b.id x (omega (arith, h))) e
none_step x b ys false h e = e

none_above : (x : ℕ) (w : BodyData → Bool) (B : List BodyData) → AllByRecursion (λ k. x < k.id) B → has (ids_of (filter w B)) x ≡ false
none_above x w [] a = refl
none_above x w (b ∷ B) a = none_step x b (filter w B) (w b) a.0 (none_above x w B a.1)

one_less : (x : ℕ) (G : List ℕ) (B : List BodyData) → AllByRecursion (λ k. x < k.id) B → AllByRecursion (λ id. has (x ∷ G) id ≡ has G id) (ids_of B)
one_less x G [] a = tt
one_less x G (b ∷ B) a = (ap (λ t. t || has G b.id) (ne_eqb x b.id (omega (arith, a.0))), one_less x G B a.1)

good_step : (b : BodyData) (B : List BodyData) (w : BodyData → Bool) (t : Bool) → AllByRecursion (λ k. b.id < k.id) B → filter (has (ids_of (filter w B))) (ids_of B) ≡ ids_of (filter w B) →
    filter (has (ids_of (cond t (b ∷ filter w B) (filter w B)))) (b.id ∷ ids_of B) ≡ ids_of (cond t (b ∷ filter w B) (filter w B))
good_step b B w true a e =
    let G = ids_of (filter w B) in
    (λ i. cond (eq-eqb b.id b.id refl i || has G b.id) (b.id ∷ filter (has (b.id ∷ G)) (ids_of B)) (filter (has (b.id ∷ G)) (ids_of B))) ∙
    ap (λ zs. b.id ∷ zs) (filter_on (has (b.id ∷ G)) (has G) (ids_of B) (one_less b.id G B a) ∙ e)
good_step b B w false a e =
    let G = ids_of (filter w B) in
    (λ i. cond (none_above b.id w B a i) (b.id ∷ filter (has G) (ids_of B)) (filter (has G) (ids_of B))) ∙ e

good : (w : BodyData → Bool) (B : List BodyData) → Ascending B → filter (has (ids_of (filter w B))) (ids_of B) ≡ ids_of (filter w B)
good w [] a = refl
good w (b ∷ B) a = good_step b B w (w b) a.0 (good w B a.1)

fast_good : (g : Gravity) (bin : ℕ) (P : List ℕ) (B : List BodyData) → IsStrictlyIncreasing (ids_of B) → filter (has (fast g bin (only B P))) (ids_of B) ≡ fast g bin (only B P)
unfolding fast
fast_good g bin P B inc =
    let u : BodyData → Bool = λ b. not (fits g.setup b (force_at g (only B P) b) bin) in
    let e : filter u (only B P) ≡ filter (λ b. has P b.id && u b) B = filter_filter u (λ b. has P b.id) B in
    (λ i. filter (has (ids_of (e i))) (ids_of B)) ∙ good (λ b. has P b.id && u b) B (ascending-from B inc) ∙ sym (ap ids_of e)

-- ---- the fast parts of a stopped step

-- what holds of a step in which the ids stay
abbrev pub Nests : List ℕ → List ℕ → Stepped → Type 0
Nests ids P (Going p) = ⊤
Nests ids P (Refused p e) = ⊤
Nests ids P (Resting p tick Fs) = Nested ids P Fs

abbrev pub stay : List ℕ → Progress → Type 0
stay ids p = ids_of p.bodies ≡ ids

pub ids_step : (f : BodyData → BodyData) → ((b : BodyData) → (f b).id ≡ b.id) → (b : BodyData) (t : Bool) → (cond t (f b) b).id ≡ b.id
ids_step f e b true = e b
ids_step f e b false = refl

pub ids_same : (f : BodyData → BodyData) → ((b : BodyData) → (f b).id ≡ b.id) → (P : List ℕ) (B : List BodyData) → ids_of (at_each P f B) ≡ ids_of B
ids_same f e P B = map-mapped (λ b. b.id) (λ b. cond (has P b.id) (f b) b) B ∙ map-same (λ b. (cond (has P b.id) (f b) b).id) (λ b. b.id) (λ b. ids_step f e b (has P b.id)) B

out_stays : (ids : List ℕ) (p q : Progress) (bin tick : ℕ) (out : Option (ℕ × ℕ)) → stay ids p → stay ids q → Holds (stay ids) (elim out [ Some first ↦ Refused p (MomRange tick bin first.0 first.1) | None ↦ Going q ])
out_stays ids p q bin tick None h g = g
out_stays ids p q bin tick (Some first) h g = h

pub stays : (r : Rules) (ids : List ℕ) → IsPreserved r (stay ids)
unfolding kick
stays r ids = record {
  binned = λ F p h. h;
  asked = λ B p h. h;
  rested = λ tick p h. h;
  drifted = λ P ticks p h. ids_same (drifted r.gravity.setup ticks) (λ b. refl) P p.bodies ∙ h;
  kicked = λ bin tick k P F p part h.
      let v = change r.gravity P F p.bodies in
      let C = kicked_bodies k P v p.bodies in
      out_stays ids p (tell (Kicked (record_of r tick bin P F p.bodies C)) (record p { bodies = C })) bin tick (cond (k == 0) None (first_out (only C P))) h
      (ids_same (λ b. record b { motion = record { pos = b.motion.pos; mom = kicked_by k b.motion.mom (v b) } }) (λ b. refl) P p.bodies ∙ h);
}

pub moves_nest : (ids P : List ℕ) (s : Stepped) → Moves s → Nests ids P s
moves_nest ids P (Going p) m = tt
moves_nest ids P (Refused p e) m = tt
moves_nest ids P (Resting p tick Fs) m = absurd m

pub bind_nests : (ids P : List ℕ) (s : Stepped) (f : Progress → Stepped) → Nests ids P s → Holds (stay ids) s → ((q : Progress) → stay ids q → Nests ids P (f q)) → Nests ids P (s >>= f)
bind_nests ids P (Going p) f n h g = g p h
bind_nests ids P (Refused p e) f n h g = tt
bind_nests ids P (Resting p tick Fs) f n h g = n

nested_more : (ids P F : List ℕ) (Fs : List (List ℕ)) → filter (has F) ids ≡ F → IsPart F P → Nested ids F Fs → Nested ids P (Fs ++ F ∷ [])
nested_more ids P F [] whole part n = (whole, part, tt)
nested_more ids P F (G ∷ Fs) whole part n = (n.0, subst (λ Q. IsPart G Q) (sym (head_more P F Fs)) n.1, nested_more ids P F Fs whole part n.2)

inside_nests : (ids P F : List ℕ) (s : Stepped) → filter (has F) ids ≡ F → IsPart F P → Nests ids F s → Nests ids P (inside (F ∷ []) s)
inside_nests ids P F (Going p) whole part n = tt
inside_nests ids P F (Refused p e) whole part n = tt
inside_nests ids P F (Resting p tick Fs) whole part n = nested_more ids P F Fs whole part n

pub cond_nests : (ids P : List ℕ) (b : Bool) (s t : Stepped) → Nests ids P s → Nests ids P t → Nests ids P (cond b s t)
cond_nests ids P true s t n m = n
cond_nests ids P false s t n m = m

pub rest_nests : (ids P : List ℕ) (stop : Option ℕ) (tick : ℕ) (p : Progress) → Nests ids P (rest stop tick p)
rest_nests ids P None tick p = tt
rest_nests ids P (Some s) tick p = cond_nests ids P (s == tick) (Resting (tell (Rested tick) p) tick []) (Going (tell (Rested tick) p)) tt tt

-- what is known of a finer step
abbrev pub Known : List ℕ → (List ℕ → ℕ → Progress → Stepped) → Type 0
Known ids finer = (F : List ℕ) (t : ℕ) (p : Progress) → stay ids p → Nests ids F (finer F t p) × Holds (stay ids) (finer F t p)

between_nests : (r : Rules) (ids : List ℕ) (stop : Option ℕ) (finer : List ℕ → ℕ → Progress → Stepped) → Known ids finer → (bin : ℕ) (P F : List ℕ) (t : ℕ) (p : Progress) → stay ids p →
    filter (has F) ids ≡ F → IsPart F P → Nests ids P (between stop finer bin F t p)
unfolding between
between_nests r ids stop finer f bin P F t p h whole part =
    let middle = t + 2 ^ (bin - 1) in
    let one = finer F t p in
    let two = one >>= (λ q. rest stop middle q) in
    let held : Holds (stay ids) two = bound (stay ids) one (λ q. rest stop middle q) (f F t p h).1 (λ q. rests r (stay ids) (stays r ids) stop middle q) in
    cond_nests ids P (is_empty F) (Going p) (inside (F ∷ []) (two >>= (λ q. finer F middle q))) tt
    (inside_nests ids P F (two >>= (λ q. finer F middle q)) whole part
    (bind_nests ids F two (λ q. finer F middle q)
    (bind_nests ids F one (λ q. rest stop middle q) (f F t p h).0 (f F t p h).1 (λ q g. rest_nests ids F stop middle q))
    held (λ q g. (f F middle q g).0)))

step_nests : (r : Rules) (ids : List ℕ) → IsStrictlyIncreasing ids → (stop : Option ℕ) (finer : List ℕ → ℕ → Progress → Stepped) → Known ids finer → (bin : ℕ) (P : List ℕ) (t : ℕ) (p : Progress) → stay ids p →
    Nests ids P (step_by r stop finer bin P t p)
unfolding step_by
step_nests r ids inc stop finer f bin P t p h =
    let half = 2 ^ (bin - 1) in
    let F = fast r.gravity bin (only p.bodies P) in
    let asked = not (is_empty F) && is_less F P in
    let known = ask_if asked F (tell (Binned F) p) in
    let k = kick_factor r.expansion t (t + half) in
    let first = kick r bin P F t k known in
    let part = fast_is_part r.gravity bin P p.bodies in
    let whole : filter (has F) ids ≡ F = subst (λ xs. filter (has F) xs ≡ F) h (fast_good r.gravity bin P p.bodies (subst IsStrictlyIncreasing (sym h) inc)) in
    let start : stay ids known = asks r (stay ids) (stays r ids) asked F (tell (Binned F) p) h in
    let held : Holds (stay ids) first = (stays r ids).kicked bin t k P F known part start in
    let second = first >>= (λ q. between stop finer bin F t q) in
    let kept : Holds (stay ids) second = bound (stay ids) first (λ q. between stop finer bin F t q) held (betweens r (stay ids) (stays r ids) stop finer (λ G u q g. (f G u q g).1) bin F t) in
    cond_nests ids P (bin == r.gravity.setup.low_bin && not (is_empty F)) (Refused p (StepRange t (slice_index F 0))) (second >>= (λ q. close r bin P F t q)) tt
    (bind_nests ids P second (λ q. close r bin P F t q)
    (bind_nests ids P first (λ q. between stop finer bin F t q) (moves_nest ids P first (kick_moves r bin P F t k known)) held (λ q g. between_nests r ids stop finer f bin P F t q g whole part))
    kept (λ q g. moves_nest ids P (close r bin P F t q) (close_moves r bin P F t q)))

pub evolve_known : (r : Rules) (ids : List ℕ) → IsStrictlyIncreasing ids → (stop : Option ℕ) (bin : ℕ) → Known ids (evolve r stop bin)
unfolding evolve
evolve_known r ids inc stop zero F t p h = (tt, h)
evolve_known r ids inc stop (suc c) F t p h = (step_nests r ids inc stop (evolve r stop c) (evolve_known r ids inc stop c) (c + 1) F t p h, evolves r (stay ids) (stays r ids) stop (suc c) F t p h)

-- ---- continue is the rest of the step

round_rest : (r : Rules) (σ : StateData) (bin : ℕ) (P F : List ℕ) → unfinished_fast r.gravity.setup σ bin ≡ F → unfinished r.gravity.setup σ bin ≡ P → (p : Progress) → round r None σ bin p ≡ rest_of_step r σ.tick bin P F p
unfolding round
round_rest r σ bin P F e f p =
    let s = r.gravity.setup in
    let t = began bin σ.tick in
    let middle = t + 2 ^ (bin - 1) in
    let G = unfinished_fast s σ bin in
    let ready : Stepped = cond (bin == low_zeros σ.tick + 1) (Going p) (rest None middle p) in
    let finer = ready >>= (λ q. evolve r None (bin - 1) G middle q) in
    let moves : Moves finer = bind_moves ready (λ q. evolve r None (bin - 1) G middle q) (cond_moves (bin == low_zeros σ.tick + 1) (Going p) (rest None middle p) tt tt) (evolve_moves r (bin - 1) G middle) in
    (λ i. cond (nat_le σ.tick middle) (inside_moves (fast_parts s σ bin) finer moves i) (Going p) >>= (λ q. close r bin (unfinished s σ bin) G t q)) ∙
    (λ i. rest_of_step r σ.tick bin (f i) (e i) p)

pub fold_rests : (r : Rules) (σ : StateData) (P : List ℕ) (c : ℕ) (Fs : List (List ℕ)) → Tells r.gravity.setup σ P c Fs → (s : Stepped) →
    fold (λ step bin. step >>= (λ q. round r None σ bin q)) s (range_with_len c (length Fs)) ≡ rest_of_steps r σ.tick P c Fs s
fold_rests r σ P c [] n s = refl
fold_rests r σ P c (F ∷ Fs) n s =
    ap (λ t. fold (λ step bin. step >>= (λ q. round r None σ bin q)) t (range_with_len (c + 1) (length Fs))) (bind_same s (λ q. round r None σ c q) (λ q. rest_of_step r σ.tick c (head_or P Fs) F q) (round_rest r σ c (head_or P Fs) F n.0 n.1)) ∙
    fold_rests r σ P (c + 1) Fs n.2 (s >>= (λ q. rest_of_step r σ.tick c (head_or P Fs) F q))

-- a stopped step, its fast parts, and the ids
pub finishes : (r : Rules) (u n : ℕ) (σ : StateData) (P : List ℕ) (p q : Progress) (tick : ℕ) (Fs : List (List ℕ)) (whole : Stepped) → P ≡ ids_of q.bodies → Nested (ids_of q.bodies) P Fs →
    IsStoppedAt r u r.gravity.setup.top_bin n P q tick Fs whole → IsFinished r (rest_state σ q tick Fs) q whole
unfolding continue
finishes r u n σ P p q tick Fs whole ids nested a =
    let s = r.gravity.setup in
    let ρ = rest_state σ q tick Fs in
    let z : Progress = record { bodies = q.bodies; trail = [] } in
    let v = low_zeros u in
    let W = rest_of_steps r u P (v + 1) Fs (Going z) in
    let F = unfinished_fast s ρ (low_zeros tick + 1) in
    let pre = Asked (only q.bodies F) ∷ [] in
    let told : Tells s ρ P (v + 1) Fs = tells s P ρ (v + 1) Fs (held Fs) (λ id. 0) refl ids nested (λ id. sym (zero-add (held Fs id))) (λ id e. refl) (omega (arith, a.count)) in
    let len : s.top_bin - v ≡ length Fs = omega (arith, a.count) in
    record {
      end = W;
      step = a.goes ∙ (λ i. rest_of_steps r u P (v + 1) Fs (Going (record q { trail = sym (append-nil q.trail) i }))) ∙ rest_steps_led r u P (v + 1) Fs q.trail (Going z);
      rest =
          (λ i. fold (λ step bin. step >>= (λ x. round r None ρ bin x)) (Going (led pre z)) (range_with_len (low_zeros (a.at i) + 1) (s.top_bin - low_zeros (a.at i)))) ∙
          (λ i. fold (λ step bin. step >>= (λ x. round r None ρ bin x)) (Going (led pre z)) (range_with_len (v + 1) (len i))) ∙
          fold_rests r ρ P (v + 1) Fs told (Going (led pre z)) ∙
          (λ i. rest_of_steps r (a.at i) P (v + 1) Fs (Going (led pre z))) ∙
          rest_steps_led r u P (v + 1) Fs pre (Going z);
    }

pub continue_finishes : ContinueFinishes
continue_finishes r u n σ p q tick Fs inc small e =
    let top = r.gravity.setup.top_bin in
    let P = ids_of p.bodies in
    let t = n * 2 ^ top in
    let known = evolve_known r P inc (Some u) top P t p refl in
    let nested : Nested P P Fs = subst (Nests P P) e known.0 in
    let ids : ids_of q.bodies ≡ P = subst (Holds (stay P)) e known.1 in
    let a : IsStoppedAt r u top n P q tick Fs (evolve r None top P t p) = subst (λ s. Agrees r u top n P s (evolve r None top P t p)) e (evolve_agrees r u top n P t p small refl) in
    finishes r u n σ P p q tick Fs (evolve r None top P t p) (sym ids) (subst (λ xs. Nested xs P Fs) (sym ids) nested) a
