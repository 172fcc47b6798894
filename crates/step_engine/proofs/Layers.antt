-- The places of the bodies by their depths.
use Rattle.std.proofs.Common.{◌≡◌, ◌≤◌, ◌<◌, ◌==◌, ◌||◌, ◌+◌, ◌-◌, ℕ, zero, suc, Bool, true, false, cond, nat_le, List, [], ◌∷◌, length, map, filter, zip, get_or, count_by, min, refl, ap, sym, ◌∙◌, subst, arith, add-one, ⊎_elim}
use Rattle.std.specs.List.{range_with_len}
use Rattle.std.specs.List.Sorted.{IsStrictlyIncreasing}
use Rattle.std.proofs.lemmas.Bool.{false≢true, eq-eqb, ne_eqb, le-leb, lt-leb, leb-true, cases_lt}
use Rattle.std.proofs.lemmas.List.Sums.{sum_by-cons}
use Rattle.nbody_model.specs.Bodies.{BodyData, has}
use Rattle.nbody_model.specs.Setups.{SetupData}
use Rattle.nbody_model.specs.States.{StateData, deep, fast_parts}
use Rattle.model_laws.specs.Preserved.{IsPart}
use Rattle.model_laws.specs.Nests.{ids_of}
use Rattle.kick_drift.specs.Parts.{ids_at, AreAscending}
use Rattle.kick_drift.proofs.Rising.{has-image}
use Rattle.kick_drift.proofs.Chosen.{Ascend, id_at, keeps_apart}
use Rattle.time_bins.proofs.Fast.{map_cond}
use Rattle.step_engine.specs.Stands.{AreOf}
use Rattle.step_engine.specs.Resumed.{deep_from, whole_places, quick_places, quick_parts}
use Rattle.step_engine.proofs.Picks.{RisesFrom, has_below}

-- ---- they rise

lower_from : (n : ℕ) (ps : List ℕ) → RisesFrom (n + 1) ps → RisesFrom n ps
lower_from n [] r = tt
lower_from n (p ∷ ps) r = (omega (arith, r.0), r.1)

rise_step : (k : ℕ) (xs : List ℕ) (t : Bool) → RisesFrom (k + 1) xs → RisesFrom k (cond t (k ∷ xs) xs)
rise_step k xs true r = (omega arith, r)
rise_step k xs false r = lower_from k xs r

deep_rises : (n k : ℕ) (ds : List ℕ) → RisesFrom k (deep_from n k ds)
deep_rises n k [] = tt
deep_rises n k (d ∷ ds) = rise_step k (deep_from n (k + 1) ds) (nat_le n d) (deep_rises n (k + 1) ds)

next_rises : (k : ℕ) (ps : List ℕ) → RisesFrom k ps → (j : ℕ) → suc j < length ps → get_or ps j 0 < get_or ps (suc j) 0
next_rises k [] r j lt = absurd (omega arith)
next_rises k (p ∷ []) r j lt = absurd (omega arith)
next_rises k (p ∷ q ∷ ps) r zero lt = omega (arith, r.1.0)
next_rises k (p ∷ q ∷ ps) r (suc j) lt = next_rises (p + 1) (q ∷ ps) r.1 j (omega (arith, lt))

rises_strictly : (k : ℕ) (ps : List ℕ) → RisesFrom k ps → IsStrictlyIncreasing ps
rises_strictly k ps r j lt = subst (λ m. get_or ps j 0 < get_or ps m 0) (sym (add-one j)) (next_rises k ps r j (omega (arith, lt)))

below_step : (k m : ℕ) (xs : List ℕ) (t : Bool) → k < m → ((j : ℕ) → j < length xs → get_or xs j 0 < m) → (j : ℕ) → j < length (cond t (k ∷ xs) xs) → get_or (cond t (k ∷ xs) xs) j 0 < m
below_step k m xs true h f zero lt = h
below_step k m xs true h f (suc j) lt = f j (omega (arith, lt))
below_step k m xs false h f j lt = f j lt

deep_below : (n k m : ℕ) (ds : List ℕ) → k + length ds ≤ m → (j : ℕ) → j < length (deep_from n k ds) → get_or (deep_from n k ds) j 0 < m
deep_below n k m [] h j lt = absurd (omega arith)
deep_below n k m (d ∷ ds) h j lt = below_step k m (deep_from n (k + 1) ds) (nat_le n d) (omega (arith, h)) (deep_below n (k + 1) m ds (omega (arith, h))) j lt

pub deep_ascending : (B : List BodyData) (n : ℕ) (ds : List ℕ) → length ds ≡ length B → AreAscending B (deep_from n 0 ds)
deep_ascending B n ds e = record { within = deep_below n 0 (length B) ds (omega (arith, e)); ascending = rises_strictly 0 (deep_from n 0 ds) (deep_rises n 0 ds) }

-- ---- the ids there

shift_step : (k : ℕ) (xs ys : List ℕ) (t : Bool) → xs ≡ map suc ys → cond t ((k + 1) ∷ xs) xs ≡ map suc (cond t (k ∷ ys) ys)
shift_step k xs ys true e = λ i. add-one k i ∷ e i
shift_step k xs ys false e = e

deep_shift : (n k : ℕ) (ds : List ℕ) → deep_from n (k + 1) ds ≡ map suc (deep_from n k ds)
deep_shift n k [] = refl
deep_shift n k (d ∷ ds) = shift_step k (deep_from n (k + 1 + 1) ds) (deep_from n (k + 1) ds) (nat_le n d) (deep_shift n (k + 1) ds)

ids_up : (b : BodyData) (B : List BodyData) (ps : List ℕ) → ids_at (b ∷ B) (map suc ps) ≡ ids_at B ps
ids_up b B [] = refl
ids_up b B (p ∷ ps) = ap (λ xs. id_at B p ∷ xs) (ids_up b B ps)

ids_step : (b : BodyData) (B : List BodyData) (d : ℕ) (ps qs : List ℕ) (zs : List (BodyData × ℕ)) (t : Bool) → qs ≡ map suc ps → ids_at B ps ≡ map (λ x. x.0.id) zs → ids_at (b ∷ B) (cond t (0 ∷ qs) qs) ≡ map (λ x. x.0.id) (cond t ((b, d) ∷ zs) zs)
ids_step b B d ps qs zs true e f = ap (λ xs. b.id ∷ xs) (ap (ids_at (b ∷ B)) e ∙ ids_up b B ps ∙ f)
ids_step b B d ps qs zs false e f = ap (ids_at (b ∷ B)) e ∙ ids_up b B ps ∙ f

deep_ids : (B : List BodyData) (n : ℕ) (ds : List ℕ) → length ds ≡ length B → ids_at B (deep_from n 0 ds) ≡ map (λ x. x.0.id) (filter (λ x. nat_le n x.1) (zip B ds))
deep_ids [] n [] e = refl
deep_ids [] n (d ∷ ds) e = absurd (omega (arith, e))
deep_ids (b ∷ B) n [] e = absurd (omega (arith, e))
deep_ids (b ∷ B) n (d ∷ ds) e = ids_step b B d (deep_from n 0 ds) (deep_from n 1 ds) (filter (λ x. nat_le n x.1) (zip B ds)) (nat_le n d) (deep_shift n 0 ds) (deep_ids B n ds (omega (arith, e)))

-- of a state they are the bodies of at least that depth
pub deep_is : (σ : StateData) (B : List BodyData) (n : ℕ) (ds : List ℕ) → σ.bodies ≡ B → σ.depths ≡ ds → length ds ≡ length B → deep n σ ≡ ids_at B (deep_from n 0 ds)
deep_is σ B n ds b e f = (λ i. map (λ x. x.0.id) (filter (λ x. nat_le n x.1) (zip (b i) (e i)))) ∙ sym (deep_ids B n ds f)

pub quick_parts_are : (s : SetupData) (σ : StateData) (B : List BodyData) (ds : List ℕ) (bin : ℕ) → σ.bodies ≡ B → σ.depths ≡ ds → length ds ≡ length B → fast_parts s σ bin ≡ quick_parts B s.top_bin ds bin
quick_parts_are s σ B ds bin b e f = λ i. map (λ c. deep_is σ B (s.top_bin - c + 1) ds b e f i) (range_with_len bin (s.top_bin + 1 - bin))

-- all of them
all_step : (b : BodyData) (B : List BodyData) (ps qs : List ℕ) → qs ≡ map suc ps → ids_at B ps ≡ ids_of B → ids_at (b ∷ B) (0 ∷ qs) ≡ ids_of (b ∷ B)
all_step b B ps qs e f = ap (λ xs. b.id ∷ xs) (ap (ids_at (b ∷ B)) e ∙ ids_up b B ps ∙ f)

pub all_deep : (B : List BodyData) (ds : List ℕ) → length ds ≡ length B → ids_at B (deep_from 0 0 ds) ≡ ids_of B
all_deep [] [] e = refl
all_deep [] (d ∷ ds) e = absurd (omega (arith, e))
all_deep (b ∷ B) [] e = absurd (omega (arith, e))
all_deep (b ∷ B) (d ∷ ds) e =
    ap (λ t. ids_at (b ∷ B) (cond t (0 ∷ deep_from 0 1 ds) (deep_from 0 1 ds))) (le-leb 0 d (omega arith)) ∙ all_step b B (deep_from 0 0 ds) (deep_from 0 1 ds) (deep_shift 0 0 ds) (all_deep B ds (omega (arith, e)))

-- ---- one deeper is a part

or_later : (t b : Bool) → b ≡ true → (t || b) ≡ true
or_later true b e = refl
or_later false b e = e

or_both : (t a b : Bool) → (a ≡ true → b ≡ true) → (t || a) ≡ true → (t || b) ≡ true
or_both true a b f h = refl
or_both false a b f h = f h

part_step : (x : ℕ) (xs ys : List ℕ) (id : ℕ) (a b : Bool) → (a ≡ true → b ≡ true) → (has xs id ≡ true → has ys id ≡ true) → has (cond a (x ∷ xs) xs) id ≡ true → has (cond b (x ∷ ys) ys) id ≡ true
part_step x xs ys id true true f g h = or_both (x == id) (has xs id) (has ys id) g h
part_step x xs ys id true false f g h = absurd (false≢true (f refl))
part_step x xs ys id false true f g h = or_later (x == id) (has ys id) (g h)
part_step x xs ys id false false f g h = g h

less_deep : (n d : ℕ) → nat_le (n + 1) d ≡ true → nat_le n d ≡ true
less_deep n d e = le-leb n d (omega (arith, leb-true (n + 1) d e))

deeper_part : (u : ℕ → ℕ) (n k : ℕ) (ds : List ℕ) (id : ℕ) → has (map u (deep_from (n + 1) k ds)) id ≡ true → has (map u (deep_from n k ds)) id ≡ true
deeper_part u n k [] id h = h
deeper_part u n k (d ∷ ds) id h =
    ap (λ xs. has xs id) (map_cond u k (deep_from n (k + 1) ds) (nat_le n d)) ∙
    part_step (u k) (map u (deep_from (n + 1) (k + 1) ds)) (map u (deep_from n (k + 1) ds)) id (nat_le (n + 1) d) (nat_le n d) (less_deep n d) (deeper_part u n (k + 1) ds id)
    (sym (ap (λ xs. has xs id) (map_cond u k (deep_from (n + 1) (k + 1) ds) (nat_le (n + 1) d))) ∙ h)

fewer_step : (k : ℕ) (xs ys : List ℕ) (a b : Bool) → (a ≡ true → b ≡ true) → length xs ≤ length ys → length (cond a (k ∷ xs) xs) ≤ length (cond b (k ∷ ys) ys)
fewer_step k xs ys true true f h = omega (arith, h)
fewer_step k xs ys true false f h = absurd (false≢true (f refl))
fewer_step k xs ys false true f h = omega (arith, h)
fewer_step k xs ys false false f h = h

deeper_fewer : (n k : ℕ) (ds : List ℕ) → length (deep_from (n + 1) k ds) ≤ length (deep_from n k ds)
deeper_fewer n k [] = omega arith
deeper_fewer n k (d ∷ ds) = fewer_step k (deep_from (n + 1) (k + 1) ds) (deep_from n (k + 1) ds) (nat_le (n + 1) d) (nat_le n d) (less_deep n d) (deeper_fewer n (k + 1) ds)

same_step : (k : ℕ) (xs ys : List ℕ) (a b : Bool) → (a ≡ true → b ≡ true) → length xs ≤ length ys → (length xs ≡ length ys → xs ≡ ys) → length (cond a (k ∷ xs) xs) ≡ length (cond b (k ∷ ys) ys) → cond a (k ∷ xs) xs ≡ cond b (k ∷ ys) ys
same_step k xs ys true true f h g e = ap (λ zs. k ∷ zs) (g (omega (arith, e)))
same_step k xs ys true false f h g e = absurd (false≢true (f refl))
same_step k xs ys false true f h g e = absurd (omega (arith, h, e))
same_step k xs ys false false f h g e = g e

deeper_all : (n k : ℕ) (ds : List ℕ) → length (deep_from (n + 1) k ds) ≡ length (deep_from n k ds) → deep_from (n + 1) k ds ≡ deep_from n k ds
deeper_all n k [] e = refl
deeper_all n k (d ∷ ds) e = same_step k (deep_from (n + 1) (k + 1) ds) (deep_from n (k + 1) ds) (nat_le (n + 1) d) (nat_le n d) (less_deep n d) (deeper_fewer n (k + 1) ds) (deeper_all n (k + 1) ds) e

pub quick_is_part : (B : List BodyData) (top : ℕ) (ds : List ℕ) (bin : ℕ) → IsPart (ids_at B (quick_places top ds bin)) (ids_at B (whole_places top ds bin))
quick_is_part B top ds bin id h = deeper_part (id_at B) (top - bin) 0 ds id h

pub quick_of : (B : List BodyData) (top : ℕ) (ds : List ℕ) (bin : ℕ) → length ds ≡ length B → AreOf B (whole_places top ds bin) (quick_places top ds bin)
quick_of B top ds bin e = record {
  places = deep_ascending B (top - bin + 1) ds e;
  part = quick_is_part B top ds bin;
  all = λ l. ap (ids_at B) (deeper_all (top - bin) 0 ds l);
}

-- ---- in how many parts a body is

here_step : (n k : ℕ) (xs : List ℕ) (t : Bool) → RisesFrom (k + 1) xs → has (cond t (k ∷ xs) xs) (k + 0) ≡ t
here_step n k xs true r = ap (λ b. b || has xs (k + 0)) (eq-eqb k (k + 0) (omega arith))
here_step n k xs false r = has_below (k + 1) xs (k + 0) r (omega arith)

there_step : (k i : ℕ) (xs : List ℕ) (t : Bool) → has (cond t (k ∷ xs) xs) (k + suc i) ≡ has xs (k + suc i)
there_step k i xs true = ap (λ b. b || has xs (k + suc i)) (ne_eqb k (k + suc i) (λ e. omega (arith, e)))
there_step k i xs false = refl

deep_has : (n k i : ℕ) (ds : List ℕ) → i < length ds → has (deep_from n k ds) (k + i) ≡ nat_le n (get_or ds i 0)
deep_has n k i [] lt = absurd (omega arith)
deep_has n k zero (d ∷ ds) lt = here_step n k (deep_from n (k + 1) ds) (nat_le n d) (deep_rises n (k + 1) ds)
deep_has n k (suc i) (d ∷ ds) lt =
    let on : k + suc i ≡ k + 1 + i = omega arith in
    there_step k i (deep_from n (k + 1) ds) (nat_le n d) ∙ ap (has (deep_from n (k + 1) ds)) on ∙ deep_has n (k + 1) i ds (omega (arith, lt))

pub deep_holds : (B : List BodyData) (n i : ℕ) (ds : List ℕ) → Ascend B → length ds ≡ length B → i < length B → has (ids_at B (deep_from n 0 ds)) (id_at B i) ≡ nat_le n (get_or ds i 0)
deep_holds B n i ds up e lt =
    let a = deep_ascending B n ds e in
    let start : i ≡ 0 + i = omega arith in
    has-image (id_at B) (deep_from n 0 ds) i (keeps_apart B (deep_from n 0 ds) i up a.within lt) ∙ ap (has (deep_from n 0 ds)) start ∙ deep_has n 0 i ds (omega (arith, lt, e))

one_if : Bool → ℕ
one_if b = cond b 1 0

least_step : (d k : ℕ) → cond (nat_le (suc k) d) 1 0 + min d k ≡ min d (suc k)
least_step d k =
    ⊎_elim (λ lt. ap (λ (b : Bool). cond b 1 0 + min d k) (lt-leb (suc k) d lt) ∙ omega (arith, lt))
    (λ ge. ap (λ (b : Bool). cond b 1 0 + min d k) (le-leb (suc k) d ge) ∙ omega (arith, ge))
    (cases_lt d (suc k))

count_range : (B : List BodyData) (top : ℕ) (ds : List ℕ) (i : ℕ) (bin k : ℕ) → Ascend B → length ds ≡ length B → i < length B → bin + k ≡ top + 1 →
    count_by (λ F. has F (id_at B i)) (map (λ c. ids_at B (quick_places top ds c)) (range_with_len bin k)) ≡ min (get_or ds i 0) k
count_range B top ds i bin zero up e lt s = omega arith
count_range B top ds i bin (suc k) up e lt s =
    let id = id_at B i in
    let F = ids_at B (quick_places top ds bin) in
    let Fs = map (λ c. ids_at B (quick_places top ds c)) (range_with_len (bin + 1) k) in
    let here : top - bin + 1 ≡ suc k = omega (arith, s) in
    let holds : has F id ≡ nat_le (suc k) (get_or ds i 0) = deep_holds B (top - bin + 1) i ds up e lt ∙ ap (λ n. nat_le n (get_or ds i 0)) here in
    let rest : count_by (λ F. has F id) Fs ≡ min (get_or ds i 0) k = count_range B top ds i (bin + 1) k up e lt (omega (arith, s)) in
    sum_by-cons (λ F. cond (has F id) 1 0) F Fs ∙ (λ j. cond (holds j) 1 0 + rest j) ∙ least_step (get_or ds i 0) k

-- in as many of the parts from a bin up as it is deep, if there are so many
pub count_parts : (B : List BodyData) (top : ℕ) (ds : List ℕ) (i bin : ℕ) → Ascend B → length ds ≡ length B → i < length B → bin ≤ top + 1 → count_by (λ F. has F (id_at B i)) (quick_parts B top ds bin) ≡ min (get_or ds i 0) (top + 1 - bin)
count_parts B top ds i bin up e lt h = count_range B top ds i bin (top + 1 - bin) up e lt (omega (arith, h))
