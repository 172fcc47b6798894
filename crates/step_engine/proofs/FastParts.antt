-- The fast part of some bodies by places, and the rest of them.
use Rattle.std.proofs.Common.{◌≡◌, ◌≤◌, ◌<◌, ℕ, zero, suc, ◌+◌, Bool, true, false, cond, not, List, [], ◌∷◌, length, map, filter, get_or, refl, ap, sym, ◌∙◌, subst, arith}
use Rattle.std.specs.List.{AllByRecursion}
use Rattle.std.specs.List.Sorted.{IsStrictlyIncreasing}
use Rattle.std.proofs.lemmas.List.{get_or-map, length-map}
use Rattle.std.proofs.lemmas.List.Sums.{length-filter, count_by-le-length}
use Rattle.std.proofs.lemmas.List.Kept.{IsStrictlyIncreasing-filter}
use Rattle.nbody_model.specs.Bodies.{BodyData, has, only}
use Rattle.nbody_model.specs.Setups.{SetupData}
use Rattle.nbody_model.specs.Tables.{Gravity}
use Rattle.nbody_model.specs.Fields.{FieldData}
use Rattle.nbody_model.specs.Force.{force_at}
use Rattle.nbody_model.specs.Steps.{fits, fast, without}
use Rattle.model_laws.specs.Laws.{AreBodies}
use Rattle.model_laws.specs.Preserved.{IsPart}
use Rattle.model_laws.proofs.Among.{each-filter}
use Rattle.model_laws.proofs.Preserved.{fast_is_part}
use Rattle.kick_drift.specs.Parts.{ids_at, ArePlaces, AreAscending}
use Rattle.kick_drift.proofs.Rising.{rises, has-image}
use Rattle.kick_drift.proofs.Chosen.{Ascend, id_at, keeps_apart, places}
use Rattle.time_bins.specs.Parts.{AreOfFast}
use Rattle.step_engine.specs.Told.{AreForcesAmong}
use Rattle.step_engine.specs.Stands.{AreFastOf}
use Rattle.step_engine.proofs.Picks.{ids_only_at, length_only_at}

-- ---- places by places

abbrev pub through : List ℕ → List ℕ → List ℕ
through part chosen = map (λ q. get_or part q 0) chosen

within_all : (n : ℕ) (ps : List ℕ) → ((k : ℕ) → k < length ps → get_or ps k 0 < n) → AllByRecursion (λ p. p < n) ps
within_all n [] h = tt
within_all n (p ∷ ps) h = (h 0 (omega arith), within_all n ps (λ k lt. h (suc k) (omega (arith, lt))))

all_within : (n : ℕ) (ps : List ℕ) → AllByRecursion (λ p. p < n) ps → (k : ℕ) → k < length ps → get_or ps k 0 < n
all_within n [] a k lt = absurd (omega arith)
all_within n (p ∷ ps) a zero lt = a.0
all_within n (p ∷ ps) a (suc k) lt = all_within n ps a.1 k (omega (arith, lt))

named : (B : List BodyData) (part chosen : List ℕ) → AllByRecursion (λ q. q < length part) chosen → ids_at B (through part chosen) ≡ map (λ q. get_or (ids_at B part) q 0) chosen
named B part [] a = refl
named B part (q ∷ chosen) a =
    let first : id_at B (get_or part q 0) ≡ get_or (ids_at B part) q 0 = sym (get_or-map (id_at B) part q 0 0 a.0) in
    λ i. first i ∷ named B part chosen a.1 i

-- the ids of bodies of a part by their places in it
through_ids : (B : List BodyData) (part chosen : List ℕ) → Ascend B → AreAscending B part → ((k : ℕ) → k < length chosen → get_or chosen k 0 < length part) → ids_at B (through part chosen) ≡ ids_at (only B (ids_at B part)) chosen
through_ids B part chosen up a w =
    named B part chosen (within_all (length part) chosen w) ∙ ap (λ ids. map (λ q. get_or ids q 0) chosen) (sym (ids_only_at B part up a))

through_ascending : (B : List BodyData) (part chosen : List ℕ) → AreAscending B part → IsStrictlyIncreasing chosen → ((k : ℕ) → k < length chosen → get_or chosen k 0 < length part) → AreAscending B (through part chosen)
through_ascending B part chosen a up w =
    let long : length (through part chosen) ≡ length chosen = length-map chosen (λ q. get_or part q 0) in
    let there : (k : ℕ) → k < length chosen → get_or (through part chosen) k 0 ≡ get_or part (get_or chosen k 0) 0 = λ k lt. get_or-map (λ q. get_or part q 0) chosen k 0 0 lt in
    record {
      within = λ k lt. let l : k < length chosen = omega (arith, lt, long) in subst (λ n. n < length B) (sym (there k l)) (a.within (get_or chosen k 0) (w k l));
      ascending = λ k lt.
          let l : k + 1 < length chosen = omega (arith, lt, long) in
          let m : k < length chosen = omega (arith, l) in
          omega (arith, there k m, there (k + 1) l, rises part a.ascending (get_or chosen k 0) (get_or chosen (k + 1) 0) (up k l) (w (k + 1) l));
    }

-- ---- the fast part

full_step : {X : Type 0} (x : X) (xs ys : List X) (b : Bool) → length ys ≤ length xs → (length ys ≡ length xs → ys ≡ xs) → length (cond b (x ∷ ys) ys) ≡ suc (length xs) → cond b (x ∷ ys) ys ≡ x ∷ xs
full_step x xs ys true l h e = ap (λ zs. x ∷ zs) (h (omega (arith, e)))
full_step x xs ys false l h e = absurd (omega (arith, l, e))

pub filter_full : {X : Type 0} (t : X → Bool) (xs : List X) → length (filter t xs) ≡ length xs → filter t xs ≡ xs
filter_full t [] e = refl
filter_full t (x ∷ xs) e = full_step x xs (filter t xs) (t x) (omega (arith, length-filter t xs, count_by-le-length t xs)) (filter_full t xs) e

fast_all : (g : Gravity) (bin : ℕ) (C : List BodyData) → length (fast g bin C) ≡ length C → fast g bin C ≡ map (λ b. b.id) C
unfolding fast
fast_all g bin C e =
    let t : BodyData → Bool = λ b. not (fits g.setup b (force_at g C b) bin) in
    ap (map (λ b. b.id)) (filter_full t C (sym (length-map (filter t C) (λ b. b.id)) ∙ e))

pub fast_of : (s : SetupData) (bin : ℕ) (B : List BodyData) (part chosen : List ℕ) (f : FieldData) → AreBodies B → AreAscending B part → IsStrictlyIncreasing chosen → ((k : ℕ) → k < length chosen → get_or chosen k 0 < length (only B (ids_at B part))) →
    AreOfFast s bin (only B (ids_at B part)) f.forces chosen → AreFastOf s bin B part f (through part chosen)
fast_of s bin B part chosen f bodies a up w k =
    let P = ids_at B part in
    let C = only B P in
    let long : length C ≡ length part = length_only_at B part bodies.valid.ascending a in
    let within : (k : ℕ) → k < length chosen → get_or chosen k 0 < length part = λ k lt. subst (λ n. get_or chosen k 0 < n) long (w k lt) in
    let F = through part chosen in
    let is : (g : Gravity) → g.setup ≡ s → AreForcesAmong g C f → ids_at B F ≡ fast g bin C = λ g e h. through_ids B part chosen bodies.valid.ascending a within ∙ k g e h.forces in
    record {
      fast = is;
      of = λ g e h. record {
        places = through_ascending B part chosen a up within;
        part = subst (λ X. IsPart X P) (sym (is g e h)) (fast_is_part g bin P B);
        all = λ l.
            let same : length (fast g bin C) ≡ length C = ap length (sym (is g e h)) ∙ length-map F (id_at B) ∙ l ∙ sym long in
            is g e h ∙ fast_all g bin C same ∙ ids_only_at B part bodies.valid.ascending a;
      };
    }

-- ---- the others

kept_step : (B : List BodyData) (t : Bool) (p : ℕ) (xs ys : List ℕ) → map (id_at B) xs ≡ ys → map (id_at B) (cond (not t) (p ∷ xs) xs) ≡ cond (not t) (id_at B p ∷ ys) ys
kept_step B true p xs ys f = f
kept_step B false p xs ys f = ap (λ zs. id_at B p ∷ zs) f

without_step : (B : List BodyData) (t u : Bool) (p : ℕ) (xs ys : List ℕ) → t ≡ u → map (id_at B) xs ≡ ys → map (id_at B) (cond (not t) (p ∷ xs) xs) ≡ cond (not u) (id_at B p ∷ ys) ys
without_step B t u p xs ys e f = kept_step B t p xs ys f ∙ ap (λ v. cond (not v) (id_at B p ∷ ys) ys) e

without_named : (B : List BodyData) (fast part : List ℕ) → Ascend B → AreAscending B fast → AllByRecursion (λ p. p < length B) part → ids_at B (without fast part) ≡ without (ids_at B fast) (ids_at B part)
without_named B fast [] up a w = refl
without_named B fast (p ∷ part) up a w =
    without_step B (has fast p) (has (ids_at B fast) (id_at B p)) p (without fast part) (without (ids_at B fast) (ids_at B part)) (sym (has-image (id_at B) fast p (keeps_apart B fast p up a.within w.0))) (without_named B fast part up a w.1)

pub without_at : (B : List BodyData) (fast part : List ℕ) → Ascend B → AreAscending B fast → AreAscending B part → ids_at B (without fast part) ≡ without (ids_at B fast) (ids_at B part)
without_at B fast part up a w = without_named B fast part up a (within_all (length B) part w.within)

pub slow_places_are : (B : List BodyData) (fast part : List ℕ) → AreAscending B part → ArePlaces B (without fast part)
slow_places_are B fast part a =
    places B (without fast part) (record {
      within = all_within (length B) (without fast part) (each-filter (λ p. p < length B) (λ p. not (has fast p)) part (within_all (length B) part a.within));
      ascending = IsStrictlyIncreasing-filter (λ p. not (has fast p)) part a.ascending;
    })
