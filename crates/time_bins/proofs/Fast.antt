-- The places that don't fit ascend, and the bodies there are the fast ones.
use Rattle.std.proofs.Common.{◌≡◌, ℕ, zero, suc, ◌+◌, ◌<◌, ◌≤◌, Bool, true, false, cond, not, List, [], ◌∷◌, length, map, filter, get_or, arith, refl, ap, sym, subst, ◌∙◌}
use Rattle.std.specs.List.{enumerate_from, zip}
use Rattle.std.specs.List.Sorted.{IsStrictlyIncreasing}
use Rattle.std.proofs.lemmas.Slice.Zip.{length-zip, get_or-zip}
use Rattle.std.proofs.lemmas.List.{get_or-map, length-map}
use Rattle.fixed_point.specs.declared.V3.{V3}
use Rattle.nbody_model.specs.Bodies.{BodyData}
use Rattle.nbody_model.specs.Setups.{SetupData}
use Rattle.nbody_model.specs.Tables.{Gravity}
use Rattle.nbody_model.specs.Force.{force_at, forces}
use Rattle.nbody_model.specs.Steps.{fits, fast}
use Rattle.time_bins.specs.Parts.{unfit, unfit_places}

-- the id at a place
abbrev pub get_or_id : List BodyData → ℕ → ℕ
get_or_id B i = get_or (map (λ b. b.id) B) i 0

-- the numbers, from n on, of those of a list for which t holds
abbrev pub numbers : {X : Type 0} → (X → Bool) → ℕ → List X → List ℕ
numbers t n xs = map (λ p. p.0) (filter (λ p. t p.1) (enumerate_from n xs))

step : {X : Type 0} (t : X → Bool) (n : ℕ) (x : X) (xs : List X) → numbers t n (x ∷ xs) ≡ cond (t x) (n ∷ numbers t (n + 1) xs) (numbers t (n + 1) xs)
step t n x xs = chosen (t x)
  where
    chosen : (b : Bool) → map (λ p. p.0) (cond b ((n, x) ∷ filter (λ p. t p.1) (enumerate_from (n + 1) xs)) (filter (λ p. t p.1) (enumerate_from (n + 1) xs))) ≡ cond b (n ∷ numbers t (n + 1) xs) (numbers t (n + 1) xs)
    chosen true = refl
    chosen false = refl

-- every number lies among those of the list
abbrev pub Between : ℕ → ℕ → List ℕ → Type 0
Between low high ns = (k : ℕ) → k < length ns → (low ≤ get_or ns k 0) × (get_or ns k 0 < high)

between_cons : (n high : ℕ) (ns : List ℕ) (b : Bool) → n < high → Between (n + 1) high ns → Between n high (cond b (n ∷ ns) ns)
between_cons n high ns false l h k lt = (omega (arith, (h k lt).0), (h k lt).1)
between_cons n high ns true l h zero lt = (omega arith, l)
between_cons n high ns true l h (suc k) lt = let r = h k (omega arith) in (omega (arith, r.0), r.1)

pub between : {X : Type 0} (t : X → Bool) (n : ℕ) (xs : List X) → Between n (n + length xs) (numbers t n xs)
between t n [] = λ k lt. absurd (omega arith)
between t n (x ∷ xs) =
    let same : n + 1 + length xs ≡ n + suc (length xs) = omega arith in
    subst (Between n (n + suc (length xs))) (sym (step t n x xs)) (between_cons n (n + suc (length xs)) (numbers t (n + 1) xs) (t x) (omega arith) (subst (λ high. Between (n + 1) high (numbers t (n + 1) xs)) same (between t (n + 1) xs)))

rising_on : (n high : ℕ) (ns : List ℕ) → Between (n + 1) high ns → IsStrictlyIncreasing ns → IsStrictlyIncreasing (n ∷ ns)
rising_on n high ns h up zero lt = let r = h 0 (omega arith) in omega (arith, r.0)
rising_on n high ns h up (suc k) lt =
    let next : k + 1 < length ns = omega arith in
    let e : suc (k + 1) ≡ suc k + 1 = omega arith in
    subst (λ j. get_or ns k 0 < get_or (n ∷ ns) j 0) e (up k next)

rising_cons : (n high : ℕ) (ns : List ℕ) (b : Bool) → Between (n + 1) high ns → IsStrictlyIncreasing ns → IsStrictlyIncreasing (cond b (n ∷ ns) ns)
rising_cons n high ns false h up = up
rising_cons n high ns true h up = rising_on n high ns h up

pub rising : {X : Type 0} (t : X → Bool) (n : ℕ) (xs : List X) → IsStrictlyIncreasing (numbers t n xs)
rising t n [] = λ k lt. absurd (omega arith)
rising t n (x ∷ xs) = subst IsStrictlyIncreasing (sym (step t n x xs)) (rising_cons n (n + 1 + length xs) (numbers t (n + 1) xs) (t x) (between t (n + 1) xs) (rising t (n + 1) xs))

pub map_cond : {X : Type 0} (id : X → ℕ) (x : X) (xs : List X) (b : Bool) → map id (cond b (x ∷ xs) xs) ≡ cond b (id x ∷ map id xs) (map id xs)
map_cond id x xs true = refl
map_cond id x xs false = refl

named : {X : Type 0} (t : X → Bool) (id : X → ℕ) (u : ℕ → ℕ) (n : ℕ) (xs : List X) → ((k : ℕ) (d : X) → k < length xs → u (n + k) ≡ id (get_or xs k d)) → map u (numbers t n xs) ≡ map id (filter t xs)
named t id u n [] h = refl
named t id u n (x ∷ xs) h =
    let zeroth : n + 0 ≡ n = omega arith in
    let here : u n ≡ id x = ap u (sym zeroth) ∙ h 0 x (omega arith) in
    let rest : map u (numbers t (n + 1) xs) ≡ map id (filter t xs) = named t id u (n + 1) xs (λ k d lt. let e : n + 1 + k ≡ n + suc k = omega arith in ap u e ∙ h (suc k) d (omega arith)) in
    ap (map u) (step t n x xs) ∙ map_cond u n (numbers t (n + 1) xs) (t x) ∙ (λ i. cond (t x) (here i ∷ rest i) (rest i)) ∙ sym (map_cond id x (filter t xs) (t x))

forced : (s : SetupData) (bin : ℕ) (h : BodyData → V3) (B : List BodyData) → map (λ (p : BodyData × V3). p.0.id) (filter (unfit s bin) (zip B (map h B))) ≡ map (λ b. b.id) (filter (λ b. not (fits s b (h b) bin)) B)
forced s bin h [] = refl
forced s bin h (b ∷ B) =
    map_cond (λ (p : BodyData × V3). p.0.id) (b, h b) (filter (unfit s bin) (zip B (map h B))) (not (fits s b (h b) bin))
    ∙ ap (λ ids. cond (not (fits s b (h b) bin)) (b.id ∷ ids) ids) (forced s bin h B)
    ∙ sym (map_cond (λ (o : BodyData). o.id) b (filter (λ o. not (fits s o (h o) bin)) B) (not (fits s b (h b) bin)))

pub unfit_within : (s : SetupData) (bin : ℕ) (B : List BodyData) (fs : List V3) → length fs ≡ length B → (k : ℕ) → k < length (unfit_places s bin B fs) → get_or (unfit_places s bin B fs) k 0 < length B
unfit_within s bin B fs e k lt = let r = between (unfit s bin) 0 (zip B fs) k lt in omega (arith, r.1, length-zip B fs, e)

pub unfit_rising : (s : SetupData) (bin : ℕ) (B : List BodyData) (fs : List V3) → IsStrictlyIncreasing (unfit_places s bin B fs)
unfit_rising s bin B fs = rising (unfit s bin) 0 (zip B fs)

pub fast_ids : (s : SetupData) (bin : ℕ) (B : List BodyData) (fs : List V3) (g : Gravity) → g.setup ≡ s → fs ≡ forces g B → map (get_or_id B) (unfit_places s bin B fs) ≡ fast g bin B
unfolding fast forces
fast_ids s bin B fs g es ef =
    ap (λ xs. map (get_or_id B) (unfit_places s bin B xs)) ef
    ∙ named (unfit s bin) (λ (p : BodyData × V3). p.0.id) (get_or_id B) 0 (zip B (map (force_at g B) B)) each
    ∙ forced s bin (force_at g B) B
    ∙ ap (λ (x : SetupData). map (λ b. b.id) (filter (λ b. not (fits x b (force_at g B b) bin)) B)) (sym es)
  where
    long : length (map (force_at g B) B) ≡ length B
    long = length-map B (force_at g B)

    each : (k : ℕ) (d : BodyData × V3) → k < length (zip B (map (force_at g B) B)) → get_or_id B (0 + k) ≡ (get_or (zip B (map (force_at g B) B)) k d).0.id
    each k d lt =
        let within : k < length B = omega (arith, lt, length-zip B (map (force_at g B) B), long) in
        let start : 0 + k ≡ k = omega arith in
        ap (get_or_id B) start ∙ get_or-map (λ (b : BodyData). b.id) B k d.0 0 within ∙ sym (ap (λ (p : BodyData × V3). p.0.id) (get_or-zip B (map (force_at g B) B) k d within (omega (arith, long, within))))
