-- The bodies at some ascending places.
use Rattle.std.proofs.Common.{◌≡◌, ◌≢◌, ◌≤◌, ◌<◌, ◌||◌, ℕ, suc, ◌+◌, ◌-◌, Bool, true, false, cond, List, [], ◌∷◌, length, map, filter, get_or, refl, ap, sym, ◌∙◌, subst, arith, ⊎_elim, eq-eqb}
use Rattle.std.specs.Prelude.{⊤}
use Rattle.std.specs.List.Sorted.{IsStrictlyIncreasing}
use Rattle.std.proofs.lemmas.Bool.{cases_order}
use Rattle.std.proofs.lemmas.List.{length-map}
use Rattle.nbody_model.specs.Bodies.{BodyData, has, only}
use Rattle.kick_drift.specs.Parts.{ids_at, AreAscending}
use Rattle.kick_drift.proofs.Rising.{rises, not_same, has-image}
use Rattle.kick_drift.proofs.Chosen.{Ascend, id_at, id_at_is, keeps_apart, blank}

-- numbers that rise from n on
abbrev pub RisesFrom : ℕ → List ℕ → Type 0
RisesFrom n [] = ⊤
RisesFrom n (p ∷ ps) = (n ≤ p) × RisesFrom (p + 1) ps

pub rises_from : (n : ℕ) (ps : List ℕ) → IsStrictlyIncreasing ps → ((k : ℕ) → k < length ps → n ≤ get_or ps k 0) → RisesFrom n ps
rises_from n [] up low = tt
rises_from n (p ∷ ps) up low = (
  low 0 (omega arith),
  rises_from (p + 1) ps (λ k lt. rises (p ∷ ps) up (suc k) (suc (k + 1)) (omega arith) (omega (arith, lt))) (λ k lt. omega (arith, rises (p ∷ ps) up 0 (suc k) (omega arith) (omega (arith, lt)))),
)

pub has_below : (n : ℕ) (ps : List ℕ) (m : ℕ) → RisesFrom n ps → m < n → has ps m ≡ false
has_below n [] m r lt = refl
has_below n (p ∷ ps) m r lt = ap (λ t. t || has ps m) (not_same p m (λ e. omega (arith, e, r.0, lt))) ∙ has_below (p + 1) ps m r.1 (omega (arith, r.0, lt))

-- the same places, counted from one further on
shift : (b : BodyData) (C : List BodyData) (n : ℕ) (ps : List ℕ) → RisesFrom (n + 1) ps → map (λ q. get_or (b ∷ C) (q - n) blank) ps ≡ map (λ q. get_or C (q - (n + 1)) blank) ps
shift b C n [] r = refl
shift b C n (p ∷ ps) r =
    let e : p - n ≡ suc (p - (n + 1)) = omega (arith, r.0) in
    let first : get_or (b ∷ C) (p - n) blank ≡ get_or C (p - (n + 1)) blank = ap (λ k. get_or (b ∷ C) k blank) e in
    λ i. first i ∷ shift b C n ps (weaker n p ps r.0 r.1) i
  where
    weaker : (n p : ℕ) (ps : List ℕ) → n + 1 ≤ p → RisesFrom (p + 1) ps → RisesFrom (n + 1) ps
    weaker n p [] h r = tt
    weaker n p (q ∷ ps) h r = (omega (arith, h, r.0), r.1)

-- a test of bodies that stand from place n on takes those at some places
abbrev Picks : (BodyData → Bool) → List BodyData → ℕ → Type 0
Picks v C n =
    (ps : List ℕ) → RisesFrom n ps → ((k : ℕ) → k < length ps → get_or ps k 0 < n + length C) → ((k : ℕ) → k < length C → v (get_or C k blank) ≡ has ps (n + k)) → filter v C ≡ map (λ p. get_or C (p - n) blank) ps

further : (n k : ℕ) → n + suc k ≡ n + 1 + k
further n k = omega arith

pick_here : (v : BodyData → Bool) (b : BodyData) (C : List BodyData) (n p : ℕ) (ps : List ℕ) → Picks v C (n + 1) → n ≡ p → RisesFrom n (p ∷ ps) → ((k : ℕ) → k < suc (length ps) → get_or (p ∷ ps) k 0 < n + suc (length C)) →
    ((k : ℕ) → k < suc (length C) → v (get_or (b ∷ C) k blank) ≡ has (p ∷ ps) (n + k)) → filter v (b ∷ C) ≡ map (λ p. get_or (b ∷ C) (p - n) blank) (p ∷ ps)
pick_here v b C n p ps rest e r l h =
    let first : v b ≡ true = h 0 (omega arith) ∙ ap (λ t. t || has ps (n + 0)) (eq-eqb p (n + 0) (omega (arith, e))) in
    let up : RisesFrom (n + 1) ps = subst (λ m. RisesFrom (m + 1) ps) (sym e) r.1 in
    let tail : filter v C ≡ map (λ q. get_or C (q - (n + 1)) blank) ps =
    rest ps up (λ k lt. let a : get_or ps k 0 < n + suc (length C) = l (suc k) (omega (arith, lt)) in omega (arith, a))
    (λ k lt. h (suc k) (omega (arith, lt)) ∙ ap (λ t. t || has ps (n + suc k)) (not_same p (n + suc k) (λ d. omega (arith, d, e))) ∙ ap (has ps) (further n k)) in
    let zeroth : 0 ≡ p - n = omega (arith, e) in
    ap (λ t. cond t (b ∷ filter v C) (filter v C)) first ∙ (λ i. get_or (b ∷ C) (zeroth i) blank ∷ (tail ∙ sym (shift b C n ps up)) i)

pick_there : (v : BodyData → Bool) (b : BodyData) (C : List BodyData) (n p : ℕ) (ps : List ℕ) → Picks v C (n + 1) → n < p → RisesFrom n (p ∷ ps) → ((k : ℕ) → k < suc (length ps) → get_or (p ∷ ps) k 0 < n + suc (length C)) →
    ((k : ℕ) → k < suc (length C) → v (get_or (b ∷ C) k blank) ≡ has (p ∷ ps) (n + k)) → filter v (b ∷ C) ≡ map (λ p. get_or (b ∷ C) (p - n) blank) (p ∷ ps)
pick_there v b C n p ps rest lt r l h =
    let up : RisesFrom (n + 1) (p ∷ ps) = (omega (arith, lt), r.1) in
    let first : v b ≡ false = h 0 (omega arith) ∙ has_below p (p ∷ ps) (n + 0) (omega arith, r.1) (omega (arith, lt)) in
    ap (λ t. cond t (b ∷ filter v C) (filter v C)) first ∙
    rest (p ∷ ps) up (λ k less. let a : get_or (p ∷ ps) k 0 < n + suc (length C) = l k less in omega (arith, a)) (λ k less. h (suc k) (omega (arith, less)) ∙ ap (has (p ∷ ps)) (further n k)) ∙
    sym (shift b C n (p ∷ ps) up)

pick : (v : BodyData → Bool) (C : List BodyData) (n : ℕ) → Picks v C n
pick v [] n [] r l h = refl
pick v [] n (p ∷ ps) r l h = absurd (let a : p < n + 0 = l 0 (omega arith) in omega (arith, r.0, a))
pick v (b ∷ C) n [] r l h =
    ap (λ t. cond t (b ∷ filter v C) (filter v C)) (h 0 (omega arith)) ∙ pick v C (n + 1) [] tt (λ k lt. absurd (omega arith)) (λ k lt. h (suc k) (omega (arith, lt)))
pick v (b ∷ C) n (p ∷ ps) r l h =
    ⊎_elim (λ e. pick_here v b C n p ps (pick v C (n + 1)) e r l h)
    (λ o. ⊎_elim (λ lt. pick_there v b C n p ps (pick v C (n + 1)) lt r l h) (λ gt. absurd (omega (arith, gt, r.0))) o)
    (cases_order n p)

-- the bodies whose ids are those at ascending places are the bodies at these places
pub only_at : (B : List BodyData) (ps : List ℕ) → Ascend B → AreAscending B ps → only B (ids_at B ps) ≡ map (λ p. get_or B p blank) ps
only_at B ps up a =
    pick (λ b. has (ids_at B ps) b.id) B 0 ps (rises_from 0 ps a.ascending (λ k lt. omega arith)) (λ k lt. let w : get_or ps k 0 < length B = a.within k lt in omega (arith, w))
    (λ k lt.
    let start : k ≡ 0 + k = omega arith in
    ap (has (ids_at B ps)) (sym (id_at_is B k blank lt)) ∙ has-image (id_at B) ps k (keeps_apart B ps k up a.within lt) ∙ ap (has ps) start)
    ∙ ap (λ (u : ℕ → ℕ). map (λ p. get_or B (u p) blank) ps) (λ i p. same p i)
  where
    same : (p : ℕ) → p - 0 ≡ p
    same p = omega arith

picked_ids : (B : List BodyData) (ps : List ℕ) → ((k : ℕ) → k < length ps → get_or ps k 0 < length B) → map (λ b. b.id) (map (λ p. get_or B p blank) ps) ≡ ids_at B ps
picked_ids B [] w = refl
picked_ids B (p ∷ ps) w =
    let first : (get_or B p blank).id ≡ id_at B p = sym (id_at_is B p blank (w 0 (omega arith))) in
    λ i. first i ∷ picked_ids B ps (λ k lt. w (suc k) (omega (arith, lt))) i

-- their ids are the ids at these places
pub ids_only_at : (B : List BodyData) (ps : List ℕ) → Ascend B → AreAscending B ps → map (λ b. b.id) (only B (ids_at B ps)) ≡ ids_at B ps
ids_only_at B ps up a = ap (map (λ b. b.id)) (only_at B ps up a) ∙ picked_ids B ps a.within

-- and there are as many
pub length_only_at : (B : List BodyData) (ps : List ℕ) → Ascend B → AreAscending B ps → length (only B (ids_at B ps)) ≡ length ps
length_only_at B ps up a = ap length (only_at B ps up a) ∙ length-map ps (λ p. get_or B p blank)

pub other_lengths : (B : List BodyData) (xs ys : List ℕ) → length xs ≢ length ys → length (ids_at B xs) ≢ length (ids_at B ys)
other_lengths B xs ys h e = h (sym (length-map xs (id_at B)) ∙ e ∙ length-map ys (id_at B))
