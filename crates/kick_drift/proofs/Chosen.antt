-- Bodies chosen by their places.
use Rattle.std.proofs.Common.{◌≡◌, ℕ, zero, suc, ◌+◌, ◌<◌, ◌≤◌, ◌==◌, ◌≢◌, Bool, true, false, cond, List, [], ◌∷◌, ◌++◌, length, map, take, get_or, arith, refl, ap, sym, ◌∙◌, eq-eqb}
use Rattle.std.specs.List.{slice_get}
use Rattle.std.specs.Prelude.{Some}
use Rattle.std.specs.List.Sorted.{IsStrictlyIncreasing}
use Rattle.std.proofs.lemmas.List.{get_or-map, length-map, map-append, take_more, take_all, get_or-take, length-take}
use Rattle.fixed_point.specs.declared.V3.{V3}
use Rattle.fixed_point.specs.Vectors.{origin}
use Rattle.nbody_model.specs.Bodies.{BodyData, MotionData, has}
use Rattle.nbody_model.specs.Steps.{at_each}
use Rattle.particle_set.specs.Motions.{with_motion, with_motion_at}
use Rattle.kick_drift.specs.Parts.{ids_at, force_for, less_fast, change_of, ArePlaces, AreAscending}
use Rattle.kick_drift.proofs.Rising.{rises, injective, not_same, same_tests, has_none, has-same, has-last, has-image, force_for-image, less_fast-image, force_at_place, KeepsApart}

abbrev pub Ascend : List BodyData → Type 0
Ascend B = IsStrictlyIncreasing (map (λ b. b.id) B)

-- the id at a place
abbrev pub id_at : List BodyData → ℕ → ℕ
id_at B i = get_or (map (λ b. b.id) B) i 0

pub id_at_is : (B : List BodyData) (i : ℕ) (d : BodyData) → i < length B → id_at B i ≡ (get_or B i d).id
id_at_is B i d l = get_or-map (λ (b : BodyData). b.id) B i d 0 l

pub apart : (B : List BodyData) → Ascend B → (a b : ℕ) → a < length B → b < length B → (id_at B a == id_at B b) ≡ (a == b)
apart B up a b la lb =
    let long : length (map (λ b. b.id) B) ≡ length B = length-map B (λ (b : BodyData). b.id) in
    same_tests (id_at B a) (id_at B b) a b (injective (map (λ b. b.id) B) up a b (omega (arith, long)) (omega (arith, long))) (λ e. ap (id_at B) e)

pub keeps_apart : (B : List BodyData) (xs : List ℕ) (x : ℕ) → Ascend B → ((k : ℕ) → k < length xs → get_or xs k 0 < length B) → x < length B → KeepsApart (id_at B) xs x
keeps_apart B xs x up within l k lt = apart B up (get_or xs k 0) x (within k lt) l

-- ascending places are different ones
pub places : (B : List BodyData) (ps : List ℕ) → AreAscending B ps → ArePlaces B ps
places B ps a = record { within = a.within; distinct = λ j k lt l same. omega (arith, rises ps a.ascending j k lt l, same) }

-- ---- one body more

chosen_tail : (Q : List ℕ) (x : ℕ) (K : BodyData → BodyData) (B : List BodyData) → ((j : ℕ) → j < length B → (x == id_at B j) ≡ false) → at_each Q K B ≡ at_each (Q ++ x ∷ []) K B
chosen_tail Q x K [] h = refl
chosen_tail Q x K (b ∷ B) h =
    let here : has Q b.id ≡ has (Q ++ x ∷ []) b.id = sym (has-same Q x b.id (h 0 (omega arith))) in
    let rest : at_each Q K B ≡ at_each (Q ++ x ∷ []) K B = chosen_tail Q x K B (λ j lt. h (suc j) (omega arith)) in
    λ i. cond (here i) (K b) b ∷ rest i

again : (M : BodyData → MotionData) (b : BodyData) (t : Bool) (m : MotionData) → m ≡ M b → with_motion (cond t (with_motion b (M b)) b) m ≡ with_motion b (M b)
again M b true m e = ap (with_motion b) e
again M b false m e = ap (with_motion b) e

pub chosen_more : (Q : List ℕ) (M : BodyData → MotionData) (B : List BodyData) (i : ℕ) (d : BodyData) (m : MotionData) → i < length B → m ≡ M (get_or B i d) → ((j : ℕ) → j < length B → j ≢ i → (id_at B i == id_at B j) ≡ false) →
    with_motion_at (at_each Q (λ b. with_motion b (M b)) B) i m ≡ at_each (Q ++ id_at B i ∷ []) (λ b. with_motion b (M b)) B
chosen_more Q M [] i d m l e h = absurd (omega arith)
chosen_more Q M (b ∷ B) zero d m l e h =
    let here : has (Q ++ b.id ∷ []) b.id ≡ true = has-last Q b.id b.id (eq-eqb b.id b.id refl) in
    let body : with_motion (cond (has Q b.id) (with_motion b (M b)) b) m ≡ cond (has (Q ++ b.id ∷ []) b.id) (with_motion b (M b)) b =
    again M b (has Q b.id) m e ∙ sym (ap (λ t. cond t (with_motion b (M b)) b) here) in
    let rest : at_each Q (λ b. with_motion b (M b)) B ≡ at_each (Q ++ b.id ∷ []) (λ b. with_motion b (M b)) B = chosen_tail Q b.id (λ b. with_motion b (M b)) B (λ j lt. h (suc j) (omega arith) (omega arith)) in
    λ i. body i ∷ rest i
chosen_more Q M (b ∷ B) (suc i) d m l e h =
    let here : has Q b.id ≡ has (Q ++ id_at B i ∷ []) b.id = sym (has-same Q (id_at B i) b.id (h 0 (omega arith) (omega arith))) in
    let rest : with_motion_at (at_each Q (λ b. with_motion b (M b)) B) i m ≡ at_each (Q ++ id_at B i ∷ []) (λ b. with_motion b (M b)) B = chosen_more Q M B i d m (omega arith) e (λ j lt ne. h (suc j) (omega arith) (omega (arith, ne))) in
    λ i. cond (here i) (with_motion b (M b)) b ∷ rest i

-- ---- a part so far

pub ids_more : (B : List BodyData) (ps : List ℕ) (k : ℕ) → k < length ps → ids_at B (take (k + 1) ps) ≡ ids_at B (take k ps) ++ id_at B (get_or ps k 0) ∷ []
ids_more B ps k l = ap (ids_at B) (take_more ps k 0 l) ∙ map-append (id_at B) (take k ps) (get_or ps k 0 ∷ [])

-- the id at a place that comes later is not among the ids of the places so far
pub later : (B : List BodyData) (ps : List ℕ) (k : ℕ) → Ascend B → ArePlaces B ps → k < length ps → has (ids_at B (take k ps)) (id_at B (get_or ps k 0)) ≡ false
later B ps k up p l =
    let short : length (take k ps) ≤ k = omega (arith, length-take k ps) in
    let before : (j : ℕ) → j < length (take k ps) → get_or (take k ps) j 0 ≡ get_or ps j 0 = λ j lt. get_or-take k ps j 0 (omega arith) in
    has-image (id_at B) (take k ps) (get_or ps k 0) (keeps_apart B (take k ps) (get_or ps k 0) up (λ j lt. rw (before j lt) (p.within j (omega arith))) (p.within k l))
    ∙ has_none (take k ps) (get_or ps k 0) (λ j lt same. p.distinct j k (omega arith) l (sym (before j lt) ∙ same))

pub still_there : (M : BodyData → MotionData) (B S : List BodyData) (ps : List ℕ) (k : ℕ) (d : BodyData) → Ascend B → ArePlaces B ps → k < length ps → S ≡ at_each (ids_at B (take k ps)) (λ b. with_motion b (M b)) B →
    get_or S (get_or ps k 0) d ≡ get_or B (get_or ps k 0) d
still_there M B S ps k d up p l so_far =
    let i = get_or ps k 0 in
    let Q = ids_at B (take k ps) in
    let b : BodyData = get_or B i d in
    ap (λ (xs : List BodyData). get_or xs i d) so_far
    ∙ get_or-map (λ b. cond (has Q b.id) (with_motion b (M b)) b) B i d d (p.within k l)
    ∙ ap (λ t. cond t (with_motion b (M b)) b) (ap (has Q) (sym (id_at_is B i d (p.within k l))) ∙ later B ps k up p l)

pub more : (M : BodyData → MotionData) (B S T : List BodyData) (ps : List ℕ) (k : ℕ) (d : BodyData) (m : MotionData) → Ascend B → ArePlaces B ps → k < length ps → S ≡ at_each (ids_at B (take k ps)) (λ b. with_motion b (M b)) B →
    T ≡ with_motion_at S (get_or ps k 0) m → m ≡ M (get_or B (get_or ps k 0) d) → T ≡ at_each (ids_at B (take (k + 1) ps)) (λ b. with_motion b (M b)) B
more M B S T ps k d m up p l so_far put is =
    let i = get_or ps k 0 in
    put
    ∙ ap (λ (xs : List BodyData). with_motion_at xs i m) so_far
    ∙ chosen_more (ids_at B (take k ps)) M B i d m (p.within k l) is (λ j lt ne. apart B up i j (p.within k l) lt ∙ not_same i j (λ e. ne (sym e)))
    ∙ ap (λ Q. at_each Q (λ b. with_motion b (M b)) B) (sym (ids_more B ps k l))

pub all : (B : List BodyData) (ps : List ℕ) (K : BodyData → BodyData) (k : ℕ) → length ps ≤ k → at_each (ids_at B (take k ps)) K B ≡ at_each (ids_at B ps) K B
all B ps K k h = ap (λ qs. at_each (ids_at B qs) K B) (take_all k ps h)

pub none : (B : List BodyData) (K : BodyData → BodyData) → at_each [] K B ≡ B
none [] K = refl
none (b ∷ B) K = ap (λ bs. b ∷ bs) (none B K)

pub length-chosen : (Q : List ℕ) (K : BodyData → BodyData) (B : List BodyData) → length (at_each Q K B) ≡ length B
length-chosen Q K B = length-map B (λ b. cond (has Q b.id) (K b) b)

pub got : (S : List BodyData) (i : ℕ) (b d : BodyData) → slice_get S i ≡ Some b → get_or S i d ≡ b
got [] i b d e = cc
got (x ∷ S) zero b d e = cc
got (x ∷ S) (suc i) b d e = got S i b d e

-- ---- the change of a body of the part

pub change_is : (B : List BodyData) (whole : List ℕ) (f : List V3) (fast : List ℕ) (g : List V3) (k : ℕ) (d : BodyData) (v : V3) → Ascend B → AreAscending B whole → AreAscending B fast → length f ≡ length whole → k < length whole →
    change_of (ids_at B whole) f (ids_at B fast) g (get_or B (get_or whole k 0) d) ≡ less_fast fast g (get_or whole k 0) (get_or f k v)
change_is B whole f fast g k d v up w q e l =
    let i = get_or whole k 0 in
    let within : i < length B = w.within k l in
    let slow : force_for (ids_at B whole) f (id_at B i) ≡ get_or f k v =
    force_for-image (id_at B) whole f i (keeps_apart B whole i up w.within within) ∙ force_at_place whole f k v (λ j lt same. omega (arith, rises whole w.ascending j k lt l, same)) l e in
    ap (λ id. less_fast (ids_at B fast) g id (force_for (ids_at B whole) f id)) (sym (id_at_is B i d within))
    ∙ ap (less_fast (ids_at B fast) g (id_at B i)) slow
    ∙ less_fast-image (id_at B) fast g i (get_or f k v) (keeps_apart B fast i up q.within within)

-- a body that stands for one outside a list
abbrev pub blank : BodyData
blank = record { id = 0; kind = 0; mass = 0; motion = record { pos = record { x = 0; y = 0; z = 0 }; mom = origin } }
