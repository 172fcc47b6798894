-- The places of bodies by their ids.
use Rattle.std.proofs.Common.{◌≡◌, ◌<◌, ◌+◌, ◌++◌, ◌==◌, ◌||◌, ℕ, zero, suc, take, Bool, true, false, cond, List, [], ◌∷◌, length, map, filter, get_or, refl, ap, sym, ◌∙◌, subst, arith}
use Rattle.std.specs.List.{AllByRecursion}
use Rattle.std.specs.List.Sorted.{IsStrictlyIncreasing}
use Rattle.model_laws.proofs.Among.{each-filter}
use Rattle.std.proofs.lemmas.Bool.{false≢true, eq-eqb, eqb-true}
use Rattle.std.proofs.lemmas.List.{take_more, length-map, get_or-map}
use Rattle.std.proofs.lemmas.List.Elements.{filter-append}
use Rattle.std.proofs.lemmas.List.Kept.{IsStrictlyIncreasing-filter}
use Rattle.nbody_model.specs.Bodies.{BodyData, has}
use Rattle.model_laws.specs.Preserved.{IsPart}
use Rattle.kick_drift.specs.Parts.{ids_at, AreAscending}
use Rattle.kick_drift.proofs.Rising.{rises}
use Rattle.kick_drift.proofs.Chosen.{id_at}
use Rattle.step_engine.specs.Stands.{AreOf}
use Rattle.step_engine.proofs.FastParts.{filter_full}
use Rattle.rewind_laws.proofs.Filed.{tail_rises, own_has, later}

-- the places of a part that have these ids
abbrev pub placed : List BodyData → List ℕ → List ℕ → List ℕ
placed B F part = filter (λ p. has F (id_at B p)) part

named_step : (B : List BodyData) (t : Bool) (p : ℕ) (xs ys : List ℕ) → map (id_at B) xs ≡ ys → map (id_at B) (cond t (p ∷ xs) xs) ≡ cond t (id_at B p ∷ ys) ys
named_step B true p xs ys e = ap (λ zs. id_at B p ∷ zs) e
named_step B false p xs ys e = e

named : (B : List BodyData) (F part : List ℕ) → ids_at B (placed B F part) ≡ filter (has F) (ids_at B part)
named B F [] = refl
named B F (p ∷ part) = named_step B (has F (id_at B p)) p (placed B F part) (filter (has F) (ids_at B part)) (named B F part)

-- ---- of an ascending list those of an ascending part are the part

none_of : (P : List ℕ) → filter (has []) P ≡ []
none_of [] = refl
none_of (p ∷ P) = none_of P

-- numbers above x aren't x
same_above : (x : ℕ) (F P : List ℕ) → ((id : ℕ) → has P id ≡ true → x < id) → filter (has (x ∷ F)) P ≡ filter (has F) P
same_above x F [] h = refl
same_above x F (p ∷ P) h =
    let first : has (x ∷ F) p ≡ has F p = by (x == p) refl in
    (λ i. cond (first i) (p ∷ same_above x F P (λ id e. h id (or (p == id) (has P id) e)) i) (same_above x F P (λ id e. h id (or (p == id) (has P id) e)) i))
  where
    or : (a b : Bool) → b ≡ true → (a || b) ≡ true
    or true b e = refl
    or false b e = e

    by : (b : Bool) → (x == p) ≡ b → (b || has F p) ≡ has F p
    by false e = refl
    by true e = absurd (let up = h p (own_has p P) in omega (arith, up, eqb-true x p e))

pub kept_part : (P F : List ℕ) → IsStrictlyIncreasing P → IsStrictlyIncreasing F → IsPart F P → filter (has F) P ≡ F
kept_part P [] inp inf part = none_of P
kept_part [] (x ∷ F) inp inf part = absurd (false≢true (part x (own_has x F)))
kept_part (p ∷ P) (x ∷ F) inp inf part = by (x == p) refl (kept_part P F (tail_rises p P inp) (tail_rises x F inf)) (kept_part P (x ∷ F) (tail_rises p P inp) inf)
  where
    -- what is above p and in the whole list is behind it
    behind : (id : ℕ) → p < id → has (p ∷ P) id ≡ true → has P id ≡ true
    behind id l e = only_later (p == id) refl e
      where
        only_later : (b : Bool) → (p == id) ≡ b → (b || has P id) ≡ true → has P id ≡ true
        only_later true f g = absurd (omega (arith, l, eqb-true p id f))
        only_later false f g = g

    or : (a b : Bool) → b ≡ true → (a || b) ≡ true
    or true b e = refl
    or false b e = e

    by : (b : Bool) → (x == p) ≡ b → (IsPart F P → filter (has F) P ≡ F) → (IsPart (x ∷ F) P → filter (has (x ∷ F)) P ≡ x ∷ F) → cond (b || has F p) (p ∷ filter (has (x ∷ F)) P) (filter (has (x ∷ F)) P) ≡ x ∷ F
    by true e f g =
        let same : x ≡ p = eqb-true x p e in
        let rest : filter (has (x ∷ F)) P ≡ F = same_above x F P (λ id i. subst (λ n. n < id) (sym same) (later p P inp id i)) ∙ f (λ id i. behind id (subst (λ n. n < id) same (later x F inf id i)) (part id (or (x == id) (has F id) i))) in
        λ i. sym same i ∷ rest i
    by false e f g =
        let up : has P x ≡ true = shift (p == x) refl (part x (own_has x F)) in
        let above : p < x = later p P inp x up in
        let out : has F p ≡ false = outside (has F p) refl in
        ap (λ b. cond b (p ∷ filter (has (x ∷ F)) P) (filter (has (x ∷ F)) P)) out ∙ g (λ id i. behind id (higher (x == id) id refl i above) (part id i))
      where
        shift : (b : Bool) → (p == x) ≡ b → (b || has P x) ≡ true → has P x ≡ true
        shift true u v = absurd (false≢true (sym e ∙ eq-eqb x p (sym (eqb-true p x u))))
        shift false u v = v

        above' : p < x
        above' = later p P inp x (shift (p == x) refl (part x (own_has x F)))

        outside : (b : Bool) → has F p ≡ b → b ≡ false
        outside true u = absurd (let w = later x F inf p u in omega (arith, w, above'))
        outside false u = refl

        higher : (b : Bool) (id : ℕ) → (x == id) ≡ b → (b || has F id) ≡ true → p < x → p < id
        higher true id u v a = subst (λ n. p < n) (eqb-true x id u) a
        higher false id u v a = let w = later x F inf id v in omega (arith, a, w)

-- ---- the places

within_all : (n : ℕ) (ps : List ℕ) → ((k : ℕ) → k < length ps → get_or ps k 0 < n) → AllByRecursion (λ p. p < n) ps
within_all n [] h = tt
within_all n (p ∷ ps) h = (h 0 (omega arith), within_all n ps (λ k lt. h (suc k) (omega (arith, lt))))

all_within : (n : ℕ) (ps : List ℕ) → AllByRecursion (λ p. p < n) ps → (k : ℕ) → k < length ps → get_or ps k 0 < n
all_within n [] a k lt = absurd (omega arith)
all_within n (p ∷ ps) a zero lt = a.0
all_within n (p ∷ ps) a (suc k) lt = all_within n ps a.1 k (omega (arith, lt))

within_kept : (n : ℕ) (t : ℕ → Bool) (ps : List ℕ) → ((k : ℕ) → k < length ps → get_or ps k 0 < n) → (k : ℕ) → k < length (filter t ps) → get_or (filter t ps) k 0 < n
within_kept n t ps h = all_within n (filter t ps) (each-filter (λ p. p < n) t ps (within_all n ps h))

pub placed_are : (B : List BodyData) (part F : List ℕ) → AreAscending B part → IsStrictlyIncreasing (ids_at B part) → IsStrictlyIncreasing F → IsPart F (ids_at B part) → (ids_at B (placed B F part) ≡ F) × AreOf B part (placed B F part)
placed_are B part F a up inf h =
    let is : ids_at B (placed B F part) ≡ F = named B F part ∙ kept_part (ids_at B part) F up inf h in (
      is,
      record {
        places = record {
          within = within_kept (length B) (λ p. has F (id_at B p)) part a.within;
          ascending = IsStrictlyIncreasing-filter (λ p. has F (id_at B p)) part a.ascending;
        };
        part = subst (λ X. IsPart X (ids_at B part)) (sym is) h;
        all = λ l. ap (ids_at B) (filter_full (λ p. has F (id_at B p)) part l);
      },
    )

-- one place more
pub placed_more : (B : List BodyData) (F part : List ℕ) (k : ℕ) → k < length part → placed B F (take (k + 1) part) ≡ placed B F (take k part) ++ cond (has F (id_at B (get_or part k 0))) (get_or part k 0 ∷ []) []
placed_more B F part k l = ap (placed B F) (take_more part k 0 l) ∙ filter-append (λ p. has F (id_at B p)) (take k part) (get_or part k 0 ∷ [])

-- the ids at ascending places ascend
pub part_rises : (B : List BodyData) (part : List ℕ) → IsStrictlyIncreasing (map (λ b. b.id) B) → AreAscending B part → IsStrictlyIncreasing (ids_at B part)
part_rises B part up a k l =
    let long : length (ids_at B part) ≡ length part = length-map part (id_at B) in
    let one : get_or (ids_at B part) k 0 ≡ id_at B (get_or part k 0) = get_or-map (id_at B) part k 0 0 (omega (arith, l, long)) in
    let two : get_or (ids_at B part) (k + 1) 0 ≡ id_at B (get_or part (k + 1) 0) = get_or-map (id_at B) part (k + 1) 0 0 (omega (arith, l, long)) in
    let ids : length (map (λ b. b.id) B) ≡ length B = length-map B (λ b. b.id) in
    let last : get_or part (k + 1) 0 < length B = a.within (k + 1) (omega (arith, l, long)) in
    let lt : id_at B (get_or part k 0) < id_at B (get_or part (k + 1) 0) = rises (map (λ b. b.id) B) up (get_or part k 0) (get_or part (k + 1) 0) (a.ascending k (omega (arith, l, long))) (omega (arith, last, ids)) in
    omega (arith, one, two, lt)
