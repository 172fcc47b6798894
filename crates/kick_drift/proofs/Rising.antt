-- Numbers in lists: whether one is among them, where, and which force goes with it.
use Rattle.std.proofs.Common.{◌≡◌, ℕ, zero, suc, ◌+◌, ◌<◌, ◌≤◌, ◌==◌, ◌≢◌, Bool, true, false, cond, ◌||◌, List, [], ◌∷◌, ◌++◌, length, map, get_or, arith, refl, ap, sym, ◌∙◌, eq-eqb, ⊎_elim, subst, add-one}
use Rattle.std.specs.List.Sorted.{IsStrictlyIncreasing, IsBinarySearchResult}
use Rattle.std.specs.Ordering.{nat_cmp}
use Rattle.std.specs.Prelude.{Err}
use Rattle.std.proofs.lemmas.List.Sorted.{searched}
use Rattle.std.proofs.lemmas.Bool.{false≢true, cases_order, cases_lt}
use Rattle.std.proofs.lemmas.Bool.Decides.{nat_tests, Decides-eqb}
use Rattle.fixed_point.specs.declared.V3.{V3}
use Rattle.fixed_point.specs.Vectors.{plus, negative}
use Rattle.nbody_model.specs.Bodies.{has}
use Rattle.kick_drift.specs.Parts.{force_for, less_fast}

pub not_same : (a b : ℕ) → a ≢ b → (a == b) ≡ false
not_same a b h = grind (arith, nat_tests)

pub same_tests : (a b c d : ℕ) → (a ≡ b → c ≡ d) → (c ≡ d → a ≡ b) → (a == b) ≡ (c == d)
same_tests a b c d to from = grind (arith, nat_tests)

or_true : (b : Bool) → (b || true) ≡ true
or_true true = refl
or_true false = refl

or_false : (b : Bool) → (b || false) ≡ b
or_false true = refl
or_false false = refl

or_again : (a b c : Bool) → (a || (b || c)) ≡ ((a || b) || c)
or_again true b c = refl
or_again false b c = refl

-- ---- numbers that rise

pub rises : (xs : List ℕ) → IsStrictlyIncreasing xs → (i j : ℕ) → i < j → j < length xs → get_or xs i 0 < get_or xs j 0
rises xs up i zero h l = absurd (omega arith)
rises xs up i (suc j) h l =
    let here : j + 1 < length xs → get_or xs j 0 < get_or xs (j + 1) 0 = up j in
    let next : j + 1 ≡ suc j = add-one j in
    let last : get_or xs j 0 < get_or xs (suc j) 0 = subst (λ n. get_or xs j 0 < get_or xs n 0) next (here (omega arith)) in
    ⊎_elim (λ e. subst (λ n. get_or xs n 0 < get_or xs (suc j) 0) (sym e) last)
    (λ o. ⊎_elim (λ lt. omega (arith, rises xs up i j lt (omega arith), last)) (λ gt. absurd (omega arith)) o)
    (cases_order i j)

pub injective : (xs : List ℕ) → IsStrictlyIncreasing xs → (a b : ℕ) → a < length xs → b < length xs → get_or xs a 0 ≡ get_or xs b 0 → a ≡ b
injective xs up a b la lb e =
    ⊎_elim (λ same. same)
    (λ o. ⊎_elim (λ lt. absurd (omega (arith, rises xs up a b lt lb, e))) (λ gt. absurd (omega (arith, rises xs up b a gt la, e))) o)
    (cases_order a b)

-- ---- whether a number is among some, and where

pub has_none : (xs : List ℕ) (x : ℕ) → ((k : ℕ) → k < length xs → get_or xs k 0 ≢ x) → has xs x ≡ false
has_none [] x h = refl
has_none (y ∷ ys) x h = ap (λ t. t || has ys x) (not_same y x (h 0 (omega arith))) ∙ has_none ys x (λ k lt. h (suc k) (omega arith))

pub has_at : (xs : List ℕ) (x k : ℕ) → k < length xs → get_or xs k 0 ≡ x → has xs x ≡ true
has_at [] x k l e = absurd (omega arith)
has_at (y ∷ ys) x zero l e = ap (λ t. t || has ys x) (eq-eqb y x e)
has_at (y ∷ ys) x (suc k) l e = ap (λ t. (y == x) || t) (has_at ys x k (omega arith) e) ∙ or_true (y == x)

place_step : (y : ℕ) (ys : List ℕ) (x : ℕ) (b : Bool) → (y == x) ≡ b → (b || has ys x) ≡ true → (has ys x ≡ true → (k : ℕ) × (k < length ys) × (get_or ys k 0 ≡ x)) → (k : ℕ) × (k < suc (length ys)) × (get_or (y ∷ ys) k 0 ≡ x)
place_step y ys x true e h rest = (0, omega arith, (Decides-eqb y x).0 e)
place_step y ys x false e h rest = let r = rest h in (suc r.0, omega (arith, r.1), r.2)

pub place_of : (xs : List ℕ) (x : ℕ) → has xs x ≡ true → (k : ℕ) × (k < length xs) × (get_or xs k 0 ≡ x)
place_of [] x h = absurd (false≢true h)
place_of (y ∷ ys) x h = place_step y ys x (y == x) refl h (place_of ys x)

pub has-more : (xs : List ℕ) (x y : ℕ) → has (xs ++ x ∷ []) y ≡ (has xs y || (x == y))
has-more [] x y = or_false (x == y)
has-more (z ∷ xs) x y = ap (λ t. (z == y) || t) (has-more xs x y) ∙ or_again (z == y) (has xs y) (x == y)

pub has-same : (xs : List ℕ) (x y : ℕ) → (x == y) ≡ false → has (xs ++ x ∷ []) y ≡ has xs y
has-same xs x y e = has-more xs x y ∙ ap (λ t. has xs y || t) e ∙ or_false (has xs y)

pub has-last : (xs : List ℕ) (x y : ℕ) → (x == y) ≡ true → has (xs ++ x ∷ []) y ≡ true
has-last xs x y e = has-more xs x y ∙ ap (λ t. has xs y || t) e ∙ or_true (has xs y)

-- ---- the force that goes with a number

pub force_at_place : (xs : List ℕ) (fs : List V3) (k : ℕ) (d : V3) → ((j : ℕ) → j < k → get_or xs j 0 ≢ get_or xs k 0) → k < length xs → length fs ≡ length xs → force_for xs fs (get_or xs k 0) ≡ get_or fs k d
force_at_place [] fs k d h l e = absurd (omega arith)
force_at_place (x ∷ xs) [] k d h l e = absurd (omega arith)
force_at_place (x ∷ xs) (f ∷ fs) zero d h l e = ap (λ t. cond t f (force_for xs fs x)) (eq-eqb x x refl)
force_at_place (x ∷ xs) (f ∷ fs) (suc k) d h l e =
    ap (λ t. cond t f (force_for xs fs (get_or xs k 0))) (not_same x (get_or xs k 0) (h 0 (omega arith)))
    ∙ force_at_place xs fs k d (λ j lt. h (suc j) (omega arith)) (omega arith) (omega arith)

-- ---- numbers by their images

-- u keeps the numbers of xs apart from x
abbrev pub KeepsApart : (ℕ → ℕ) → List ℕ → ℕ → Type 0
KeepsApart u xs x = (k : ℕ) → k < length xs → (u (get_or xs k 0) == u x) ≡ (get_or xs k 0 == x)

pub has-image : (u : ℕ → ℕ) (xs : List ℕ) (x : ℕ) → KeepsApart u xs x → has (map u xs) (u x) ≡ has xs x
has-image u [] x h = refl
has-image u (y ∷ ys) x h =
    let here : (u y == u x) ≡ (y == x) = h 0 (omega arith) in
    let rest : has (map u ys) (u x) ≡ has ys x = has-image u ys x (λ k lt. h (suc k) (omega arith)) in
    λ i. here i || rest i

pub force_for-image : (u : ℕ → ℕ) (xs : List ℕ) (fs : List V3) (x : ℕ) → KeepsApart u xs x → force_for (map u xs) fs (u x) ≡ force_for xs fs x
force_for-image u [] fs x h = refl
force_for-image u (y ∷ ys) [] x h = refl
force_for-image u (y ∷ ys) (f ∷ fs) x h =
    let here : (u y == u x) ≡ (y == x) = h 0 (omega arith) in
    let rest : force_for (map u ys) fs (u x) ≡ force_for ys fs x = force_for-image u ys fs x (λ k lt. h (suc k) (omega arith)) in
    λ i. cond (here i) f (rest i)

pub less_fast-image : (u : ℕ → ℕ) (F : List ℕ) (g : List V3) (x : ℕ) (slow : V3) → KeepsApart u F x → less_fast (map u F) g (u x) slow ≡ less_fast F g x slow
less_fast-image u F g x slow h =
    let test : has (map u F) (u x) ≡ has F x = has-image u F x h in
    let force : force_for (map u F) g (u x) ≡ force_for F g x = force_for-image u F g x h in
    λ i. cond (test i) (plus slow (negative (force i))) slow

-- ---- a force less the fast one

pub less_none : (F : List ℕ) (g : List V3) (x : ℕ) (slow : V3) → ((k : ℕ) → k < length F → get_or F k 0 ≢ x) → slow ≡ less_fast F g x slow
less_none F g x slow h = ap (λ t. cond t (plus slow (negative (force_for F g x))) slow) (sym (has_none F x h))

pub less_at : (F : List ℕ) (g : List V3) (x : ℕ) (slow : V3) (at : ℕ) (d : V3) → IsStrictlyIncreasing F → length g ≡ length F → at < length F → get_or F at 0 ≡ x → plus slow (negative (get_or g at d)) ≡ less_fast F g x slow
less_at F g x slow at d up e l is =
    let force : force_for F g x ≡ get_or g at d = ap (force_for F g) (sym is) ∙ force_at_place F g at d (λ j lt same. omega (arith, rises F up j at lt l, same)) l e in
    sym (ap (λ t. cond t (plus slow (negative (force_for F g x))) slow) (has_at F x at l is) ∙ ap (λ v. plus slow (negative v)) force)

pub not_among : (xs : List ℕ) (x i : ℕ) → IsBinarySearchResult (λ y. nat_cmp y x) xs (Err i) → IsStrictlyIncreasing xs → (k : ℕ) → k < length xs → get_or xs k 0 ≢ x
not_among xs x i found up k l same =
    let s = searched xs x (Err i) found (λ a b le lt. order a b le lt) in
    ⊎_elim (λ lt. omega (arith, s.1 k lt, same)) (λ ge. omega (arith, s.2 k ge l, same)) (cases_lt k i)
  where
    order : (a b : ℕ) → a ≤ b → b < length xs → get_or xs a 0 ≤ get_or xs b 0
    order a b le lt = ⊎_elim (λ e. omega (arith, ap (λ n. get_or xs n 0) e)) (λ h. ⊎_elim (λ h. omega (arith, rises xs up a b h lt)) (λ h. absurd (omega arith)) h) (cases_order a b)
