-- Sums over lists, and over the pairs of a list.
use Rattle.std.proofs.Common.{◌⊎◌, inl, inr, ◌≡◌, ℕ, zero, suc, ◌+◌, ◌<◌, ◌≤◌, Bool, true, false, cond, eqb, ◌&&◌, List, [], ◌∷◌, map, sum_by, refl, ap, sym, ◌∙◌, arith, zero-add}
use Rattle.std.specs.List.{filter, flat_map}
use Rattle.std.proofs.lemmas.List.Sums.{sum_by-cons, sum_by-append}
use Rattle.std.proofs.lemmas.Bool.{cases_eq, eq-eqb, ne_eqb, and_left, and_right, and_from, cond-true, cond-false}
use Rattle.cell_space.specs.Cells.{below}

pub sum_by-one : {X : Type 0} (f : X → ℕ) (x : X) → sum_by f (x ∷ []) ≡ f x
sum_by-one f x = zero-add (f x)

pub sum_by-same : {X : Type 0} (f g : X → ℕ) → ((x : X) → f x ≡ g x) → (xs : List X) → sum_by f xs ≡ sum_by g xs
sum_by-same f g e [] = refl
sum_by-same f g e (x ∷ xs) = omega (arith, sum_by-cons f x xs, sum_by-cons g x xs, e x, sum_by-same f g e xs)

pub sum_by-zero : {X : Type 0} (f : X → ℕ) → ((x : X) → f x ≡ 0) → (xs : List X) → sum_by f xs ≡ 0
sum_by-zero f e [] = refl
sum_by-zero f e (x ∷ xs) = omega (arith, sum_by-cons f x xs, e x, sum_by-zero f e xs)

pub sum_by-flat_map : {X Y : Type 0} (f : Y → ℕ) (h : X → List Y) (xs : List X) → sum_by f (flat_map h xs) ≡ sum_by (λ x. sum_by f (h x)) xs
sum_by-flat_map f h [] = refl
sum_by-flat_map f h (x ∷ xs) = omega (arith, sum_by-append f (h x) (flat_map h xs), sum_by-cons (λ x. sum_by f (h x)) x xs, sum_by-flat_map f h xs)

pub sum_by-mapped : {X Y : Type 0} (f : Y → ℕ) (h : X → Y) (xs : List X) → sum_by f (map h xs) ≡ sum_by (λ x. f (h x)) xs
sum_by-mapped f h [] = refl
sum_by-mapped f h (x ∷ xs) = omega (arith, sum_by-cons f (h x) (map h xs), sum_by-cons (λ x. f (h x)) x xs, sum_by-mapped f h xs)

-- what a filter leaves out adds nothing
filtered_step : {X : Type 0} (f : X → ℕ) (x : X) (xs ys : List X) (b : Bool) → (b ≡ false → f x ≡ 0) → sum_by f ys ≡ sum_by f xs → sum_by f (cond b (x ∷ ys) ys) ≡ sum_by f (x ∷ xs)
filtered_step f x xs ys true h e = omega (arith, sum_by-cons f x xs, sum_by-cons f x ys)
filtered_step f x xs ys false h e = omega (arith, sum_by-cons f x xs, h refl)

pub sum_by-filtered : {X : Type 0} (t : X → Bool) (f : X → ℕ) → ((x : X) → t x ≡ false → f x ≡ 0) → (xs : List X) → sum_by f (filter t xs) ≡ sum_by f xs
sum_by-filtered t f e [] = refl
sum_by-filtered t f e (x ∷ xs) = filtered_step f x xs (filter t xs) (t x) (e x) (sum_by-filtered t f e xs)

pub sum_by-plus : {X : Type 0} (f g : X → ℕ) (xs : List X) → sum_by (λ x. f x + g x) xs ≡ sum_by f xs + sum_by g xs
sum_by-plus f g [] = refl
sum_by-plus f g (x ∷ xs) = omega (arith, sum_by-cons (λ x. f x + g x) x xs, sum_by-cons f x xs, sum_by-cons g x xs, sum_by-plus f g xs)

-- of the numbers below n at most one is d
pub sum_by-pick_none : (f : ℕ → ℕ) (d n : ℕ) → n ≤ d → sum_by (λ k. cond (eqb k d) (f k) 0) (below n) ≡ 0
sum_by-pick_none f d zero h = refl
sum_by-pick_none f d (suc n) h =
    let other : eqb n d ≡ false = ne_eqb n d (λ e. omega arith) in
    omega (arith, sum_by-cons (λ k. cond (eqb k d) (f k) 0) n (below n), cond-false (eqb n d) (f n) 0 other, sum_by-pick_none f d n (omega arith))

pick_step : (f : ℕ → ℕ) (d n : ℕ) → d < suc n → (d < n → sum_by (λ k. cond (eqb k d) (f k) 0) (below n) ≡ f d) → (n ≡ d) ⊎ (n ≡ d → ⊥) → sum_by (λ k. cond (eqb k d) (f k) 0) (n ∷ below n) ≡ f d
pick_step f d n h rest (inl e) =
    omega (arith, sum_by-cons (λ k. cond (eqb k d) (f k) 0) n (below n), cond-true (eqb n d) (f n) 0 (eq-eqb n d e), sum_by-pick_none f d n (omega arith), ap f e)
pick_step f d n h rest (inr ne) =
    omega (arith, sum_by-cons (λ k. cond (eqb k d) (f k) 0) n (below n), cond-false (eqb n d) (f n) 0 (ne_eqb n d ne), rest (omega arith))

pub sum_by-pick : (f : ℕ → ℕ) (d n : ℕ) → d < n → sum_by (λ k. cond (eqb k d) (f k) 0) (below n) ≡ f d
sum_by-pick f d zero h = absurd (omega arith)
sum_by-pick f d (suc n) h = pick_step f d n h (λ k. sum_by-pick f d n k) (cases_eq n d)

-- over the pairs of a list, equal ones included: `same` at each element, `apart` at each two, both ways
abbrev pub pair_sum : {X : Type 0} → (X → ℕ) → (X → X → ℕ) → List X → ℕ
pair_sum same apart [] = 0
pair_sum same apart (x ∷ xs) = same x + (sum_by (λ y. apart x y + apart y x) xs + pair_sum same apart xs)

cond_and : (a b : Bool) (x : ℕ) → cond (a && b) x 0 ≡ cond b (cond a x 0) 0
cond_and true true x = refl
cond_and true false x = refl
cond_and false true x = refl
cond_and false false x = refl

pub cond_sum : {X : Type 0} (b : Bool) (f : X → ℕ) (xs : List X) → sum_by (λ y. cond b (f y) 0) xs ≡ cond b (sum_by f xs) 0
cond_sum true f xs = refl
cond_sum false f xs = sum_by-zero (λ y. 0) (λ y. refl) xs

and_sum : {X : Type 0} (b : Bool) (t : X → Bool) (f : X → ℕ) (xs : List X) → sum_by (λ y. cond (b && t y) (f y) 0) xs ≡ cond b (sum_by (λ y. cond (t y) (f y) 0) xs) 0
and_sum true t f xs = refl
and_sum false t f xs = sum_by-zero (λ y. 0) (λ y. refl) xs

sum_and : {X : Type 0} (b : Bool) (t : X → Bool) (f : X → ℕ) (xs : List X) → sum_by (λ y. cond (t y && b) (f y) 0) xs ≡ cond b (sum_by (λ y. cond (t y) (f y) 0) xs) 0
sum_and b t f xs = sum_by-same (λ y. cond (t y && b) (f y) 0) (λ y. cond b (cond (t y) (f y) 0) 0) (λ y. cond_and (t y) b (f y)) xs ∙ cond_sum b (λ y. cond (t y) (f y) 0) xs

module _ (same : ℕ → ℕ) (apart : ℕ → ℕ → ℕ) (d e : ℕ) where
  abbrev same_at : ℕ → ℕ
  same_at k = cond (eqb k d && eqb k e) (same k) 0

  abbrev apart_at : ℕ → ℕ → ℕ
  apart_at k m = cond (eqb k d && eqb m e) (apart k m) 0

  abbrev to_right : ℕ → ℕ
  to_right n = sum_by (λ y. cond (eqb y e) (apart n y) 0) (below n)

  abbrev to_left : ℕ → ℕ
  to_left n = sum_by (λ y. cond (eqb y d) (apart y n) 0) (below n)

  pair_step : (n : ℕ) → pair_sum same_at apart_at (below (suc n)) ≡ same_at n + ((cond (eqb n d) (to_right n) 0 + cond (eqb n e) (to_left n) 0) + pair_sum same_at apart_at (below n))
  pair_step n = omega (arith, sum_by-plus (λ y. apart_at n y) (λ y. apart_at y n) (below n), and_sum (eqb n d) (λ y. eqb y e) (λ y. apart n y) (below n), sum_and (eqb n e) (λ y. eqb y d) (λ y. apart y n) (below n))

  cond_none : (b : Bool) (x : ℕ) → (b ≡ true → x ≡ 0) → cond b x 0 ≡ 0
  cond_none true x h = h refl
  cond_none false x h = refl

  pair_sum-none : (n : ℕ) → (n ≤ d) ⊎ (n ≤ e) → pair_sum same_at apart_at (below n) ≡ 0
  pair_sum-none zero h = refl
  pair_sum-none (suc n) (inl h) =
      let other : eqb n d ≡ false = ne_eqb n d (λ q. omega arith) in
      omega (
        arith,
        pair_step n,
        cond-false (eqb n d && eqb n e) (same n) 0 (and_left (eqb n d) (eqb n e) other),
        cond-false (eqb n d) (to_right n) 0 other,
        cond_none (eqb n e) (to_left n) (λ _. sum_by-pick_none (λ y. apart y n) d n (omega arith)),
        pair_sum-none n (inl (omega arith)),
      )
  pair_sum-none (suc n) (inr h) =
      let other : eqb n e ≡ false = ne_eqb n e (λ q. omega arith) in
      omega (
        arith,
        pair_step n,
        cond-false (eqb n d && eqb n e) (same n) 0 (and_right (eqb n d) (eqb n e) other),
        cond-false (eqb n e) (to_left n) 0 other,
        cond_none (eqb n d) (to_right n) (λ _. sum_by-pick_none (λ y. apart n y) e n (omega arith)),
        pair_sum-none n (inr (omega arith)),
      )

  pair_sum-step : (n : ℕ) → d < suc n → e < suc n → (d < n → e < n → pair_sum same_at apart_at (below n) ≡ cond (eqb d e) (same d) (apart d e)) → (n ≡ d) ⊎ (n ≡ d → ⊥) → (n ≡ e) ⊎ (n ≡ e → ⊥) → pair_sum same_at apart_at (below (suc n)) ≡ cond (eqb d e) (same d) (apart d e)
  pair_sum-step n h k rest (inl p) (inl q) =
      let a : eqb n d ≡ true = eq-eqb n d p in
      let b : eqb n e ≡ true = eq-eqb n e q in
      let c : eqb d e ≡ true = eq-eqb d e (sym p ∙ q) in
      omega (
        arith,
        pair_step n,
        cond-true (eqb n d && eqb n e) (same n) 0 (and_from (eqb n d) (eqb n e) a b),
        cond-true (eqb d e) (same d) (apart d e) c,
        ap same p,
        cond_none (eqb n d) (to_right n) (λ _. sum_by-pick_none (λ y. apart n y) e n (omega arith)),
        cond_none (eqb n e) (to_left n) (λ _. sum_by-pick_none (λ y. apart y n) d n (omega arith)),
        pair_sum-none n (inl (omega arith)),
      )
  pair_sum-step n h k rest (inl p) (inr nq) =
      let a : eqb n d ≡ true = eq-eqb n d p in
      let b : eqb n e ≡ false = ne_eqb n e nq in
      let c : eqb d e ≡ false = ne_eqb d e (λ x. nq (p ∙ x)) in
      omega (
        arith,
        pair_step n,
        cond-false (eqb n d && eqb n e) (same n) 0 (and_right (eqb n d) (eqb n e) b),
        cond-false (eqb d e) (same d) (apart d e) c,
        cond-true (eqb n d) (to_right n) 0 a,
        cond-false (eqb n e) (to_left n) 0 b,
        sum_by-pick (λ y. apart n y) e n (omega arith),
        ap (λ x. apart x e) p,
        pair_sum-none n (inl (omega arith)),
      )
  pair_sum-step n h k rest (inr np) (inl q) =
      let a : eqb n d ≡ false = ne_eqb n d np in
      let b : eqb n e ≡ true = eq-eqb n e q in
      let c : eqb d e ≡ false = ne_eqb d e (λ x. np (q ∙ sym x)) in
      omega (
        arith,
        pair_step n,
        cond-false (eqb n d && eqb n e) (same n) 0 (and_left (eqb n d) (eqb n e) a),
        cond-false (eqb d e) (same d) (apart d e) c,
        cond-false (eqb n d) (to_right n) 0 a,
        cond-true (eqb n e) (to_left n) 0 b,
        sum_by-pick (λ y. apart y n) d n (omega arith),
        ap (λ x. apart d x) q,
        pair_sum-none n (inr (omega arith)),
      )
  pair_sum-step n h k rest (inr np) (inr nq) =
      let a : eqb n d ≡ false = ne_eqb n d np in
      let b : eqb n e ≡ false = ne_eqb n e nq in
      omega (
        arith,
        pair_step n,
        cond-false (eqb n d && eqb n e) (same n) 0 (and_left (eqb n d) (eqb n e) a),
        cond-false (eqb n d) (to_right n) 0 a,
        cond-false (eqb n e) (to_left n) 0 b,
        rest (omega arith) (omega arith),
      )

  -- of the pairs below n, both ways, one is (d, e)
  pub pair_sum-pick : (n : ℕ) → d < n → e < n → pair_sum same_at apart_at (below n) ≡ cond (eqb d e) (same d) (apart d e)
  pair_sum-pick zero h k = absurd (omega arith)
  pair_sum-pick (suc n) h k = pair_sum-step n h k (λ u v. pair_sum-pick n u v) (cases_eq n d) (cases_eq n e)

pub pair_sum-mapped : {X Y : Type 0} (same : Y → ℕ) (apart : Y → Y → ℕ) (h : X → Y) (xs : List X) → pair_sum same apart (map h xs) ≡ pair_sum (λ x. same (h x)) (λ x y. apart (h x) (h y)) xs
pair_sum-mapped same apart h [] = refl
pair_sum-mapped same apart h (x ∷ xs) = omega (arith, sum_by-mapped (λ y. apart (h x) y + apart y (h x)) h xs, pair_sum-mapped same apart h xs)

pub pair_sum-same : {X : Type 0} (f g : X → ℕ) (u v : X → X → ℕ) → ((x : X) → f x ≡ g x) → ((x y : X) → u x y ≡ v x y) → (xs : List X) → pair_sum f u xs ≡ pair_sum g v xs
pair_sum-same f g u v e r [] = refl
pair_sum-same f g u v e r (x ∷ xs) = omega (arith, e x, sum_by-same (λ y. u x y + u y x) (λ y. v x y + v y x) (λ y. omega (arith, r x y, r y x)) xs, pair_sum-same f g u v e r xs)

pub pair_sum-zero : {X : Type 0} (xs : List X) → pair_sum {X = X} (λ x. 0) (λ x y. 0) xs ≡ 0
pair_sum-zero [] = refl
pair_sum-zero {X} (x ∷ xs) = omega (arith, sum_by-zero {X = X} (λ y. 0 + 0) (λ y. refl) xs, pair_sum-zero xs)

pair_filtered_step : {X : Type 0} (f : X → ℕ) (u : X → X → ℕ) (x : X) (xs ys : List X) (b : Bool) → (b ≡ false → (f x ≡ 0) × ((y : X) → u x y + u y x ≡ 0)) → sum_by (λ y. u x y + u y x) ys ≡ sum_by (λ y. u x y + u y x) xs → pair_sum f u ys ≡ pair_sum f u xs → pair_sum f u (cond b (x ∷ ys) ys) ≡ pair_sum f u (x ∷ xs)
pair_filtered_step f u x xs ys true h r e = omega arith
pair_filtered_step f u x xs ys false h r e = omega (arith, (h refl).0, sum_by-zero (λ y. u x y + u y x) (h refl).1 xs)

pub pair_sum-filtered : {X : Type 0} (t : X → Bool) (f : X → ℕ) (u : X → X → ℕ) → ((x : X) → t x ≡ false → (f x ≡ 0) × ((y : X) → u x y + u y x ≡ 0)) → (xs : List X) → pair_sum f u (filter t xs) ≡ pair_sum f u xs
pair_sum-filtered t f u e [] = refl
pair_sum-filtered {X} t f u e (x ∷ xs) = pair_filtered_step f u x xs (filter t xs) (t x) (e x) (sum_by-filtered t (λ y. u x y + u y x) (λ y none. omega (arith, (e y none).1 x)) xs) (pair_sum-filtered t f u e xs)

pub pair_sum-cond : {X : Type 0} (b : Bool) (f : X → ℕ) (u : X → X → ℕ) (xs : List X) → pair_sum (λ x. cond b (f x) 0) (λ x y. cond b (u x y) 0) xs ≡ cond b (pair_sum f u xs) 0
pair_sum-cond true f u xs = refl
pair_sum-cond false f u xs = pair_sum-zero xs
