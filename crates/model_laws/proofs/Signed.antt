-- Signed sums over lists.
use Rattle.std.proofs.Common.{◌≡◌, ℕ, Bool, true, false, cond, List, [], ◌∷◌, map, sum_by, fold, refl, ap, sym, ◌∙◌, arith, inl, inr, ℤ, pos, ◌+ℤ◌}
use Rattle.std.specs.List.{filter}
use Rattle.std.proofs.lemmas.Int.{ints}
use Rattle.std.proofs.lemmas.List.Sums.{sum_by-cons}
use Rattle.std.proofs.lemmas.Bool.{cond-true, cond-false}
use Rattle.fixed_point.specs.declared.V3.{V3}
use Rattle.fixed_point.specs.Vectors.{origin, plus, sum_of}
use Rattle.model_laws.proofs.Among.{Among}

-- a signed sum, from the end of the list
abbrev pub total_by : {X : Type 0} → (X → ℤ) → List X → ℤ
total_by f [] = pos 0
total_by f (x ∷ xs) = f x +ℤ total_by f xs

pub total-same : {X : Type 0} (f g : X → ℤ) → ((x : X) → f x ≡ g x) → (xs : List X) → total_by f xs ≡ total_by g xs
total-same f g e [] = refl
total-same f g e (x ∷ xs) = omega (arith, ints, e x, total-same f g e xs)

pub total-on : {X : Type 0} (f g : X → ℤ) (xs : List X) → ((x : X) → Among x xs → f x ≡ g x) → total_by f xs ≡ total_by g xs
total-on f g [] e = refl
total-on f g (x ∷ xs) e = omega (arith, ints, e x (inl refl), total-on f g xs (λ y h. e y (inr h)))

pub total-zero : {X : Type 0} (xs : List X) → total_by {X = X} (λ x. pos 0) xs ≡ pos 0
total-zero [] = refl
total-zero (x ∷ xs) = omega (arith, ints, total-zero xs)

pub total-plus : {X : Type 0} (f g : X → ℤ) (xs : List X) → total_by (λ x. f x +ℤ g x) xs ≡ total_by f xs +ℤ total_by g xs
total-plus f g [] = refl
total-plus f g (x ∷ xs) = omega (arith, ints, total-plus f g xs)

-- two sums in either order
pub total-exchange : {X Y : Type 0} (f : X → Y → ℤ) (xs : List X) (ys : List Y) → total_by (λ x. total_by (λ y. f x y) ys) xs ≡ total_by (λ y. total_by (λ x. f x y) xs) ys
total-exchange f [] ys = sym (total-zero ys)
total-exchange f (x ∷ xs) ys = omega (arith, ints, total-exchange f xs ys, total-plus (λ y. f x y) (λ y. total_by (λ x. f x y) xs) ys)

total_filter_step : {X : Type 0} (f : X → ℤ) (x : X) (ys : List X) (b : Bool) (t : ℤ) → total_by f ys ≡ t → total_by f (cond b (x ∷ ys) ys) ≡ cond b (f x) (pos 0) +ℤ t
total_filter_step f x ys true t e = ap (λ u. f x +ℤ u) e
total_filter_step f x ys false t e = omega (arith, ints, e)

pub total-filter : {X : Type 0} (p : X → Bool) (f : X → ℤ) (xs : List X) → total_by f (filter p xs) ≡ total_by (λ x. cond (p x) (f x) (pos 0)) xs
total-filter p f [] = refl
total-filter p f (x ∷ xs) = total_filter_step f x (filter p xs) (p x) (total_by (λ y. cond (p y) (f y) (pos 0)) xs) (total-filter p f xs)

-- a sum of one number over the elements that pass a test, where none does, and where one does
nowhere_step : {X : Type 0} (t : X → Bool) (v : ℤ) (x : X) (xs : List X) (b : Bool) (total : ℤ) → t x ≡ b → (sum_by (λ x. cond (t x) 1 0) xs ≡ 0 → total ≡ pos 0) → sum_by (λ x. cond (t x) 1 0) (x ∷ xs) ≡ 0 → cond b v (pos 0) +ℤ total ≡ pos 0
nowhere_step t v x xs true total e rest h = absurd (omega (arith, h, sum_by-cons (λ x. cond (t x) 1 0) x xs, cond-true {A = ℕ} (t x) 1 0 e))
nowhere_step t v x xs false total e rest h = let u : total ≡ pos 0 = rest (omega (arith, h, sum_by-cons (λ x. cond (t x) 1 0) x xs, cond-false {A = ℕ} (t x) 1 0 e)) in omega (arith, ints, u)

pub total-nowhere : {X : Type 0} (t : X → Bool) (v : ℤ) (xs : List X) → sum_by (λ x. cond (t x) 1 0) xs ≡ 0 → total_by (λ x. cond (t x) v (pos 0)) xs ≡ pos 0
total-nowhere t v [] h = refl
total-nowhere t v (x ∷ xs) h = nowhere_step t v x xs (t x) (total_by (λ x. cond (t x) v (pos 0)) xs) refl (λ k. total-nowhere t v xs k) h

once_step : {X : Type 0} (t : X → Bool) (v : ℤ) (x : X) (xs : List X) (b : Bool) (total : ℤ) → t x ≡ b → (sum_by (λ x. cond (t x) 1 0) xs ≡ 0 → total ≡ pos 0) → (sum_by (λ x. cond (t x) 1 0) xs ≡ 1 → total ≡ v) →
    sum_by (λ x. cond (t x) 1 0) (x ∷ xs) ≡ 1 → cond b v (pos 0) +ℤ total ≡ v
once_step t v x xs true total e none one h = let u : total ≡ pos 0 = none (omega (arith, h, sum_by-cons (λ x. cond (t x) 1 0) x xs, cond-true {A = ℕ} (t x) 1 0 e)) in omega (arith, ints, u)
once_step t v x xs false total e none one h = let u : total ≡ v = one (omega (arith, h, sum_by-cons (λ x. cond (t x) 1 0) x xs, cond-false {A = ℕ} (t x) 1 0 e)) in omega (arith, ints, u)

pub total-once : {X : Type 0} (t : X → Bool) (v : ℤ) (xs : List X) → sum_by (λ x. cond (t x) 1 0) xs ≡ 1 → total_by (λ x. cond (t x) v (pos 0)) xs ≡ v
total-once t v [] h = absurd (omega (arith, h))
total-once t v (x ∷ xs) h = once_step t v x xs (t x) (total_by (λ x. cond (t x) v (pos 0)) xs) refl (λ k. total-nowhere t v xs k) (λ k. total-once t v xs k) h

pub total-mapped : {X Y : Type 0} (f : Y → ℤ) (h : X → Y) (xs : List X) → total_by f (map h xs) ≡ total_by (λ x. f (h x)) xs
total-mapped f h [] = refl
total-mapped f h (x ∷ xs) = ap (λ t. f (h x) +ℤ t) (total-mapped f h xs)

-- a sum of natural numbers as a signed one
pub total-pos : {X : Type 0} (f : X → ℕ) (xs : List X) → total_by (λ x. pos (f x)) xs ≡ pos (sum_by f xs)
total-pos f [] = refl
total-pos f (x ∷ xs) = omega (arith, ints, total-pos f xs, sum_by-cons f x xs)

-- a sum of vectors, axis by axis
abbrev pub totals_by : {X : Type 0} → (X → V3) → List X → V3
totals_by f xs = record { x = total_by (λ e. (f e).x) xs; y = total_by (λ e. (f e).y) xs; z = total_by (λ e. (f e).z) xs }

sum_from : {X : Type 0} (f : X → V3) (xs : List X) (v : V3) → fold (λ total x. plus total (f x)) v xs ≡ plus v (totals_by f xs)
sum_from f [] v =
    let a : v.x ≡ v.x +ℤ pos 0 = omega (arith, ints) in
    let b : v.y ≡ v.y +ℤ pos 0 = omega (arith, ints) in
    let c : v.z ≡ v.z +ℤ pos 0 = omega (arith, ints) in
    λ i. record { x = a i; y = b i; z = c i }
sum_from f (x ∷ xs) v =
    let t : V3 = totals_by f xs in
    let a : v.x +ℤ (f x).x +ℤ t.x ≡ v.x +ℤ ((f x).x +ℤ t.x) = omega (arith, ints) in
    let b : v.y +ℤ (f x).y +ℤ t.y ≡ v.y +ℤ ((f x).y +ℤ t.y) = omega (arith, ints) in
    let c : v.z +ℤ (f x).z +ℤ t.z ≡ v.z +ℤ ((f x).z +ℤ t.z) = omega (arith, ints) in
    sum_from f xs (plus v (f x)) ∙ (λ i. record { x = a i; y = b i; z = c i })

pub sum_of-totals : {X : Type 0} (f : X → V3) (xs : List X) → sum_of f xs ≡ totals_by f xs
sum_of-totals f xs =
    let t : V3 = totals_by f xs in
    let a : pos 0 +ℤ t.x ≡ t.x = omega (arith, ints) in
    let b : pos 0 +ℤ t.y ≡ t.y = omega (arith, ints) in
    let c : pos 0 +ℤ t.z ≡ t.z = omega (arith, ints) in
    sum_from f xs origin ∙ (λ i. record { x = a i; y = b i; z = c i })
