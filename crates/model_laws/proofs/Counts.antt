-- How often an element stands in a list: lists in which each stands as often have the same sums.
use Rattle.std.proofs.Common.{◌≡◌, ℕ, ◌+◌, ◌<◌, Bool, true, false, cond, ◌||◌, List, [], ◌∷◌, sum_by, refl, ap, sym, ◌∙◌, arith, ℤ, ◌+ℤ◌, inl, inr}
use Rattle.std.specs.Bool.{Decides}
use Rattle.std.specs.List.{list_any}
use Rattle.std.proofs.lemmas.List.Sums.{sum_by-cons}
use Rattle.std.proofs.lemmas.Int.{ints}
use Rattle.std.proofs.lemmas.Bool.{cond-true, cond-false, or_left, or_right}
use Rattle.nbody_model.specs.Covers.{distinct}
use Rattle.model_laws.proofs.Among.{Among}
use Rattle.model_laws.proofs.Signed.{total_by}

module _ {X : Type 0} (same : X → X → Bool) (exact : (x y : X) → Decides (same x y) (x ≡ y)) where
  -- how often z stands in the list
  abbrev pub times : X → List X → ℕ
  times z xs = sum_by (λ x. cond (same x z) 1 0) xs

  -- the list without its first x
  abbrev pub without : X → List X → List X
  without x [] = []
  without x (y ∷ ys) = cond (same y x) ys (y ∷ without x ys)

  times-cons : (z x : X) (xs : List X) → times z (x ∷ xs) ≡ cond (same x z) 1 0 + times z xs
  times-cons z x xs = sum_by-cons (λ y. cond (same y z) 1 0) x xs

  itself : (x : X) → same x x ≡ true
  itself x = (exact x x).1 refl

  without_step : (x y z : X) (ys : List X) (b : Bool) → same y x ≡ b → 0 < times x (y ∷ ys) → (0 < times x ys → times z (without x ys) + cond (same x z) 1 0 ≡ times z ys) →
      times z (cond b ys (y ∷ without x ys)) + cond (same x z) 1 0 ≡ times z (y ∷ ys)
  without_step x y z ys true e h rest = omega (arith, times-cons z y ys, ap {B = ℕ} (λ t. cond (same t z) 1 0) ((exact y x).0 e))
  without_step x y z ys false e h rest = omega (arith, times-cons z y ys, times-cons z y (without x ys), rest (omega (arith, h, times-cons x y ys, cond-false {A = ℕ} (same y x) 1 0 e)))

  times-without : (x z : X) (ys : List X) → 0 < times x ys → times z (without x ys) + cond (same x z) 1 0 ≡ times z ys
  times-without x z [] h = absurd (omega (arith, h))
  times-without x z (y ∷ ys) h = without_step x y z ys (same y x) refl h (λ k. times-without x z ys k)

  total_step : (f : X → ℤ) (x y : X) (ys : List X) (b : Bool) → same y x ≡ b → 0 < times x (y ∷ ys) → (0 < times x ys → f x +ℤ total_by f (without x ys) ≡ total_by f ys) → f x +ℤ total_by f (cond b ys (y ∷ without x ys)) ≡ f y +ℤ total_by f ys
  total_step f x y ys true e h rest = ap (λ t. f t +ℤ total_by f ys) (sym ((exact y x).0 e))
  total_step f x y ys false e h rest = let r : f x +ℤ total_by f (without x ys) ≡ total_by f ys = rest (omega (arith, h, times-cons x y ys, cond-false {A = ℕ} (same y x) 1 0 e)) in omega (arith, ints)

  total-without : (f : X → ℤ) (x : X) (ys : List X) → 0 < times x ys → f x +ℤ total_by f (without x ys) ≡ total_by f ys
  total-without f x [] h = absurd (omega (arith, h))
  total-without f x (y ∷ ys) h = total_step f x y ys (same y x) refl h (λ k. total-without f x ys k)

  -- lists in which each element stands as often have one sum
  pub same_total : (f : X → ℤ) (xs ys : List X) → ((z : X) → times z xs ≡ times z ys) → total_by f xs ≡ total_by f ys
  same_total f [] [] h = refl
  same_total f [] (y ∷ ys) h = absurd (omega (arith, h y, times-cons y y ys, cond-true {A = ℕ} (same y y) 1 0 (itself y)))
  same_total f (x ∷ xs) ys h =
      let there : 0 < times x ys = omega (arith, h x, times-cons x x xs, cond-true {A = ℕ} (same x x) 1 0 (itself x)) in
      ap (λ t. f x +ℤ t) (same_total f xs (without x ys) (λ z. omega (arith, h z, times-cons z x xs, times-without x z ys there))) ∙ total-without f x ys there

  turned : (x z : X) → same x z ≡ same z x
  turned x z = same_turned (same x z) (same z x) (λ e. (exact z x).1 (sym ((exact x z).0 e))) (λ e. (exact x z).1 (sym ((exact z x).0 e)))
    where
      same_turned : (a b : Bool) → (a ≡ true → b ≡ true) → (b ≡ true → a ≡ true) → a ≡ b
      same_turned true b h k = sym (h refl)
      same_turned false true h k = k refl
      same_turned false false h k = refl

  distinct_step : (z x : X) (xs : List X) (b c : Bool) → list_any (same x) xs ≡ b → same z x ≡ c → times z (distinct same xs) ≡ cond (list_any (same z) xs) 1 0 →
      times z (cond b (distinct same xs) (x ∷ distinct same xs)) ≡ cond (c || list_any (same z) xs) 1 0
  distinct_step z x xs true true e h rest = rest ∙ cond-true {A = ℕ} (list_any (same z) xs) 1 0 (ap (λ t. list_any (same t) xs) ((exact z x).0 h) ∙ e)
  distinct_step z x xs true false e h rest = rest
  distinct_step z x xs false true e h rest =
      omega (arith, times-cons z x (distinct same xs), rest, cond-true {A = ℕ} (same x z) 1 0 (turned x z ∙ h), cond-false {A = ℕ} (list_any (same z) xs) 1 0 (ap (λ t. list_any (same t) xs) ((exact z x).0 h) ∙ e))
  distinct_step z x xs false false e h rest = omega (arith, times-cons z x (distinct same xs), rest, cond-false {A = ℕ} (same x z) 1 0 (turned x z ∙ h))

  -- each element that stands in the list stands in `distinct` once
  pub times-distinct : (z : X) (xs : List X) → times z (distinct same xs) ≡ cond (list_any (same z) xs) 1 0
  times-distinct z [] = refl
  times-distinct z (x ∷ xs) = distinct_step z x xs (list_any (same x) xs) (same z x) refl refl (times-distinct z xs)

  distinct_among : (x y : X) (ys : List X) (b : Bool) → same y y ≡ true → Among x (cond b (distinct same ys) (y ∷ distinct same ys)) → (Among x (distinct same ys) → list_any (same x) ys ≡ true) → (same x y || list_any (same x) ys) ≡ true
  distinct_among x y ys true e h rest = or_right (same x y) (list_any (same x) ys) (rest h)
  distinct_among x y ys false e (inl h) rest = or_left (same x y) (list_any (same x) ys) ((exact x y).1 h)
  distinct_among x y ys false e (inr h) rest = or_right (same x y) (list_any (same x) ys) (rest h)

  -- whatever stands in `distinct` stands in the list
  pub among-distinct : (x : X) (xs : List X) → Among x (distinct same xs) → list_any (same x) xs ≡ true
  among-distinct x [] h = absurd h
  among-distinct x (y ∷ ys) h = distinct_among x y ys (list_any (same y) ys) (itself y) h (λ k. among-distinct x ys k)

  any_step : (z y : X) (ys : List X) (b : Bool) → same z y ≡ b → 0 < times z (y ∷ ys) → (0 < times z ys → list_any (same z) ys ≡ true) → (b || list_any (same z) ys) ≡ true
  any_step z y ys true e h rest = refl
  any_step z y ys false e h rest = rest (omega (arith, h, times-cons z y ys, cond-false {A = ℕ} (same y z) 1 0 (turned y z ∙ e)))

  -- what stands in a list more than no times is there
  pub any-times : (z : X) (ys : List X) → 0 < times z ys → list_any (same z) ys ≡ true
  any-times z [] h = absurd (omega (arith, h))
  any-times z (y ∷ ys) h = any_step z y ys (same z y) refl h (λ k. any-times z ys k)
