-- In a list with a strict order, the places are 0, 1, 2, .. : as many elements have a place below L as there can be.
use Rattle.std.proofs.Common.{◌≡◌, ℕ, suc, ◌+◌, ◌-◌, ◌<◌, ◌≤◌, min, Bool, true, false, cond, ltb, List, [], ◌∷◌, length, sum_by, zero-add, refl, ap, sym, ◌∙◌, arith, ◌⊎◌, inl, inr}
use Rattle.std.specs.List.{count_by}
use Rattle.std.proofs.lemmas.List.Sums.{sum_by-cons, count_by-le-length}
use Rattle.std.proofs.lemmas.Bool.Decides.{nat_tests}
use Rattle.std.proofs.lemmas.Bool.{cond-true, cond-false, false≢true}
use Rattle.model_laws.proofs.Among.{Among}
use Rattle.model_laws.proofs.Sums.{sum_by-plus}

pub sum_by-on : {X : Type 0} (f g : X → ℕ) (xs : List X) → ((x : X) → Among x xs → f x ≡ g x) → sum_by f xs ≡ sum_by g xs
sum_by-on f g [] e = refl
sum_by-on f g (x ∷ xs) e = omega (arith, sum_by-cons f x xs, sum_by-cons g x xs, e x (inl refl), sum_by-on f g xs (λ y h. e y (inr h)))

pub sum_by-le-on : {X : Type 0} (f g : X → ℕ) (xs : List X) → ((x : X) → Among x xs → f x ≤ g x) → sum_by f xs ≤ sum_by g xs
sum_by-le-on f g [] e = omega arith
sum_by-le-on f g (x ∷ xs) e = omega (arith, sum_by-cons f x xs, sum_by-cons g x xs, e x (inl refl), sum_by-le-on f g xs (λ y h. e y (inr h)))

sum_by-lt-on : {X : Type 0} (f g : X → ℕ) (y : X) (xs : List X) → ((x : X) → Among x xs → f x ≤ g x) → Among y xs → f y < g y → sum_by f xs < sum_by g xs
sum_by-lt-on f g y [] e h k = absurd h
sum_by-lt-on f g y (x ∷ xs) e (inl h) k = omega (arith, sum_by-cons f x xs, sum_by-cons g x xs, ap f h, ap g h, sum_by-le-on f g xs (λ z u. e z (inr u)))
sum_by-lt-on f g y (x ∷ xs) e (inr h) k = omega (arith, sum_by-cons f x xs, sum_by-cons g x xs, e x (inl refl), sum_by-lt-on f g y xs (λ z u. e z (inr u)) h k)

abbrev pub one_if : Bool → ℕ
one_if b = cond b 1 0

one_if-le : (a b : Bool) → (a ≡ true → b ≡ true) → one_if a ≤ one_if b
one_if-le true b h = omega (arith, cond-true {A = ℕ} b 1 0 (h refl))
one_if-le false b h = omega arith

step_before : (p k n : ℕ) → p < k → one_if (ltb (0 + p) n) + one_if (ltb p (min (n - 1) k)) ≡ one_if (ltb p (min n k)) + one_if (ltb p (n - 1))
step_before p k n h = grind (arith, nat_tests)

step_after : (p k n : ℕ) → k ≤ p → one_if (ltb (1 + p) n) + one_if (ltb p (min (n - 1) k)) ≡ one_if (ltb p (min n k)) + one_if (ltb p (n - 1))
step_after p k n h = grind (arith, nat_tests)

one_more : (k n l e : ℕ) → k ≤ l → e + min (min (n - 1) k) l ≡ min (min n k) l + min (n - 1) l → one_if (ltb k n) + e ≡ min n (suc l)
one_more k n l e h u = grind (arith, nat_tests)

module _ {X : Type 0} (lt : X → X → Bool) where
  -- the elements before x
  abbrev pub place : List X → X → ℕ
  place xs x = count_by (λ y. lt y x) xs

  pub record IsOrder : Type 0 where
    pub never : (x : X) → lt x x ≡ false
    pub further : (x y z : X) → lt x y ≡ true → lt y z ≡ true → lt x z ≡ true

  -- each two elements, the earlier one first, are in order one way or the other
  abbrev pub EachTwoDiffer : List X → Type 0
  EachTwoDiffer [] = Unit {0}
  EachTwoDiffer (x ∷ xs) = ((y : X) → Among y xs → (lt x y ≡ true) ⊎ (lt y x ≡ true)) × EachTwoDiffer xs

  module _ (o : IsOrder) where
    place_below : (x y : X) (xs : List X) → Among y xs → lt y x ≡ true → place xs y < place xs x
    place_below x y xs h e = sum_by-lt-on (λ z. one_if (lt z y)) (λ z. one_if (lt z x)) y xs (λ z k. one_if-le (lt z y) (lt z x) (λ u. o.further z y x u e)) h
        (omega (arith, cond-false {A = ℕ} (lt y y) 1 0 (o.never y), cond-true {A = ℕ} (lt y x) 1 0 e))

    place_above : (x y : X) (xs : List X) → lt x y ≡ true → place xs x ≤ place xs y
    place_above x y xs e = sum_by-le-on (λ z. one_if (lt z x)) (λ z. one_if (lt z y)) xs (λ z k. one_if-le (lt z x) (lt z y) (λ u. o.further z x y u e))

    -- how many have a place below n, of the places in ys
    abbrev early : List X → List X → ℕ → ℕ
    early ys xs n = sum_by (λ y. one_if (ltb (place ys y) n)) xs

    not_both : (x y : X) → lt y x ≡ true → lt x y ≡ false
    not_both x y e = no (lt x y) refl
      where
        no : (b : Bool) → lt x y ≡ b → b ≡ false
        no true h = absurd (false≢true (sym (o.never x) ∙ o.further x y x h e))
        no false h = refl

    place-cons : (x y : X) (xs : List X) → place (x ∷ xs) y ≡ one_if (lt x y) + place xs y
    place-cons x y xs = sum_by-cons (λ z. one_if (lt z y)) x xs

    point : (x y : X) (xs : List X) (n : ℕ) → Among y xs → (lt x y ≡ true) ⊎ (lt y x ≡ true) →
        one_if (ltb (place (x ∷ xs) y) n) + one_if (ltb (place xs y) (min (n - 1) (place xs x))) ≡ one_if (ltb (place xs y) (min n (place xs x))) + one_if (ltb (place xs y) (n - 1))
    point x y xs n h (inl e) =
        ap (λ t. one_if (ltb t n) + one_if (ltb (place xs y) (min (n - 1) (place xs x)))) (place-cons x y xs ∙ ap (λ b. one_if b + place xs y) e)
        ∙ step_after (place xs y) (place xs x) n (place_above x y xs e)
    point x y xs n h (inr e) =
        ap (λ t. one_if (ltb t n) + one_if (ltb (place xs y) (min (n - 1) (place xs x)))) (place-cons x y xs ∙ ap (λ b. one_if b + place xs y) (not_both x y e))
        ∙ step_before (place xs y) (place xs x) n (place_below x y xs h e)

    pub places : (xs : List X) → EachTwoDiffer xs → (n : ℕ) → early xs xs n ≡ min n (length xs)
    places [] d n = omega arith
    places (x ∷ xs) d n =
        let k : ℕ = place xs x in
        let short : k ≤ length xs = count_by-le-length (λ y. lt y x) xs in
        let head : place (x ∷ xs) x ≡ k = place-cons x x xs ∙ ap (λ b. one_if b + k) (o.never x) ∙ zero-add k in
        let all : early (x ∷ xs) xs n + early xs xs (min (n - 1) k) ≡ early xs xs (min n k) + early xs xs (n - 1) =
        sym (sum_by-plus (λ y. one_if (ltb (place (x ∷ xs) y) n)) (λ y. one_if (ltb (place xs y) (min (n - 1) k))) xs)
        ∙ sum_by-on (λ y. one_if (ltb (place (x ∷ xs) y) n) + one_if (ltb (place xs y) (min (n - 1) k))) (λ y. one_if (ltb (place xs y) (min n k)) + one_if (ltb (place xs y) (n - 1))) xs (λ y h. point x y xs n h (d.0 y h))
        ∙ sum_by-plus (λ y. one_if (ltb (place xs y) (min n k))) (λ y. one_if (ltb (place xs y) (n - 1))) xs in
        let first : early (x ∷ xs) (x ∷ xs) n ≡ one_if (ltb k n) + early (x ∷ xs) xs n =
        sum_by-cons (λ y. one_if (ltb (place (x ∷ xs) y) n)) x xs ∙ ap (λ t. one_if (ltb t n) + early (x ∷ xs) xs n) head in
        first ∙ one_more k n (length xs) (early (x ∷ xs) xs n) short
        (omega (arith, all, places xs d.1 (min (n - 1) k), places xs d.1 (min n k), places xs d.1 (n - 1)))
