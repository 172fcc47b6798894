-- What waits is unknown; counts of an element in a list.
use Rattle.std.proofs.Common.{◌≡◌, ℕ, zero, suc, ◌+◌, ◌<◌, ◌≤◌, Bool, true, false, cond, ◌||◌, List, [], ◌∷◌, ◌++◌, sum_by, refl, sym, ◌∙◌, arith}
use Rattle.std.specs.Bool.{Decides}
use Rattle.std.specs.List.{AllByRecursion, flat_map, list_any}
use Rattle.std.proofs.lemmas.List.Sums.{sum_by-cons}
use Rattle.std.proofs.lemmas.Bool.{false≢true, cond-true, cond-false}
use Rattle.model_laws.proofs.Among.{Among, among-zero}
use Rattle.model_laws.proofs.Sums.{sum_by-flat_map, sum_by-plus, sum_by-zero, sum_by-same}
use Rattle.rank_laws.specs.Trees.{tree_in, tree, IsFalling, all_from, next_known, worked, waiting}
use Rattle.rank_laws.proofs.Trees.{tree_sum, settled}

module _ {X : Type 0} (depth : X → ℕ) (next : X → List X) (falls : IsFalling depth next) (known : X → Bool) where
  marked : X → ℕ
  marked y = cond (known y) 1 0

  falls_known : IsFalling depth (next_known depth next known)
  falls_known x y h = case (known x) h
    where
      case : (b : Bool) → Among y (cond b (next x) []) → depth y < depth x
      case true a = falls x y a
      case false a = absurd a

  none_step : (x : X) (b : Bool) → known x ≡ b → ((y : X) → Among y (next x) → sum_by (λ y. cond (known y) 1 0) (waiting depth next known y) ≡ 0) →
      sum_by (λ y. cond (known y) 1 0) (cond b [] (x ∷ [])) + sum_by (λ y. sum_by (λ y. cond (known y) 1 0) (waiting depth next known y)) (cond b (next x) []) ≡ 0
  none_step x true e rest = omega (arith, among-zero (λ y. sum_by (λ y. cond (known y) 1 0) (waiting depth next known y)) (next x) rest)
  none_step x false e rest = omega (arith, cond-false {A = ℕ} (known x) 1 0 e)

  none_in : (n : ℕ) (x : X) → depth x < n → sum_by (λ y. cond (known y) 1 0) (waiting depth next known x) ≡ 0
  none_in zero x h = absurd (omega (arith, h))
  none_in (suc n) x h =
      tree_sum depth (λ y. cond (known y) [] (y ∷ [])) (next_known depth next known) falls_known (λ y. cond (known y) 1 0) x
      ∙ none_step x (known x) refl (λ y a. none_in n y (omega (arith, falls x y a, h)))

  -- no element that waits is known
  pub none_known : (xs : List X) → list_any known (flat_map (waiting depth next known) xs) ≡ false
  none_known xs = from_sum (flat_map (waiting depth next known) xs) (sum_by-flat_map (λ y. cond (known y) 1 0) (waiting depth next known) xs ∙ sum_by-zero (λ x. sum_by (λ y. cond (known y) 1 0) (waiting depth next known x)) (λ x. none_in (suc (depth x)) x (omega arith)) xs)
    where
      head : (y : X) (ys : List X) (b : Bool) → known y ≡ b → sum_by (λ y. cond (known y) 1 0) (y ∷ ys) ≡ 0 → (sum_by (λ y. cond (known y) 1 0) ys ≡ 0 → list_any known ys ≡ false) → (b || list_any known ys) ≡ false
      head y ys true e h rest = absurd (omega (arith, h, sum_by-cons (λ y. cond (known y) 1 0) y ys, cond-true {A = ℕ} (known y) 1 0 e))
      head y ys false e h rest = rest (omega (arith, h, sum_by-cons (λ y. cond (known y) 1 0) y ys))

      from_sum : (ys : List X) → sum_by (λ y. cond (known y) 1 0) ys ≡ 0 → list_any known ys ≡ false
      from_sum [] h = refl
      from_sum (y ∷ ys) h = head y ys (known y) refl h (λ k. from_sum ys k)

  -- over a list: what is worked off and what waits
  pub settled_list : (g : X → ℕ) (xs : List X) → sum_by g (flat_map (worked depth next known) xs) + sum_by (λ y. sum_by g (all_from depth next y)) (flat_map (waiting depth next known) xs) ≡ sum_by (λ y. sum_by g (all_from depth next y)) xs
  settled_list g xs =
      omega (
        arith,
        sum_by-flat_map g (worked depth next known) xs,
        sum_by-flat_map (λ y. sum_by g (all_from depth next y)) (waiting depth next known) xs,
        sum_by-plus (λ x. sum_by g (worked depth next known x)) (λ x. sum_by (λ y. sum_by g (all_from depth next y)) (waiting depth next known x)) xs,
        sum_by-same (λ x. sum_by g (worked depth next known x) + sum_by (λ y. sum_by g (all_from depth next y)) (waiting depth next known x)) (λ x. sum_by g (all_from depth next x)) (λ x. settled depth next falls known g x) xs,
      )

  -- a weight of what waits is at most that of what is reached from it
  pub reached_more : (g : X → ℕ) (xs : List X) → sum_by g xs ≤ sum_by (λ y. sum_by g (all_from depth next y)) xs
  reached_more g [] = omega arith
  reached_more g (x ∷ xs) = omega (arith, sum_by-cons g x xs, sum_by-cons (λ y. sum_by g (all_from depth next y)) x xs, tree_sum depth (λ y. y ∷ []) next falls g x, reached_more g xs)

module _ {X : Type 0} (same : X → X → Bool) (exact : (x y : X) → Decides (same x y) (x ≡ y)) where
  abbrev pub often : X → List X → ℕ
  often z xs = sum_by (λ x. cond (same z x) 1 0) xs

  some_step : (z x : X) (xs : List X) (b : Bool) → same z x ≡ b → (list_any (same z) xs ≡ true → 0 < often z xs) → (b || list_any (same z) xs) ≡ true → 0 < often z (x ∷ xs)
  some_step z x xs true e r h = omega (arith, sum_by-cons (λ x. cond (same z x) 1 0) x xs, cond-true {A = ℕ} (same z x) 1 0 e)
  some_step z x xs false e r h = omega (arith, sum_by-cons (λ x. cond (same z x) 1 0) x xs, r h)

  pub often_some : (z : X) (xs : List X) → list_any (same z) xs ≡ true → 0 < often z xs
  often_some z [] h = absurd (false≢true h)
  often_some z (x ∷ xs) h = some_step z x xs (same z x) refl (λ k. often_some z xs k) h

  none_case : (z x : X) (xs : List X) (b : Bool) → same z x ≡ b → (list_any (same z) xs ≡ false → often z xs ≡ 0) → (b || list_any (same z) xs) ≡ false → often z (x ∷ xs) ≡ 0
  none_case z x xs true e r h = absurd (false≢true (sym h))
  none_case z x xs false e r h = omega (arith, sum_by-cons (λ x. cond (same z x) 1 0) x xs, cond-false {A = ℕ} (same z x) 1 0 e, r h)

  pub often_none : (z : X) (xs : List X) → list_any (same z) xs ≡ false → often z xs ≡ 0
  often_none z [] h = refl
  often_none z (x ∷ xs) h = none_case z x xs (same z x) refl (λ k. often_none z xs k) h

  pub some_often : (z : X) (xs : List X) → 0 < often z xs → list_any (same z) xs ≡ true
  some_often z xs h = case (list_any (same z) xs) refl
    where
      case : (b : Bool) → list_any (same z) xs ≡ b → b ≡ true
      case true e = refl
      case false e = absurd (omega (arith, h, often_none z xs e))

-- what holds of each element that stands somewhere holds of a whole tree
module _ {X Y : Type 0} (P : Y → Type 0) (depth : X → ℕ) (here : X → List Y) (next : X → List X) (each : (x : X) → AllByRecursion P (here x)) where
  each-both : (xs ys : List Y) → AllByRecursion P xs → AllByRecursion P ys → AllByRecursion P (xs ++ ys)
  each-both [] ys a b = b
  each-both (x ∷ xs) ys a b = (a.0, each-both xs ys a.1 b)

  each-flat : (f : X → List Y) → ((x : X) → AllByRecursion P (f x)) → (xs : List X) → AllByRecursion P (flat_map f xs)
  each-flat f e [] = tt
  each-flat f e (x ∷ xs) = each-both (f x) (flat_map f xs) (e x) (each-flat f e xs)

  each-tree_in : (n : ℕ) (x : X) → AllByRecursion P (tree_in depth here next n x)
  each-tree_in zero x = tt
  each-tree_in (suc n) x = each-both (here x) (flat_map (λ y. tree_in depth here next n y) (next x)) (each x) (each-flat (λ y. tree_in depth here next n y) (λ y. each-tree_in n y) (next x))

  pub each-trees : (xs : List X) → AllByRecursion P (flat_map (tree depth here next) xs)
  unfolding tree
  each-trees xs = each-flat (λ x. tree_in depth here next (suc (depth x)) x) (λ x. each-tree_in (suc (depth x)) x) xs
