-- Working off the known elements of a tree, whatever is known.
use Rattle.std.proofs.Common.{◌≡◌, ℕ, zero, suc, ◌+◌, ◌<◌, Bool, true, false, cond, List, [], ◌∷◌, ◌++◌, sum_by, refl, ap, ◌∙◌, arith, inl, inr, map, sym}
use Rattle.std.specs.List.{flat_map}
use Rattle.std.proofs.lemmas.List.Sums.{sum_by-append}
use Rattle.model_laws.proofs.Among.{Among}
use Rattle.model_laws.proofs.Sums.{sum_by-flat_map, sum_by-plus}
use Rattle.model_laws.proofs.Ranks.{sum_by-on}
use Rattle.rank_laws.specs.Trees.{tree_in, tree, IsFalling, all_from, next_known, worked, waiting}

pub flat_map-same : {X Y : Type 0} (f g : X → List Y) (xs : List X) → ((x : X) → Among x xs → f x ≡ g x) → flat_map f xs ≡ flat_map g xs
flat_map-same f g [] e = refl
flat_map-same f g (x ∷ xs) e = ap (λ t. t ++ flat_map f xs) (e x (inl refl)) ∙ ap (λ t. g x ++ t) (flat_map-same f g xs (λ y h. e y (inr h)))

module _ {X Y : Type 0} (depth : X → ℕ) (here : X → List Y) (next : X → List X) (falls : IsFalling depth next) where
  enough : (n m : ℕ) (x : X) → depth x < n → depth x < m → tree_in depth here next n x ≡ tree_in depth here next m x
  enough zero m x h k = absurd (omega (arith, h))
  enough (suc n) zero x h k = absurd (omega (arith, k))
  enough (suc n) (suc m) x h k =
      ap (λ t. here x ++ t) (flat_map-same (λ y. tree_in depth here next n y) (λ y. tree_in depth here next m y) (next x) (λ y a. enough n m y (omega (arith, falls x y a, h)) (omega (arith, falls x y a, k))))

  pub tree_step : (x : X) → tree depth here next x ≡ here x ++ flat_map (tree depth here next) (next x)
  unfolding tree
  tree_step x = ap (λ t. here x ++ t) (flat_map-same (λ y. tree_in depth here next (depth x) y) (λ y. tree_in depth here next (suc (depth y)) y) (next x) (λ y a. enough (depth x) (suc (depth y)) y (falls x y a) (omega arith)))

  pub tree_sum : (g : Y → ℕ) (x : X) → sum_by g (tree depth here next x) ≡ sum_by g (here x) + sum_by (λ y. sum_by g (tree depth here next y)) (next x)
  tree_sum g x = ap (sum_by g) (tree_step x) ∙ omega (arith, sum_by-append g (here x) (flat_map (tree depth here next) (next x)), sum_by-flat_map g (tree depth here next) (next x))

module _ {X : Type 0} (depth : X → ℕ) (next : X → List X) (falls : IsFalling depth next) (known : X → Bool) where
  falls_known : IsFalling depth (next_known depth next known)
  falls_known x y h = case (known x) h
    where
      case : (b : Bool) → Among y (cond b (next x) []) → depth y < depth x
      case true a = falls x y a
      case false a = absurd a

  settled_step : (g : X → ℕ) (x : X) (b : Bool) → ((y : X) → Among y (next x) → sum_by g (worked depth next known y) + sum_by (λ z. sum_by g (all_from depth next z)) (waiting depth next known y) ≡ sum_by g (all_from depth next y)) →
      (sum_by g (cond b (x ∷ []) []) + sum_by (λ y. sum_by g (worked depth next known y)) (cond b (next x) []))
      + (sum_by (λ y. sum_by g (all_from depth next y)) (cond b [] (x ∷ [])) + sum_by (λ y. sum_by (λ z. sum_by g (all_from depth next z)) (waiting depth next known y)) (cond b (next x) []))
      ≡ sum_by g (all_from depth next x)
  settled_step g x true rest =
      omega (
        arith,
        sum_by-plus (λ y. sum_by g (worked depth next known y)) (λ y. sum_by (λ z. sum_by g (all_from depth next z)) (waiting depth next known y)) (next x),
        sum_by-on (λ y. sum_by g (worked depth next known y) + sum_by (λ z. sum_by g (all_from depth next z)) (waiting depth next known y)) (λ y. sum_by g (all_from depth next y)) (next x) rest,
        tree_sum depth (λ y. y ∷ []) next falls g x,
      )
  settled_step g x false rest = omega arith

  -- what is worked off, and what is reached from what waits, is all that is reached: any sum
  settled_in : (g : X → ℕ) (n : ℕ) (x : X) → depth x < n →
      sum_by g (worked depth next known x) + sum_by (λ y. sum_by g (all_from depth next y)) (waiting depth next known x) ≡ sum_by g (all_from depth next x)
  settled_in g zero x h = absurd (omega (arith, h))
  settled_in g (suc n) x h =
      omega (
        arith,
        tree_sum depth (λ y. cond (known y) (y ∷ []) []) (next_known depth next known) falls_known g x,
        tree_sum depth (λ y. cond (known y) [] (y ∷ [])) (next_known depth next known) falls_known (λ y. sum_by g (all_from depth next y)) x,
        settled_step g x (known x) (λ y a. settled_in g n y (omega (arith, falls x y a, h))),
      )

  pub settled : (g : X → ℕ) (x : X) → sum_by g (worked depth next known x) + sum_by (λ y. sum_by g (all_from depth next y)) (waiting depth next known x) ≡ sum_by g (all_from depth next x)
  settled g x = settled_in g (suc (depth x)) x (omega arith)
