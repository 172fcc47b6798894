-- The pairs reached from a pair on: that pair, and those reached from what it gives.
use Rattle.std.proofs.Common.{◌≡◌, ℕ, zero, suc, ◌+◌, ◌-◌, ◌<◌, List, [], ◌∷◌, ◌++◌, sum_by, refl, ap, sym, ◌∙◌, arith}
use Rattle.std.specs.List.{flat_map, AllByRecursion}
use Rattle.std.proofs.lemmas.List.Sums.{sum_by-cons}
use Rattle.cell_space.specs.Cells.{CellData}
use Rattle.nbody_model.specs.Nodes.{positions_of}
use Rattle.model_laws.specs.InOrder.{gives_in, reached_in}
use Rattle.model_laws.proofs.Sums.{sum_by-flat_map, sum_by-one}
use Rattle.octree_build.specs.Trees.{opened}
use Rattle.dual_walk.specs.Courses.{Course, opening_by}
use Rattle.dual_walk.specs.Steps.{depth_of, reached_below}

flat_map-on : {X Y : Type 0} (P : X → Type 0) (f g : X → List Y) → ((x : X) → P x → f x ≡ g x) → (xs : List X) → AllByRecursion P xs → flat_map f xs ≡ flat_map g xs
flat_map-on P f g e [] a = refl
flat_map-on P f g e (x ∷ xs) a = ap (λ t. t ++ flat_map f xs) (e x a.0) ∙ ap (λ t. g x ++ t) (flat_map-on P f g e xs a.1)

-- what a pair gives
abbrev pub given : Course → CellData × CellData → List (CellData × CellData)
given w x = gives_in (opening_by w) (opened (positions_of w.bodies)) x

module _ (w : Course) where
  abbrev within : ℕ → CellData × CellData → List (CellData × CellData)
  within n x = reached_in (opening_by w) (opened (positions_of w.bodies)) n x

  from_none : (n : ℕ) (x : CellData × CellData) → given w x ≡ [] → within n x ≡ x ∷ []
  unfolding reached_in
  from_none zero x e = refl
  from_none (suc n) x e = ap (λ t. x ∷ flat_map (within n) t) e

  from_some : (n m : ℕ) (x : CellData × CellData) → n ≡ suc m → within n x ≡ x ∷ flat_map (within m) (given w x)
  unfolding reached_in
  from_some n m x e = ap (λ n. within n x) e

  pub below_none : (x : CellData × CellData) → given w x ≡ [] → reached_below w x ≡ x ∷ []
  unfolding reached_below
  below_none x e = from_none (32 - depth_of x) x e

  pub below_step : (x : CellData × CellData) → depth_of x < 32 → AllByRecursion (λ y. depth_of y ≡ depth_of x + 1) (given w x) → reached_below w x ≡ x ∷ flat_map (reached_below w) (given w x)
  unfolding reached_below
  below_step x low deeper =
      let e : 32 - depth_of x ≡ suc (32 - (depth_of x + 1)) = omega (arith, low) in
      from_some (32 - depth_of x) (32 - (depth_of x + 1)) x e
      ∙ ap (λ t. x ∷ t) (flat_map-on (λ y. depth_of y ≡ depth_of x + 1) (within (32 - (depth_of x + 1))) (reached_below w) (λ y d. ap (λ k. within (32 - k) y) (sym d)) (given w x) deeper)

  -- a weight over what is reached from a pair on
  abbrev pub one : (CellData × CellData → ℕ) → CellData × CellData → ℕ
  one weight x = sum_by weight (reached_below w x)

  pub sum_none : (weight : CellData × CellData → ℕ) (x : CellData × CellData) → given w x ≡ [] → one weight x ≡ weight x
  sum_none weight x e = ap (sum_by weight) (below_none x e) ∙ sum_by-one weight x

  pub sum_step : (weight : CellData × CellData → ℕ) (x : CellData × CellData) → depth_of x < 32 → AllByRecursion (λ y. depth_of y ≡ depth_of x + 1) (given w x) → one weight x ≡ weight x + sum_by (one weight) (given w x)
  sum_step weight x low deeper =
      ap (sum_by weight) (below_step x low deeper)
      ∙ sum_by-cons weight x (flat_map (reached_below w) (given w x))
      ∙ ap (λ n. weight x + n) (sum_by-flat_map weight (reached_below w) (given w x))
