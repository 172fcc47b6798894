-- How long the work list may get.
use Rattle.std.proofs.Common.{◌≡◌, ℕ, suc, ◌+◌, ◌*◌, ◌≤◌, List, [], ◌∷◌, ◌++◌, length, arith, subst}
use Rattle.std.specs.List.{AllByRecursion}
use Rattle.octree_build.specs.Trees.{NodeData}
use Rattle.dual_walk.specs.declared.pairs.Pair.{Pair}
use Rattle.dual_walk.specs.Steps.{cells_at, depth_of, IsStacked}

module _ (nodes : List NodeData) where
  abbrev depth : Pair → ℕ
  depth x = depth_of (cells_at nodes x)

  stacked_append : (n : ℕ) (xs ys : List Pair) → IsStacked nodes n xs → IsStacked nodes (n + length xs) ys → IsStacked nodes n (xs ++ ys)
  stacked_append n [] ys a b = let e : n + 0 ≡ n = omega arith in subst (λ m. IsStacked nodes m ys) e b
  stacked_append n (x ∷ xs) ys a b = let e : n + suc (length xs) ≡ n + 1 + length xs = omega arith in (a.0, stacked_append (n + 1) xs ys a.1 (subst (λ m. IsStacked nodes m ys) e b))

  stacked_front : (n : ℕ) (xs ys : List Pair) → IsStacked nodes n (xs ++ ys) → IsStacked nodes n xs
  stacked_front n [] ys a = tt
  stacked_front n (x ∷ xs) ys a = (a.0, stacked_front (n + 1) xs ys a.1)

  stacked_last : (n : ℕ) (xs : List Pair) (x : Pair) → IsStacked nodes n (xs ++ x ∷ []) → n + length xs ≤ 64 * depth x
  stacked_last n [] x a = omega (arith, a.0)
  stacked_last n (y ∷ ys) x a = let r : n + 1 + length ys ≤ 64 * depth x = stacked_last (n + 1) ys x a.1 in omega (arith, r)

  stacked_new : (d n : ℕ) (ys : List Pair) → AllByRecursion (λ y. depth y ≡ d + 1) ys → n + length ys ≤ 64 * d + 64 → IsStacked nodes n ys
  stacked_new d n [] a h = tt
  stacked_new d n (y ∷ ys) a h = (omega (arith, a.0, h), stacked_new d (n + 1) ys a.1 (omega (arith, h)))

  -- a pair is taken from the end of the list, and deeper ones come there
  pub stacked_next : (rest ys : List Pair) (x : Pair) → IsStacked nodes 0 (rest ++ x ∷ []) → AllByRecursion (λ y. depth y ≡ depth x + 1) ys → length ys ≤ 64 → IsStacked nodes 0 (rest ++ ys)
  stacked_next rest ys x a d h = stacked_append 0 rest ys (stacked_front 0 rest (x ∷ []) a) (stacked_new (depth x) (0 + length rest) ys d (omega (arith, h, stacked_last 0 rest x a)))

  pub stacked_rest : (rest : List Pair) (x : Pair) → IsStacked nodes 0 (rest ++ x ∷ []) → length rest ≤ 64 * depth x
  stacked_rest rest x a = omega (arith, stacked_last 0 rest x a)
