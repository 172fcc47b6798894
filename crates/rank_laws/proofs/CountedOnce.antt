-- What the ranks count, together, is what the walk of one finds.
use Rattle.std.proofs.Common.{◌≡◌, ℕ, zero, suc, ◌<◌, Bool, true, false, cond, List, [], ◌∷◌, length, sum_by, refl, ap, sym, ◌∙◌, arith, ◌⊎◌, inl, inr, subst}
use Rattle.std.specs.List.{flat_map, filter}
use Rattle.std.proofs.lemmas.Bool.{false≢true}
use Rattle.std.proofs.lemmas.List.Sums.{sum_by-cons, sum_by-append}
use Rattle.std.proofs.lemmas.List.Elements.{filter-append}
use Rattle.cell_space.specs.Cells.{below}
use Rattle.model_laws.proofs.Among.{Among}
use Rattle.model_laws.proofs.Sums.{sum_by-same, sum_by-filtered, sum_by-zero}
use Rattle.model_laws.proofs.Ranks.{sum_by-on}
use Rattle.rank_laws.specs.Homes.{Keys, home, concerned, lesser, counts}
use Rattle.rank_laws.specs.Trees.{IsFalling, all_from}
use Rattle.rank_laws.proofs.Trees.{tree_sum}
use Rattle.rank_laws.proofs.Homes.{Below, below_twice, concerned_above, filters_add_up, rank_of_key-in}

module _ {X : Type 0} (depth : X → ℕ) (gives : X → List X) (falls : IsFalling depth gives) (test : X → Bool) (g : X → ℕ) where
  falls_pruned : IsFalling depth (λ x. filter test (gives x))
  falls_pruned x y h = falls x y (kept (gives x) h)
    where
      one : (z : X) (zs : List X) (b : Bool) → (Among y (filter test zs) → Among y zs) → Among y (cond b (z ∷ filter test zs) (filter test zs)) → (y ≡ z) ⊎ Among y zs
      one z zs true rest (inl k) = inl k
      one z zs true rest (inr k) = inr (rest k)
      one z zs false rest k = inr (rest k)

      kept : (zs : List X) → Among y (filter test zs) → Among y zs
      kept [] k = absurd k
      kept (z ∷ zs) k = one z zs (test z) (λ j. kept zs j) k

  pruned_in : ((x : X) → test x ≡ false → sum_by g (all_from depth gives x) ≡ 0) → (n : ℕ) (x : X) → depth x < n → sum_by g (all_from depth (λ y. filter test (gives y)) x) ≡ sum_by g (all_from depth gives x)
  pruned_in closed zero x h = absurd (omega (arith, h))
  pruned_in closed (suc n) x h =
      omega (
        arith,
        tree_sum depth (λ y. y ∷ []) (λ y. filter test (gives y)) falls_pruned g x,
        tree_sum depth (λ y. y ∷ []) gives falls g x,
        sum_by-on (λ y. sum_by g (all_from depth (λ z. filter test (gives z)) y)) (λ y. sum_by g (all_from depth gives y)) (filter test (gives x)) (λ y a. pruned_in closed n y (omega (arith, falls_pruned x y a, h))),
        sum_by-filtered test (λ y. sum_by g (all_from depth gives y)) closed (gives x),
      )

  -- a rank that follows only what concerns it reaches all that has weight
  pub pruned_sum : ((x : X) → test x ≡ false → sum_by g (all_from depth gives x) ≡ 0) → (x : X) → sum_by g (all_from depth (λ y. filter test (gives y)) x) ≡ sum_by g (all_from depth gives x)
  pruned_sum closed x = pruned_in closed (suc (depth x)) x (omega arith)

module _ {C : Type 0} (keys : Keys C) (before : C → C → Bool) (depth : C × C → ℕ) (gives : C × C → List (C × C)) (falls : IsFalling depth gives) (yields : C × C → List (C × C)) where
  -- the cells of what a pair gives, and of what it yields, lie in its own
  pub record IsNested : Type 0 where
    pub of_gives : (x y : C × C) → Among y (gives x) → Below keys before x y
    pub of_yields : (x y : C × C) → Among y (yields x) → Below keys before x y

  module _ (nested : IsNested) (r : ℕ) (h : C × C → ℕ) where
    -- what rank r counts of what x yields
    abbrev counted_of : C × C → ℕ
    counted_of x = sum_by h (filter (counts keys before r) (yields x))

    -- what is counted stands below u
    none_kept : (u : C × C) → concerned keys r u ≡ false → (zs : List (C × C)) → ((z : C × C) → Among z zs → Below keys before u z) → sum_by h (filter (counts keys before r) zs) ≡ 0
    none_kept u off [] e = refl
    none_kept u off (z ∷ zs) e = case (counts keys before r z) refl (none_kept u off zs (λ y k. e y (inr k)))
      where
        case : (b : Bool) → counts keys before r z ≡ b → sum_by h (filter (counts keys before r) zs) ≡ 0 → sum_by h (cond b (z ∷ filter (counts keys before r) zs) (filter (counts keys before r) zs)) ≡ 0
        case true k rest = absurd (false≢true (sym off ∙ concerned_above keys before r u z (e z (inl refl)) k))
        case false k rest = rest

    none_in : (u : C × C) → concerned keys r u ≡ false → (n : ℕ) (x : C × C) → depth x < n → (x ≡ u) ⊎ Below keys before u x → sum_by counted_of (all_from depth gives x) ≡ 0
    none_in u off zero x k b = absurd (omega (arith, k))
    none_in u off (suc n) x k b =
        omega (
          arith,
          tree_sum depth (λ y. y ∷ []) gives falls counted_of x,
          none_kept u off (yields x) (λ z a. under x z b (nested.of_yields x z a)),
          sum_by-on (λ y. sum_by counted_of (all_from depth gives y)) (λ y. 0) (gives x) (λ y a. none_in u off n y (omega (arith, falls x y a, k)) (inr (under x y b (nested.of_gives x y a)))),
          sum_by-zero {X = C × C} (λ y. 0) (λ y. refl) (gives x),
        )
      where
        under : (x z : C × C) → (x ≡ u) ⊎ Below keys before u x → Below keys before x z → Below keys before u z
        under x z (inl e) k = subst (λ (t : C × C). Below keys before t z) e k
        under x z (inr e) k = below_twice keys before u x z e k

    -- a rank that isn't concerned with a pair counts nothing below it
    pub unconcerned : (u : C × C) → concerned keys r u ≡ false → sum_by counted_of (all_from depth gives u) ≡ 0
    unconcerned u off = none_in u off (suc (depth u)) u (omega arith) (inl refl)

    -- a rank's reached pairs yield, of what it counts, all
    pub rank_finds : (x : C × C) → sum_by counted_of (all_from depth (λ y. filter (concerned keys r) (gives y)) x) ≡ sum_by counted_of (all_from depth gives x)
    rank_finds x = pruned_sum depth gives falls (concerned keys r) counted_of (λ u off. none_in u off (suc (depth u)) u (omega arith) (inl refl)) x

  -- the ranks together count what is found, each once: any sum
  pub ranks_find : IsNested → 0 < length keys.bounds → (h : C × C → ℕ) (x : C × C) →
      sum_by (λ r. sum_by (λ y. sum_by h (filter (counts keys before r) (yields y))) (all_from depth (λ y. filter (concerned keys r) (gives y)) x)) (below (length keys.bounds))
      ≡ sum_by h (flat_map yields (all_from depth gives x))
  ranks_find nested some h x =
      sum_by-same (λ r. sum_by (λ y. sum_by h (filter (counts keys before r) (yields y))) (all_from depth (λ y. filter (concerned keys r) (gives y)) x)) (λ r. sum_by h (filter (counts keys before r) (flat_map yields (all_from depth gives x))))
      (λ r. rank_finds nested r h x ∙ pulled r (all_from depth gives x)) (below (length keys.bounds))
      ∙ filters_add_up (λ z. home keys (lesser before z)) (length keys.bounds) (λ z. rank_of_key-in keys.bounds (keys.last (lesser before z)) some) h (flat_map yields (all_from depth gives x))
    where
      pulled : (r : ℕ) (ys : List (C × C)) → sum_by (λ y. sum_by h (filter (counts keys before r) (yields y))) ys ≡ sum_by h (filter (counts keys before r) (flat_map yields ys))
      pulled r [] = refl
      pulled r (y ∷ ys) = omega (
        arith,
        sum_by-cons (λ y. sum_by h (filter (counts keys before r) (yields y))) y ys,
        pulled r ys,
        ap (sum_by h) (filter-append (counts keys before r) (yields y) (flat_map yields ys)),
        sum_by-append h (filter (counts keys before r) (yields y)) (filter (counts keys before r) (flat_map yields ys)),
      )
