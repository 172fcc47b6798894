-- A walk over its whole list.
use Rattle.std.proofs.Common.{◌≡◌, ℕ, zero, suc, ◌+◌, ◌^◌, ◌<◌, ◌≤◌, Bool, List, [], ◌∷◌, ◌++◌, length, refl, sym, subst, ◌∙◌, arith, ◌⊎◌, inl, inr}
use Rattle.std.specs.Fn.{Shared}
use Rattle.std.specs.List.{AllByRecursion}
use Rattle.fixed_point.specs.declared.V3.{V3}
use Rattle.fixed_point.specs.Vectors.{IsBelow}
use Rattle.octree_build.specs.Trees.{TreeData, IsTree}
use Rattle.pair_law.specs.Laws.{Two}
use Rattle.dual_walk.specs.declared.pairs.Pair.{Pair}
use Rattle.dual_walk.specs.Places.{value_at}
use Rattle.dual_walk.specs.Courses.{Course, Follows, HasForces, taken_by, asked_by}
use Rattle.dual_walk.specs.Steps.{pair, cells_at, asked_weight, IsListed, Takes, TakesNone, Looks, IsAt, work_left}
use Rattle.dual_walk.proofs.Bounds.{asked_small, count_small, place_small}
use Rattle.dual_walk.proofs.Bridge.{IsTurned, at_start, end_asked, end_count, end_forces}
use Rattle.dual_walk.proofs.Children.{level_small}
use Rattle.dual_walk.proofs.Stacks.{stacked_rest}
use Rattle.dual_walk.proofs.Walked.{at_step, popped, work_less}

pub some_nodes : (n m : ℕ) → n ≡ m → (n ≡ 0 → ⊥) → 0 < m
some_nodes zero m e h = absurd (h refl)
some_nodes (suc n) m e h = omega (arith, e)

pub follows_again : {A F : Type 0} (asks : Shared A Two Bool) (pulls : Shared F Two V3) (accept accept' : A) (force force' : F) (w : Course) → accept' ≡ accept → force' ≡ force → Follows asks pulls accept force w → Follows asks pulls accept' force' w
follows_again asks pulls accept accept' force force' w e u h = subst (λ z. Follows asks pulls z force' w) (sym e) (subst (λ z. Follows asks pulls accept z w) (sym u) h)

pub nothing_left : {X : Type 0} (xs : List X) → (0 < length xs → ⊥) → xs ≡ []
nothing_left [] h = refl
nothing_left (x ∷ xs) h = absurd (h (omega arith))

module _ (w : Course) (t : TreeData) (tree : IsTree w.setup w.bodies t) (turned : IsTurned w) (list rest : List Pair) (start places : List V3) (accepts asked count : ℕ) (x : Pair) (a : IsAt w t.nodes list start places accepts asked count) (e : list ≡ rest ++ x ∷ []) (long : length start ≡ length t.nodes) where
  here : IsAt w t.nodes (rest ++ x ∷ []) start places accepts asked count
  here = subst (λ zs. IsAt w t.nodes zs start places accepts asked count) e a

  pub is_listed : IsListed w t.nodes x
  is_listed = popped w t tree rest x here.listed

  pub rest_few : length rest + 64 ≤ 2112
  rest_few = omega (arith, stacked_rest t.nodes rest x here.stacked, level_small w t tree x.a is_listed.first, level_small w t tree x.b is_listed.second)

  pub places_long : length places ≡ length t.nodes
  places_long = a.forces.long ∙ long

  pub places_small : AllByRecursion (IsBelow (2 ^ 100)) start → (k : ℕ) → k < length places → IsBelow (2 ^ 112) (value_at places k)
  places_small s k h = place_small w t tree turned list start places accepts asked count a s k (omega (arith, h, a.forces.long))

  pub few_counted : count ≤ 2 ^ 46
  few_counted = count_small w t tree turned list start places accepts asked count a

  pub few_asked_yet : asked ≤ accepts + 2 ^ 46
  few_asked_yet = asked_small w t tree turned list start places accepts asked count a

  module _ (next : List Pair) (places' : List V3) (n : ℕ) (l : Looks w t.nodes x rest next places places' n) where
    pub one_at_most : n ≤ 1
    one_at_most = by l.taken
      where
        by : Takes w t.nodes x places places' n ⊎ TakesNone w t.nodes x places places' n → n ≤ 1
        by (inl k) = omega (arith, k.counted)
        by (inr k) = omega (arith, k.counted)

    pub less_left : work_left w t.nodes next < work_left w t.nodes list
    less_left = subst (λ zs. work_left w t.nodes zs < work_left w t.nodes list) (sym l.pushes.list) (subst (λ zs. work_left w t.nodes (rest ++ l.pushes.more) < work_left w t.nodes zs) (sym e) (work_less w t tree rest l.pushes.more x l.pushes.opens))

    pub at_next : (asked' : ℕ) → asked' ≡ asked + asked_weight w (cells_at t.nodes x) → IsAt w t.nodes next start places' accepts asked' (count + n)
    at_next asked' q = at_step w t tree rest next start places places' accepts asked asked' count n x long here l q

module _ (w : Course) (t : TreeData) (start places : List V3) (accepts asked count : ℕ) (list : List Pair) (e : list ≡ []) (a : IsAt w t.nodes list start places accepts asked count) where
  done : IsAt w t.nodes [] start places accepts asked count
  done = subst (λ zs. IsAt w t.nodes zs start places accepts asked count) e a

  pub done_count : count ≡ length (taken_by w)
  done_count = end_count w t start places accepts asked count done

  pub done_asked : asked ≡ accepts + length (asked_by w)
  done_asked = end_asked w t start places accepts asked count done

  pub done_forces : HasForces w t.nodes (taken_by w) start places
  done_forces = end_forces w t start places accepts asked count done

pub starts : (w : Course) (t : TreeData) → IsTree w.setup w.bodies t → IsTurned w → (list : List Pair) (start : List V3) (accepts : ℕ) → list ≡ pair 0 0 ∷ [] → 0 < length t.nodes → IsAt w t.nodes list start start accepts accepts 0
starts w t tree turned list start accepts e some = subst (λ zs. IsAt w t.nodes zs start start accepts accepts 0) (sym e) (at_start w t tree turned start accepts some)
