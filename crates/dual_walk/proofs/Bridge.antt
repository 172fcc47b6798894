-- A walk from the root down does what the interactions say.
use Rattle.std.proofs.Common.{◌≡◌, ℕ, suc, ◌+◌, ◌<◌, Bool, true, false, cond, ◌&&◌, not, List, [], ◌∷◌, ◌++◌, map, length, sum_by, refl, ap, sym, subst, ◌∙◌, arith, inl, inr}
use Rattle.std.specs.List.{filter, flat_map, AllByRecursion}
use Rattle.std.specs.Prelude.{slice_index_or}
use Rattle.fixed_point.specs.declared.V3.{V3}
use Rattle.fixed_point.specs.Vectors.{plus, sum_of}
use Rattle.cell_space.specs.Cells.{CellData, InBox, root_cell, contains, before}
use Rattle.cell_space.proofs.Cells.{root_contains}
use Rattle.nbody_model.specs.Bodies.{BodyData}
use Rattle.nbody_model.specs.Moments.{MomentsData}
use Rattle.nbody_model.specs.Nodes.{positions_of, is_node}
use Rattle.nbody_model.specs.Covers.{Opening, leaf, orient, same_pair, chain, cover, distinct, over_two, interactions, visited}
use Rattle.nbody_model.specs.Force.{force_on}
use Rattle.model_laws.specs.InOrder.{reached_in, found_in, visits_in, is_visit, is_find}
use Rattle.model_laws.specs.Laws.{IsSound, WalksAll}
use Rattle.model_laws.proofs.Among.{Witness, any-witness, any-among, each-among, each-map}
use Rattle.model_laws.proofs.Counts.{same_total}
use Rattle.model_laws.proofs.Fair.{moments_in}
use Rattle.model_laws.proofs.Partners.{ones}
use Rattle.model_laws.proofs.Reached.{order_free}
use Rattle.model_laws.proofs.Signed.{total_by, sum_of-totals}
use Rattle.model_laws.proofs.Sums.{sum_by-one, sum_by-same}
use Rattle.model_laws.proofs.Turned.{same_pair-exact}
use Rattle.model_laws.proofs.Walk.{filter_sum}
use Rattle.octree_build.specs.Trees.{TreeData, IsTree, opened, cells_of}
use Rattle.octree_build.proofs.Kids.{opened_order}
use Rattle.dual_walk.specs.Places.{value_at}
use Rattle.dual_walk.specs.Courses.{Course, opening_by, force_by, taken_by, asked_by, is_asked, cell_in, HasForces}
use Rattle.dual_walk.specs.Steps.{pair, cells_at, depth_of, reached_below, below_sum, taken_weight, asked_weight, IsAt}
use Rattle.dual_walk.proofs.Children.{as_many, node_is}
use Rattle.dual_walk.proofs.Reached.{one}
use Rattle.dual_walk.proofs.Walked.{plus_nothing}

-- the law's answers don't hang on the order of two nodes
abbrev pub IsTurned : Course → Type 0
IsTurned w = (a b : MomentsData) → InBox a.centre → InBox b.centre → w.law.accept a b ≡ w.law.accept b a

module _ (w : Course) (t : TreeData) (tree : IsTree w.setup w.bodies t) where
  abbrev o : Opening
  o = opening_by w

  abbrev order : CellData → List CellData
  order = opened (positions_of w.bodies)

  pub sound : IsTurned w → IsSound o
  sound h = record {
    fair = λ a b. h _ _ (moments_in w.setup w.bodies a tree.over.bodies.in_box) (moments_in w.setup w.bodies b tree.over.bodies.in_box);
    in_box = each-map (λ b. InBox b.motion.pos) InBox (λ b. b.motion.pos) (λ b k. k) w.bodies tree.over.bodies.in_box;
  }

  all : IsTurned w → WalksAll o order
  all h = order_free o (sound h) order (record { permuted = λ c e. opened_order o c e })

  abbrev whole : List (CellData × CellData)
  whole = reached_in o order 32 (root_cell, root_cell)

  both : (a b : Bool) (n : ℕ) → cond (a && b) n 0 ≡ cond a (cond b n 0) 0
  both true b n = refl
  both false b n = refl

  -- what is taken below the root
  pub root_taken : IsTurned w → (weight : CellData × CellData → ℕ) → sum_by (taken_weight w weight) whole ≡ sum_by weight (taken_by w)
  unfolding taken_by found_in
  root_taken h weight =
      sum_by-same (taken_weight w weight) (λ x. cond (is_find o x) (cond (w.mine (orient x).0) (weight (orient x)) 0) 0) (λ x. both (is_find o x) (w.mine (orient x).0) (weight (orient x))) whole
      ∙ sym (filter_sum (is_find o) (λ x. cond (w.mine (orient x).0) (weight (orient x)) 0) whole)
      ∙ (all h).finds.counted (λ y. cond (w.mine y.0) (weight y) 0)
      ∙ sym (filter_sum (λ y. w.mine y.0) weight (interactions o))

  asked_turned : (x : CellData × CellData) → is_asked w (orient x) ≡ is_asked w x
  asked_turned x = by (before x.1 x.0)
    where
      and_turned : (a b : Bool) → (a && b) ≡ (b && a)
      and_turned true true = refl
      and_turned true false = refl
      and_turned false true = refl
      and_turned false false = refl

      by : (b : Bool) → is_asked w (cond b (x.1, x.0) x) ≡ is_asked w x
      by true = ap not (and_turned (leaf o x.1) (leaf o x.0))
      by false = refl

  -- what is asked below the root
  pub root_asked : IsTurned w → sum_by (asked_weight w) whole ≡ length (asked_by w)
  unfolding asked_by visits_in
  root_asked h =
      sum_by-same (asked_weight w) (λ x. cond (is_visit x) (cond (is_asked w (orient x)) 1 0) 0) (λ x. both (is_visit x) (is_asked w x) 1 ∙ ap (λ b. cond (is_visit x) (cond b 1 0) 0) (sym (asked_turned x))) whole
      ∙ sym (filter_sum is_visit (λ x. cond (is_asked w (orient x)) 1 0) whole)
      ∙ (all h).looks_at.counted (λ y. cond (is_asked w y) 1 0)
      ∙ sym (filter_sum (is_asked w) (λ y. 1) (visited o))
      ∙ ones (filter (is_asked w) (visited o))

  -- the first node is the root
  pub root_first : 0 < length t.nodes → cell_in t.nodes 0 ≡ root_cell
  unfolding is_node
  root_first h =
      let s : Witness (contains (cell_in t.nodes 0)) (positions_of w.bodies) = any-witness (contains (cell_in t.nodes 0)) (positions_of w.bodies) (node_is w t tree 0 h).node in
      let boxed : AllByRecursion InBox (positions_of w.bodies) = each-map (λ b. InBox b.motion.pos) InBox (λ b. b.motion.pos) (λ b k. k) w.bodies tree.over.bodies.in_box in
      let n : is_node (positions_of w.bodies) root_cell ≡ true = any-among (contains root_cell) s.it (positions_of w.bodies) s.«in» (root_contains s.it (each-among InBox s.it (positions_of w.bodies) boxed s.«in»)) in
      ap (λ xs. slice_index_or xs 0 root_cell) (tree.nodes.grown.grown ∙ ap (λ b. cond b (root_cell ∷ []) [] ++ flat_map order (cells_of t.nodes)) n)

  -- where there are no nodes there are no bodies, and so no pairs
  no_bodies : (B : List BodyData) → w.bodies ≡ B → length t.nodes ≡ 0 → positions_of w.bodies ≡ []
  unfolding is_node
  no_bodies [] e h = ap positions_of e
  no_bodies (b ∷ B) e h = absurd (
      let boxed : AllByRecursion (λ b. InBox b.motion.pos) (b ∷ B) = subst (λ (xs : List BodyData). AllByRecursion (λ b. InBox b.motion.pos) xs) e tree.over.bodies.in_box in
      let n : is_node (positions_of w.bodies) root_cell ≡ true = ap (λ xs. is_node (positions_of xs) root_cell) e ∙ any-among (contains root_cell) b.motion.pos (positions_of (b ∷ B)) (inl refl) (root_contains b.motion.pos boxed.0) in
      let l : length (cells_of t.nodes) ≡ suc (length (flat_map order (cells_of t.nodes))) = ap length (tree.nodes.grown.grown ∙ ap (λ b. cond b (root_cell ∷ []) [] ++ flat_map order (cells_of t.nodes)) n) in
      omega (arith, h, l, as_many w t tree))

  pub none_taken : length t.nodes ≡ 0 → taken_by w ≡ []
  unfolding taken_by interactions
  none_taken h = ap (λ ps. filter (λ x. w.mine x.0) (distinct same_pair (over_two (λ p q. orient (cover o p q) ∷ []) ps))) (no_bodies w.bodies refl h)

  pub none_asked : length t.nodes ≡ 0 → asked_by w ≡ []
  unfolding asked_by visited
  none_asked h = ap (λ ps. filter (is_asked w) (distinct same_pair (over_two (λ p q. map orient (chain o p q)) ps))) (no_bodies w.bodies refl h)

  root_below : (weight : CellData × CellData → ℕ) → 0 < length t.nodes → below_sum w weight (map (cells_at t.nodes) (pair 0 0 ∷ [])) ≡ sum_by weight whole
  unfolding below_sum reached_below
  root_below weight h =
      let e : cells_at t.nodes (pair 0 0) ≡ (root_cell, root_cell) = λ i. (root_first h i, root_first h i) in
      sum_by-one (one w weight) (cells_at t.nodes (pair 0 0)) ∙ ap (one w weight) e

  nothing_taken : (start : List V3) → HasForces w t.nodes [] start start
  nothing_taken start = record { long = refl; each = λ k l. sym (plus_nothing (value_at start k)) }

  pub at_start : IsTurned w → (start : List V3) (accepts : ℕ) → 0 < length t.nodes → IsAt w t.nodes (pair 0 0 ∷ []) start start accepts accepts 0
  at_start h start accepts some =
      let e : (cell_in t.nodes 0).level ≡ depth_of (cells_at t.nodes (pair 0 0)) = omega arith in
      record {
        listed = (record { first = some; second = some; apart = inl refl; left = inr e; right = inr e }, tt);
        stacked = (omega arith, tt);
        taken = [];
        worked = λ weight. omega (arith, root_below (taken_weight w weight) some, root_taken h weight);
        looked = omega (arith, root_below (asked_weight w) some, root_asked h);
        counted = refl;
        kept = refl;
        forces = nothing_taken start;
        small = tt;
      }

-- lists over which each weight has one sum have one sum of forces
sums_agree : (xs ys : List (CellData × CellData)) → ((weight : CellData × CellData → ℕ) → sum_by weight xs ≡ sum_by weight ys) → (f : CellData × CellData → V3) → sum_of f xs ≡ sum_of f ys
sums_agree xs ys h f =
    let same : (g : CellData × CellData → _) → total_by g xs ≡ total_by g ys = λ g. same_total same_pair same_pair-exact g xs ys (λ z. h (λ x. cond (same_pair x z) 1 0)) in
    let a : total_by (λ x. (f x).x) xs ≡ total_by (λ x. (f x).x) ys = same (λ x. (f x).x) in
    let b : total_by (λ x. (f x).y) xs ≡ total_by (λ x. (f x).y) ys = same (λ x. (f x).y) in
    let c : total_by (λ x. (f x).z) xs ≡ total_by (λ x. (f x).z) ys = same (λ x. (f x).z) in
    sum_of-totals f xs ∙ (λ i. record { x = a i; y = b i; z = c i }) ∙ sym (sum_of-totals f ys)

module _ (w : Course) (t : TreeData) (start places : List V3) (accepts asked count : ℕ) (a : IsAt w t.nodes [] start places accepts asked count) where
  nothing_left : (weight : CellData × CellData → ℕ) → below_sum w weight [] ≡ 0
  unfolding below_sum
  nothing_left weight = refl

  alike : (weight : CellData × CellData → ℕ) → sum_by weight a.taken ≡ sum_by weight (taken_by w)
  alike weight = omega (arith, a.worked weight, nothing_left (taken_weight w weight))

  pub end_count : count ≡ length (taken_by w)
  end_count = a.counted ∙ sym (ones a.taken) ∙ alike (λ x. 1) ∙ ones (taken_by w)

  pub end_asked : asked ≡ accepts + length (asked_by w)
  end_asked = omega (arith, a.looked, nothing_left (asked_weight w))

  pub end_forces : HasForces w t.nodes (taken_by w) start places
  end_forces = record { long = a.forces.long; each = λ k l. a.forces.each k l ∙ ap (plus (value_at start k)) (sums_agree a.taken (taken_by w) alike (force_on (force_by w) (cell_in t.nodes k))) }
