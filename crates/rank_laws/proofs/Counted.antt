-- The ranks together count the interactions, each once.
use Rattle.std.proofs.Common.{◌≡◌, ℕ, zero, suc, ◌+◌, ◌<◌, ◌≤◌, Bool, true, false, cond, ◌&&◌, ◌||◌, List, [], ◌∷◌, length, sum_by, refl, ap, sym, ◌∙◌, arith, ◌⊎◌, inl, inr, ℤ, subst}
use Rattle.std.specs.List.{filter, flat_map, range_with_len}
use Rattle.std.proofs.lemmas.List.Sums.{sum_by-cons}
use Rattle.std.proofs.lemmas.List.Sorted.{IsPermutation-refl}
use Rattle.fixed_point.specs.declared.V3.{V3}
use Rattle.fixed_point.specs.Vectors.{sum_of}
use Rattle.cell_space.specs.Cells.{CellData, InBox, same_cell, child, contains, before, below}
use Rattle.nbody_model.specs.Covers.{Opening, leaf, orient, same_pair, interactions}
use Rattle.nbody_model.specs.Nodes.{is_node}
use Rattle.nbody_model.specs.Walks.{kids, gives, reached_from}
use Rattle.model_laws.specs.InOrder.{gives_in, reached_in, found_in, is_find}
use Rattle.model_laws.specs.Laws.{IsSound, WalksAll}
use Rattle.model_laws.proofs.Among.{Among, Witness, any-witness, each-among}
use Rattle.model_laws.proofs.Leaves.{shallow, deep_leaf}
use Rattle.model_laws.proofs.Sums.{sum_by-same, sum_by-flat_map, sum_by-mapped}
use Rattle.model_laws.proofs.Signed.{total_by, sum_of-totals}
use Rattle.model_laws.proofs.Counts.{same_total}
use Rattle.model_laws.proofs.Turned.{same_pair-exact}
use Rattle.model_laws.proofs.Walk.{filter_sum}
use Rattle.model_laws.proofs.Reached.{order_free, gives_same}
use Rattle.model_laws.proofs.Fair.{opening_sound}
use Rattle.model_laws.proofs.Partners.{ones}
use Rattle.rank_laws.specs.Homes.{Keys, concerned, counts}
use Rattle.rank_laws.specs.Trees.{all_from}
use Rattle.rank_laws.specs.Machine.{Pair}
use Rattle.rank_laws.specs.Whole.{ranks, Whole, AreKeys, IsWhole, opening, depth_of, next_of, root_pair, start_of, ranks_of, is_counted, counted_in, counted}
use Rattle.rank_laws.specs.Forces.{AddUpAlike}
use Rattle.rank_laws.proofs.Homes.{Within, Below}
use Rattle.rank_laws.proofs.Trees.{flat_map-same, tree_step}
use Rattle.rank_laws.proofs.CountedOnce.{IsNested, rank_finds, unconcerned, ranks_find}
use Rattle.rank_laws.proofs.Fairness.{IsKid, Lower, Stays, Falls, IsGiven, Parted, Lowered, given, gives_fall}

-- ---- keys nest along what a pair gives

module _ (o : Opening) (s : IsSound o) (keys : Keys CellData) (k : AreKeys keys) where
  kid_within : (c d : CellData) → c.level < 32 → IsKid o c d → Within keys before c d
  unfolding is_node
  kid_within c d low h =
      let e : d ≡ child c h.digit = h.it in
      let p : Witness (contains d) o.positions = any-witness (contains d) o.positions h.member in
      let box : InBox p.it = each-among InBox p.it o.positions s.in_box p.«in» in
      let inside : contains (child c h.digit) p.it ≡ true = ap (λ t. contains t p.it) (sym e) ∙ p.passes in
      subst (Within keys before c) (sym e) (record { low = k.low c h.digit p.it low h.small box inside; some = k.ranged (child c h.digit); high = k.high c h.digit p.it low h.small box inside })

  itself : (c : CellData) → Within keys before c c
  itself c = record { low = omega arith; some = k.ranged c; high = omega arith }

  lower_within : (c d : CellData) → Lower o c d → Within keys before c d
  lower_within c d (Stays e h) = subst (Within keys before c) (sym h) (itself c)
  lower_within c d (Falls e h) = kid_within c d (shallow o c e) h

  given_below : (x y : Pair) → IsGiven o x y → Below keys before x y
  given_below x y (Parted e l a b) = record { left = inl (kid_within x.0 y.0 (shallow o x.0 l) a); right = inl (kid_within x.0 y.1 (shallow o x.0 l) b) }
  given_below x y (Lowered n a b) = record { left = inl (lower_within x.0 y.0 a); right = inr (lower_within x.1 y.1 b) }

abbrev pub yields : Opening → Pair → List Pair
yields o x = cond (is_find o x) (x ∷ []) []

yields_one : (o : Opening) (x y : Pair) (b : Bool) → Among y (cond b (x ∷ []) []) → y ≡ x
yields_one o x y true (inl e) = e
yields_one o x y true (inr h) = absurd h
yields_one o x y false h = absurd h

pub nested_in : (o : Opening) → IsSound o → (keys : Keys CellData) → AreKeys keys → IsNested keys before depth_of (gives o) (gives_fall o) (yields o)
nested_in o s keys k = record {
  of_gives = λ x y h. given_below o s keys k x y (each-among (IsGiven o x) y (gives o x) (given o x) h);
  of_yields = λ x y h. subst (Below keys before x) (sym (yields_one o x y (is_find o x) h)) (record { left = inl (itself o s keys k x.0); right = inr (itself o s keys k x.1) });
}

-- ---- all that is reached is reached in 32 steps

-- a cell is a leaf, or n steps lead to the lowest level
abbrev IsLow : Opening → ℕ → CellData → Type 0
IsLow o n c = (leaf o c ≡ true) ⊎ (32 ≤ c.level + n)

low_leaf : (o : Opening) (c : CellData) → IsLow o 0 c → leaf o c ≡ true
low_leaf o c (inl e) = e
low_leaf o c (inr h) = deep_leaf o c (omega (arith, h))

low_kid : (o : Opening) (n : ℕ) (c d : CellData) → IsLow o (suc n) c → leaf o c ≡ false → IsKid o c d → IsLow o n d
low_kid o n c d (inl e) f h = inl (absurd (false_true (sym f ∙ e)))
  where
    false_true : false ≡ true → ⊥
    false_true e = cc
low_kid o n c d (inr l) f h = let u : d.level ≡ c.level + 1 = ap (λ t. t.level) h.it in inr (omega (arith, l, u))

low_lower : (o : Opening) (n : ℕ) (c d : CellData) → IsLow o (suc n) c → Lower o c d → IsLow o n d
low_lower o n c d l (Stays e h) = inl (ap (leaf o) h ∙ e)
low_lower o n c d l (Falls e h) = low_kid o n c d l e h

low_given : (o : Opening) (n : ℕ) (x y : Pair) → IsLow o (suc n) x.0 → IsLow o (suc n) x.1 → IsGiven o x y → IsLow o n y.0 × IsLow o n y.1
low_given o n x y l m (Parted e f a b) = (low_kid o n x.0 y.0 l f a, low_kid o n x.0 y.1 l f b)
low_given o n x y l m (Lowered f a b) = (low_lower o n x.0 y.0 l a, low_lower o n x.1 y.1 m b)

gives_none : (o : Opening) (x : Pair) → leaf o x.0 ≡ true → leaf o x.1 ≡ true → gives o x ≡ []
unfolding gives
gives_none o x e h = by (same_cell x.0 x.1) (leaf o x.0) (leaf o x.1) e h _ _
  where
    by : (s l m : Bool) → l ≡ true → m ≡ true → (u v : List Pair) → cond s (cond l [] u) (cond (l && m || o.accept x.0 x.1) [] v) ≡ []
    by true true m e h u v = refl
    by true false m e h u v = cc
    by false true true e h u v = refl
    by false true false e h u v = cc
    by false false m e h u v = cc

pub reached_all : (o : Opening) (n : ℕ) (x : Pair) → IsLow o n x.0 → IsLow o n x.1 → reached_from o n x ≡ all_from depth_of (gives o) x
unfolding reached_from
reached_all o zero x l m =
    ap (λ t. x ∷ flat_map (all_from depth_of (gives o)) t) (sym (gives_none o x (low_leaf o x.0 l) (low_leaf o x.1 m)))
    ∙ sym (tree_step depth_of (λ y. y ∷ []) (gives o) (gives_fall o) x)
reached_all o (suc n) x l m =
    ap (λ t. x ∷ t) (flat_map-same (reached_from o n) (all_from depth_of (gives o)) (gives o x) (λ y h.
    let g : IsLow o n y.0 × IsLow o n y.1 = low_given o n x y l m (each-among (IsGiven o x) y (gives o x) (given o x) h) in
    reached_all o n y g.0 g.1))
    ∙ sym (tree_step depth_of (λ y. y ∷ []) (gives o) (gives_fall o) x)

in_kids : (o : Opening) (n : ℕ) (x : Pair) → reached_from o n x ≡ reached_in o (kids o) n x
unfolding reached_from reached_in
in_kids o zero x = refl
in_kids o (suc n) x =
    ap (λ t. x ∷ flat_map (reached_from o n) t) (gives_same o x)
    ∙ ap (λ t. x ∷ t) (flat_map-same (reached_from o n) (reached_in o (kids o) n) (gives_in o (kids o) x) (λ y h. in_kids o n y))

-- the final pairs of different cells among all that is reached are the interactions
pub finds : (o : Opening) → IsSound o → (weight : Pair → ℕ) → sum_by (λ x. weight (orient x)) (filter (is_find o) (all_from depth_of (gives o) root_pair)) ≡ sum_by weight (interactions o)
unfolding found_in
finds o s weight =
    let all : WalksAll o (kids o) = order_free o s (kids o) (record { permuted = λ c e. IsPermutation-refl (kids o c) }) in
    ap (λ t. sum_by (λ x. weight (orient x)) (filter (is_find o) t)) (sym (reached_all o 32 root_pair (inr (omega arith)) (inr (omega arith))) ∙ in_kids o 32 root_pair)
    ∙ all.finds.counted weight

-- ---- over the ranks

sum_range_last : (f : ℕ → ℕ) (a n : ℕ) → sum_by f (range_with_len a (suc n)) ≡ f (a + n) + sum_by f (range_with_len a n)
sum_range_last f a zero = let e : a + 0 ≡ a = omega arith in omega (arith, sum_by-cons f a [], ap f e)
sum_range_last f a (suc n) = let e : a + suc n ≡ a + 1 + n = omega arith in omega (arith, sum_by-cons f a (range_with_len (a + 1) (suc n)), sum_by-cons f a (range_with_len (a + 1) n), sum_range_last f (a + 1) n, ap f e)

pub sum_range : (f : ℕ → ℕ) (n : ℕ) → sum_by f (range_with_len 0 n) ≡ sum_by f (below n)
sum_range f zero = refl
sum_range f (suc n) = let e : 0 + n ≡ n = omega arith in omega (arith, sum_range_last f 0 n, sum_range f n, sum_by-cons f n (below n), ap f e)

-- what a rank counts of one pair
one_counted : (w : Whole) (r : ℕ) (h : Pair → ℕ) (x : Pair) → sum_by h (filter (counts w.keys before r) (yields (opening w) x)) ≡ cond (is_counted w r x) (h x) 0
one_counted w r h x = by (is_find (opening w) x) (counts w.keys before r x) refl
  where
    by : (a b : Bool) → counts w.keys before r x ≡ b → sum_by h (filter (counts w.keys before r) (cond a (x ∷ []) [])) ≡ cond (a && b) (h x) 0
    by true true e = ap (λ t. sum_by h (cond t (x ∷ []) [])) e ∙ sum_by-cons h x [] ∙ (omega arith)
    by true false e = ap (λ t. sum_by h (cond t (x ∷ []) [])) e
    by false b e = refl

counted_sum : (w : Whole) (r : ℕ) (h : Pair → ℕ) (xs : List Pair) → sum_by h (counted_in w r xs) ≡ sum_by (λ y. sum_by (λ x. h (orient x)) (filter (counts w.keys before r) (yields (opening w) y))) xs
counted_sum w r h xs =
    sum_by-mapped h orient (filter (is_counted w r) xs)
    ∙ filter_sum (is_counted w r) (λ x. h (orient x)) xs
    ∙ sum_by-same (λ x. cond (is_counted w r x) (h (orient x)) 0) (λ y. sum_by (λ x. h (orient x)) (filter (counts w.keys before r) (yields (opening w) y))) (λ y. sym (one_counted w r (λ x. h (orient x)) y)) xs

module _ (w : Whole) (whole : IsWhole w) where
  pub sound : IsSound (opening w)
  sound = opening_sound w.gravity.setup w.bodies whole.bodies.in_box

  nested : IsNested w.keys before depth_of (gives (opening w)) (gives_fall (opening w)) (yields (opening w))
  nested = nested_in (opening w) sound w.keys whole.keys

  one_rank : (r : ℕ) (h : Pair → ℕ) → sum_by h (counted w r) ≡ sum_by (λ y. sum_by (λ x. h (orient x)) (filter (counts w.keys before r) (yields (opening w) y))) (all_from depth_of (next_of w r) root_pair)
  unfolding counted
  one_rank r h =
      counted_sum w r h (flat_map (all_from depth_of (next_of w r)) (start_of w r))
      ∙ by (concerned w.keys r root_pair) refl
    where
      g : Pair → ℕ
      g y = sum_by (λ x. h (orient x)) (filter (counts w.keys before r) (yields (opening w) y))

      by : (b : Bool) → concerned w.keys r root_pair ≡ b → sum_by g (flat_map (all_from depth_of (next_of w r)) (cond b (root_pair ∷ []) [])) ≡ sum_by g (all_from depth_of (next_of w r) root_pair)
      by true e = sum_by-flat_map g (all_from depth_of (next_of w r)) (root_pair ∷ []) ∙ sum_by-cons (λ x. sum_by g (all_from depth_of (next_of w r) x)) root_pair [] ∙ (omega arith)
      by false e = sym (rank_finds w.keys before depth_of (gives (opening w)) (gives_fall (opening w)) (yields (opening w)) nested r (λ x. h (orient x)) root_pair
          ∙ unconcerned w.keys before depth_of (gives (opening w)) (gives_fall (opening w)) (yields (opening w)) nested r (λ x. h (orient x)) root_pair e)

  yield_all : (o : Opening) (h : Pair → ℕ) (xs : List Pair) → sum_by h (flat_map (yields o) xs) ≡ sum_by h (filter (is_find o) xs)
  yield_all o h xs =
      sum_by-flat_map h (yields o) xs
      ∙ sum_by-same (λ x. sum_by h (yields o x)) (λ x. cond (is_find o x) (h x) 0) (λ x. one x (is_find o x)) xs
      ∙ sym (filter_sum (is_find o) h xs)
    where
      one : (x : Pair) (b : Bool) → sum_by h (cond b (x ∷ []) []) ≡ cond b (h x) 0
      one x true = sum_by-cons h x [] ∙ (omega arith)
      one x false = refl

  -- over the ranks: any sum
  pub all_counted : (h : Pair → ℕ) → sum_by (λ r. sum_by h (counted w r)) (ranks w) ≡ sum_by h (interactions (opening w))
  all_counted h =
      sum_range (λ r. sum_by h (counted w r)) (ranks_of w)
      ∙ sum_by-same (λ r. sum_by h (counted w r)) (λ r. sum_by (λ y. sum_by (λ x. h (orient x)) (filter (counts w.keys before r) (yields (opening w) y))) (all_from depth_of (next_of w r) root_pair)) (λ r. one_rank r h) (below (ranks_of w))
      ∙ ranks_find w.keys before depth_of (gives (opening w)) (gives_fall (opening w)) (yields (opening w)) nested whole.keys.some (λ x. h (orient x)) root_pair
      ∙ yield_all (opening w) (λ x. h (orient x)) (all_from depth_of (gives (opening w)) root_pair)
      ∙ finds (opening w) sound h

  pub together : (h : Pair → ℕ) → sum_by h (flat_map (counted w) (ranks w)) ≡ sum_by h (interactions (opening w))
  together h = sum_by-flat_map h (counted w) (ranks w) ∙ all_counted h

  pub totals_together : (f : Pair → ℤ) → total_by f (flat_map (counted w) (ranks w)) ≡ total_by f (interactions (opening w))
  totals_together f = same_total same_pair same_pair-exact f (flat_map (counted w) (ranks w)) (interactions (opening w)) (λ z. together (λ x. cond (same_pair x z) 1 0))

  vectors_together : (f : Pair → V3) → sum_of f (flat_map (counted w) (ranks w)) ≡ sum_of f (interactions (opening w))
  vectors_together f =
      let a : total_by (λ x. (f x).x) (flat_map (counted w) (ranks w)) ≡ total_by (λ x. (f x).x) (interactions (opening w)) = totals_together (λ x. (f x).x) in
      let b : total_by (λ x. (f x).y) (flat_map (counted w) (ranks w)) ≡ total_by (λ x. (f x).y) (interactions (opening w)) = totals_together (λ x. (f x).y) in
      let c : total_by (λ x. (f x).z) (flat_map (counted w) (ranks w)) ≡ total_by (λ x. (f x).z) (interactions (opening w)) = totals_together (λ x. (f x).z) in
      sum_of-totals f (flat_map (counted w) (ranks w)) ∙ (λ i. record { x = a i; y = b i; z = c i }) ∙ sym (sum_of-totals f (interactions (opening w)))

pub ranks_count : (w : Whole) → IsWhole w → AddUpAlike (flat_map (counted w) (ranks w)) (interactions (opening w))
ranks_count w h = record { counted = together w h; added = vectors_together w h }

pub as_many : (w : Whole) → IsWhole w → sum_by (λ r. length (counted w r)) (ranks w) ≡ length (interactions (opening w))
as_many w h = sum_by-same (λ r. length (counted w r)) (λ r. sum_by (λ x. 1) (counted w r)) (λ r. sym (ones (counted w r))) (ranks w) ∙ all_counted w h (λ x. 1) ∙ ones (interactions (opening w))
