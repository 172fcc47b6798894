-- What a pair of places puts on the list, by the cells there.
use Rattle.std.proofs.Common.{◌≡◌, ℕ, zero, suc, ◌+◌, ◌*◌, ◌<◌, ◌≤◌, Bool, true, false, cond, ◌&&◌, ◌||◌, List, [], ◌∷◌, ◌++◌, map, length, refl, ap, sym, subst, ◌∙◌, arith, ◌⊎◌, inl, inr, length-append}
use Rattle.std.specs.List.{flat_map, AllByRecursion}
use Rattle.std.proofs.lemmas.Bool.{cond-false, false≢true}
use Rattle.std.proofs.lemmas.Nat.{mul-le}
use Rattle.std.proofs.lemmas.List.{length-map, map-append}
use Rattle.cell_space.specs.Cells.{CellData, contains, same_cell, AreDisjoint}
use Rattle.cell_space.proofs.Cells.{same_cell-exact}
use Rattle.nbody_model.specs.Nodes.{positions_of, is_node}
use Rattle.nbody_model.specs.Covers.{Opening, leaf, final}
use Rattle.nbody_model.specs.Walks.{over_both, over_pairs}
use Rattle.model_laws.specs.InOrder.{down_in, gives_in}
use Rattle.model_laws.proofs.Among.{Witness, any-witness, each-append, each-flat_map, each-map}
use Rattle.model_laws.proofs.Leaves.{shallow}
use Rattle.octree_build.specs.Trees.{NodeData, TreeData, IsTree, opened}
use Rattle.dual_walk.specs.declared.pairs.Pair.{Pair}
use Rattle.dual_walk.specs.Courses.{Course, opening_by, cell_in}
use Rattle.dual_walk.specs.Steps.{pair, cells_at, range, cross, self_pairs, depth_of, IsBelow, IsDown, IsListed, Opens}
use Rattle.dual_walk.proofs.Children.{each-range, node_is}
use Rattle.dual_walk.proofs.Reached.{given}
use Rattle.dual_walk.proofs.Rows.{length-range}

-- ---- the cells of pairs of places

row_cells : (nodes : List NodeData) (d : ℕ) (es : List ℕ) → map (cells_at nodes) (map (pair d) es) ≡ flat_map (λ e. (cell_in nodes d, e) ∷ []) (map (cell_in nodes) es)
row_cells nodes d [] = refl
row_cells nodes d (e ∷ es) = ap (λ t. (cell_in nodes d, cell_in nodes e) ∷ t) (row_cells nodes d es)

pub cross_cells : (nodes : List NodeData) (ds es : List ℕ) → map (cells_at nodes) (cross ds es) ≡ over_both (λ d e. (d, e) ∷ []) (map (cell_in nodes) ds) (map (cell_in nodes) es)
cross_cells nodes [] es = refl
cross_cells nodes (d ∷ ds) es = map-append (cells_at nodes) (map (pair d) es) (cross ds es) ∙ (λ i. row_cells nodes d es i ++ cross_cells nodes ds es i)

pub self_cells : (nodes : List NodeData) (ds : List ℕ) → map (cells_at nodes) (self_pairs ds) ≡ over_pairs (λ d. (d, d) ∷ []) (λ d e. (d, e) ∷ []) (map (cell_in nodes) ds)
self_cells nodes [] = refl
self_cells nodes (d ∷ ds) = map-append (cells_at nodes) (map (pair d) (d ∷ ds)) (self_pairs ds) ∙ (λ i. (cell_in nodes d, cell_in nodes d) ∷ (row_cells nodes d ds i ++ self_cells nodes ds i))

-- ---- how many they are

length-cross : (ds es : List ℕ) → length (cross ds es) ≡ length ds * length es
length-cross [] es = omega arith
length-cross (d ∷ ds) es = length-append (map (pair d) es) (cross ds es) ∙ omega (arith, length-map es (pair d), length-cross ds es)

pub cross_few : (f n g m : ℕ) → n ≤ 8 → m ≤ 8 → length (cross (range f n) (range g m)) ≤ 64
cross_few f n g m h k = let e : length (cross (range f n) (range g m)) ≡ n * m = length-cross (range f n) (range g m) ∙ (λ i. length-range f n i * length-range g m i) in omega (arith, e, mul-le n m 8 8 h k)

self_at_most : (f n : ℕ) → n ≤ 8 → length (self_pairs (range f n)) ≤ 8 * n
self_at_most f zero h = omega arith
self_at_most f (suc n) h = omega (arith, h, length-append (map (pair f) (f ∷ range (suc f) n)) (self_pairs (range (suc f) n)), length-map (f ∷ range (suc f) n) (pair f), length-range (suc f) n, self_at_most (suc f) n (omega (arith, h)))

pub self_few : (f n : ℕ) → n ≤ 8 → length (self_pairs (range f n)) ≤ 64
self_few f n h = omega (arith, h, self_at_most f n h)

-- ---- what gives what

module _ (w : Course) where
  abbrev o : Opening
  o = opening_by w

  abbrev order : CellData → List CellData
  order = opened (positions_of w.bodies)

  abbrev later : CellData × CellData → List (CellData × CellData)
  later x = over_both (λ d e. (d, e) ∷ []) (down_in o order x.0) (down_in o order x.1)

  abbrev parts : CellData × CellData → List (CellData × CellData)
  parts x = over_pairs (λ d. (d, d) ∷ []) (λ d e. (d, e) ∷ []) (order x.0)

  abbrev cases : CellData × CellData → Bool → Bool → Bool → List (CellData × CellData)
  cases x s l f = cond s (cond l [] (parts x)) (cond f [] (later x))

  given_cases : (x : CellData × CellData) (s l f : Bool) → same_cell x.0 x.1 ≡ s → leaf o x.0 ≡ l → final o x.0 x.1 ≡ f → given w x ≡ cases x s l f
  unfolding gives_in
  given_cases x s l f e u v = λ i. cases x (e i) (u i) (v i)

  pub given_leaf : (x : CellData × CellData) → x.0 ≡ x.1 → leaf o x.0 ≡ true → given w x ≡ []
  given_leaf x e u = given_cases x true true (final o x.0 x.1) ((same_cell-exact x.0 x.1).1 e) u refl

  pub given_same : (x : CellData × CellData) → x.0 ≡ x.1 → leaf o x.0 ≡ false → given w x ≡ parts x
  given_same x e u = given_cases x true false (final o x.0 x.1) ((same_cell-exact x.0 x.1).1 e) u refl

  pub given_final : (x : CellData × CellData) → same_cell x.0 x.1 ≡ false → final o x.0 x.1 ≡ true → given w x ≡ []
  given_final x e u = given_cases x false (leaf o x.0) true e refl u

  pub given_apart : (x : CellData × CellData) → same_cell x.0 x.1 ≡ false → final o x.0 x.1 ≡ false → given w x ≡ later x
  given_apart x e u = given_cases x false (leaf o x.0) false e refl u

-- ---- what is put on the list

module _ (w : Course) (t : TreeData) (tree : IsTree w.setup w.bodies t) where
  abbrev at : ℕ → CellData
  at k = cell_in t.nodes k

  abbrev is_leaf_at : ℕ → Bool
  is_leaf_at k = leaf (opening_by w) (at k)

  -- nodes that are apart differ
  pub differ : (x : Pair) → IsListed w t.nodes x → (x.a ≡ x.b → ⊥) → same_cell (at x.a) (at x.b) ≡ false
  unfolding is_node
  differ x h n = by (same_cell (at x.a) (at x.b)) refl h.apart
    where
      by : (b : Bool) → same_cell (at x.a) (at x.b) ≡ b → (x.a ≡ x.b) ⊎ AreDisjoint (at x.a) (at x.b) → b ≡ false
      by b e (inl q) = absurd (n q)
      by false e (inr d) = refl
      by true e (inr d) = absurd (
          let s : Witness (contains (at x.a)) (positions_of w.bodies) = any-witness (contains (at x.a)) (positions_of w.bodies) (node_is w t tree x.a h.first).node in
          let q : at x.a ≡ at x.b = (same_cell-exact (at x.a) (at x.b)).0 e in
          d.apart s.it s.passes (ap (λ c. contains c s.it) (sym q) ∙ s.passes))

  pub apart_from : (x : Pair) → IsListed w t.nodes x → (x.a ≡ x.b → ⊥) → AreDisjoint (at x.a) (at x.b)
  apart_from x h n = by h.apart
    where
      by : (x.a ≡ x.b) ⊎ AreDisjoint (at x.a) (at x.b) → AreDisjoint (at x.a) (at x.b)
      by (inl q) = absurd (n q)
      by (inr d) = d

  -- a pair that puts nothing on the list
  pub opens_none : (x : Pair) → given w (cells_at t.nodes x) ≡ [] → Opens w t.nodes x []
  opens_none x e = record { cells = sym e; listed = tt; deeper = tt; few = omega arith; shallow = inl refl }

  -- a new pair of nodes at or below two others, of which one is no leaf
  record IsNew (x : Pair) (y : Pair) : Type 0 where
    listed : IsListed w t.nodes y
    deeper : depth_of (cells_at t.nodes y) ≡ depth_of (cells_at t.nodes x) + 1

  -- a node below has the new depth, or is a leaf that is no deeper than before
  level_case : (i d depth : ℕ) → IsBelow w t.nodes i d → (is_leaf_at i ≡ true) ⊎ ((at i).level ≡ depth) → (at i).level ≤ depth → ((is_leaf_at i ≡ false) × ((at d).level ≡ depth + 1)) ⊎ ((is_leaf_at d ≡ true) × ((at d).level ≤ depth))
  level_case i d depth h k l = by (is_leaf_at i) refl k
    where
      by : (b : Bool) → is_leaf_at i ≡ b → (is_leaf_at i ≡ true) ⊎ ((at i).level ≡ depth) → ((is_leaf_at i ≡ false) × ((at d).level ≡ depth + 1)) ⊎ ((is_leaf_at d ≡ true) × ((at d).level ≤ depth))
      by true e k = let q : d ≡ i = h.stays e in inr (ap is_leaf_at q ∙ e, omega (arith, l, ap (λ m. (at m).level) q))
      by false e (inl k) = absurd (false≢true (sym e ∙ k))
      by false e (inr k) = inl (e, h.deeper e ∙ ap (λ m. m + 1) k)

  new_pair : (x : Pair) (d e : ℕ) → IsListed w t.nodes x → IsBelow w t.nodes x.a d → IsBelow w t.nodes x.b e → (is_leaf_at x.a && is_leaf_at x.b) ≡ false → (d ≡ e) ⊎ AreDisjoint (at d) (at e) → IsNew x (pair d e)
  new_pair x d e h u v open' apart =
      by (level_case x.a d (depth_of (cells_at t.nodes x)) u h.left (omega arith)) (level_case x.b e (depth_of (cells_at t.nodes x)) v h.right (omega arith))
    where
      depth : ℕ
      depth = depth_of (cells_at t.nodes x)

      not_both : is_leaf_at d ≡ true → is_leaf_at e ≡ true → (at d).level ≤ depth → (at e).level ≤ depth → ⊥
      not_both p q r s = two (is_leaf_at x.a) (is_leaf_at x.b) refl refl open'
        where
          two : (a b : Bool) → is_leaf_at x.a ≡ a → is_leaf_at x.b ≡ b → (a && b) ≡ false → ⊥
          two true true f g k = false≢true (sym k)
          two false b f g k = deep (level_of x.a d u f h.left)
            where
              level_of : (i d : ℕ) → IsBelow w t.nodes i d → is_leaf_at i ≡ false → (is_leaf_at i ≡ true) ⊎ ((at i).level ≡ depth) → (at d).level ≡ depth + 1
              level_of i d n f (inl k) = absurd (false≢true (sym f ∙ k))
              level_of i d n f (inr k) = n.deeper f ∙ ap (λ m. m + 1) k

              deep : (at d).level ≡ depth + 1 → ⊥
              deep m = omega (arith, m, r)
          two true false f g k = deep (level_of x.b e v g h.right)
            where
              level_of : (i d : ℕ) → IsBelow w t.nodes i d → is_leaf_at i ≡ false → (is_leaf_at i ≡ true) ⊎ ((at i).level ≡ depth) → (at d).level ≡ depth + 1
              level_of i d n f (inl k) = absurd (false≢true (sym f ∙ k))
              level_of i d n f (inr k) = n.deeper f ∙ ap (λ m. m + 1) k

              deep : (at e).level ≡ depth + 1 → ⊥
              deep m = omega (arith, m, s)

      make : depth_of (cells_at t.nodes (pair d e)) ≡ depth + 1 → (is_leaf_at d ≡ true) ⊎ ((at d).level ≡ depth + 1) → (is_leaf_at e ≡ true) ⊎ ((at e).level ≡ depth + 1) → IsNew x (pair d e)
      make m p q = record {
        listed = record { first = u.there; second = v.there; apart = apart; left = side d p; right = side e q };
        deeper = m;
      }
        where
          side : (k : ℕ) → (is_leaf_at k ≡ true) ⊎ ((at k).level ≡ depth + 1) → (is_leaf_at k ≡ true) ⊎ ((at k).level ≡ depth_of (cells_at t.nodes (pair d e)))
          side k (inl l) = inl l
          side k (inr l) = inr (l ∙ sym m)

      by : ((is_leaf_at x.a ≡ false) × ((at d).level ≡ depth + 1)) ⊎ ((is_leaf_at d ≡ true) × ((at d).level ≤ depth)) → ((is_leaf_at x.b ≡ false) × ((at e).level ≡ depth + 1)) ⊎ ((is_leaf_at e ≡ true) × ((at e).level ≤ depth)) → IsNew x (pair d e)
      by (inl p) (inl q) = make (omega (arith, p.1, q.1)) (inr p.1) (inr q.1)
      by (inl p) (inr q) = make (omega (arith, p.1, q.1)) (inr p.1) (inl q.0)
      by (inr p) (inl q) = make (omega (arith, p.1, q.1)) (inl p.0) (inr q.1)
      by (inr p) (inr q) = absurd (not_both p.0 q.0 p.1 q.1)

  split_new : (x : Pair) (ys : List Pair) → AllByRecursion (IsNew x) ys → AllByRecursion (IsListed w t.nodes) ys × AllByRecursion (λ y. depth_of (cells_at t.nodes y) ≡ depth_of (cells_at t.nodes x) + 1) ys
  split_new x [] a = (tt, tt)
  split_new x (y ∷ ys) a = let r : AllByRecursion (IsListed w t.nodes) ys × AllByRecursion (λ y. depth_of (cells_at t.nodes y) ≡ depth_of (cells_at t.nodes x) + 1) ys = split_new x ys a.1 in ((a.0.listed, r.0), (a.0.deeper, r.1))

  -- one of two is no leaf, so there are deeper levels
  shallow_pair : (x : Pair) → IsListed w t.nodes x → (is_leaf_at x.a && is_leaf_at x.b) ≡ false → depth_of (cells_at t.nodes x) < 32
  shallow_pair x h open' = two (is_leaf_at x.a) (is_leaf_at x.b) refl refl open'
    where
      level_of : (i : ℕ) → is_leaf_at i ≡ false → (is_leaf_at i ≡ true) ⊎ ((at i).level ≡ depth_of (cells_at t.nodes x)) → depth_of (cells_at t.nodes x) < 32
      level_of i f (inl k) = absurd (false≢true (sym f ∙ k))
      level_of i f (inr k) = omega (arith, k, shallow (opening_by w) (at i) f)

      two : (a b : Bool) → is_leaf_at x.a ≡ a → is_leaf_at x.b ≡ b → (a && b) ≡ false → depth_of (cells_at t.nodes x) < 32
      two true true f g k = absurd (false≢true (sym k))
      two false b f g k = level_of x.a f h.left
      two true false f g k = level_of x.b g h.right

  or_false : (a b : Bool) → (a || b) ≡ false → a ≡ false
  or_false true b e = absurd (false≢true (sym e))
  or_false false b e = refl

  disjoint_inside : (a b d e : ℕ) → AreDisjoint (at a) (at b) → IsBelow w t.nodes a d → IsBelow w t.nodes b e → AreDisjoint (at d) (at e)
  disjoint_inside a b d e h u v = record { apart = λ p k l. h.apart p (u.inside p k) (v.inside p l) }

  pub opens_cross : (x : Pair) (f n g m : ℕ) → IsListed w t.nodes x → (x.a ≡ x.b → ⊥) → final (opening_by w) (at x.a) (at x.b) ≡ false → IsDown w t.nodes x.a f n → IsDown w t.nodes x.b g m → Opens w t.nodes x (cross (range f n) (range g m))
  opens_cross x f n g m h ne fin u v =
      let open' : (is_leaf_at x.a && is_leaf_at x.b) ≡ false = or_false (is_leaf_at x.a && is_leaf_at x.b) _ fin in
      let apart : AreDisjoint (at x.a) (at x.b) = apart_from x h ne in
      let new : AllByRecursion (IsNew x) (cross (range f n) (range g m)) =
      each-flat_map (λ k. (f ≤ k) × (k < f + n)) (IsNew x) (λ d. map (pair d) (range g m))
      (λ d p. each-map (λ k. (g ≤ k) × (k < g + m)) (IsNew x) (pair d)
      (λ e q. new_pair x d e h (u.each d p.0 p.1) (v.each e q.0 q.1) open' (inr (disjoint_inside x.a x.b d e apart (u.each d p.0 p.1) (v.each e q.0 q.1))))
      (range g m) (each-range g m)) (range f n) (each-range f n) in
      let s : AllByRecursion (IsListed w t.nodes) (cross (range f n) (range g m)) × AllByRecursion (λ y. depth_of (cells_at t.nodes y) ≡ depth_of (cells_at t.nodes x) + 1) (cross (range f n) (range g m)) = split_new x (cross (range f n) (range g m)) new in
      record {
        cells = cross_cells t.nodes (range f n) (range g m) ∙ (λ i. over_both (λ d e. (d, e) ∷ []) (u.cells i) (v.cells i)) ∙ sym (given_apart w (cells_at t.nodes x) (differ x h ne) fin);
        listed = s.0;
        deeper = s.1;
        few = cross_few f n g m u.few v.few;
        shallow = inr (shallow_pair x h open');
      }

  both_false : (a b : Bool) → a ≡ false → (a && b) ≡ false
  both_false a b e = ap (λ t. t && b) e

  new_ones : (x : Pair) (f n : ℕ) → IsListed w t.nodes x → x.a ≡ x.b → is_leaf_at x.a ≡ false → IsDown w t.nodes x.a f n → (g m : ℕ) → f ≤ g → g + m ≤ f + n → AllByRecursion (IsNew x) (self_pairs (range g m))
  new_ones x f n h e l u g zero p q = tt
  new_ones x f n h e l u g (suc m) p q =
      each-append (IsNew x) (map (pair g) (g ∷ range (suc g) m)) (self_pairs (range (suc g) m)) (
        new_pair x g g h here (below_b g p (omega (arith, q))) open' (inl refl),
        each-map (λ k. (suc g ≤ k) × (k < suc g + m)) (IsNew x) (pair g)
            (λ k r. new_pair x g k h here (below_b k (omega (arith, p, r.0)) (omega (arith, q, r.1))) open' (inr (u.apart g k p (omega (arith, r.0)) (omega (arith, q, r.1)))))
            (range (suc g) m) (each-range (suc g) m),
      )
      (new_ones x f n h e l u (suc g) m (omega (arith, p)) (omega (arith, q)))
    where
      below_b : (k : ℕ) → f ≤ k → k < f + n → IsBelow w t.nodes x.b k
      below_b k r s = subst (λ m. IsBelow w t.nodes m k) e (u.each k r s)

      here : IsBelow w t.nodes x.a g
      here = u.each g p (omega (arith, q))

      open' : (is_leaf_at x.a && is_leaf_at x.b) ≡ false
      open' = both_false (is_leaf_at x.a) (is_leaf_at x.b) l

  pub opens_same : (x : Pair) (f n : ℕ) → IsListed w t.nodes x → x.a ≡ x.b → is_leaf_at x.a ≡ false → IsDown w t.nodes x.a f n → Opens w t.nodes x (self_pairs (range f n))
  opens_same x f n h e l u =
      let open' : (is_leaf_at x.a && is_leaf_at x.b) ≡ false = both_false (is_leaf_at x.a) (is_leaf_at x.b) l in
      let s : AllByRecursion (IsListed w t.nodes) (self_pairs (range f n)) × AllByRecursion (λ y. depth_of (cells_at t.nodes y) ≡ depth_of (cells_at t.nodes x) + 1) (self_pairs (range f n)) = split_new x (self_pairs (range f n)) (new_ones x f n h e l u f n (omega arith) (omega arith)) in
      record {
        cells = self_cells t.nodes (range f n)
            ∙ ap (over_pairs (λ d. (d, d) ∷ []) (λ d e. (d, e) ∷ [])) (u.cells ∙ cond-false (is_leaf_at x.a) (at x.a ∷ []) (opened (positions_of w.bodies) (at x.a)) l)
            ∙ sym (given_same w (cells_at t.nodes x) (ap at e) l);
        listed = s.0;
        deeper = s.1;
        few = self_few f n u.few;
        shallow = inr (shallow_pair x h open');
      }
