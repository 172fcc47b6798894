-- The nodes of a tree and their children, by their places.
use Rattle.std.proofs.Common.{◌≡◌, ℕ, zero, suc, ◌+◌, ◌^◌, ◌<◌, ◌≤◌, Bool, true, false, cond, List, [], ◌∷◌, map, length, take, drop, refl, ap, sym, subst, ◌∙◌, arith, ◌⊎◌, inl, inr}
use Rattle.std.specs.Prelude.{slice_index_or}
use Rattle.std.specs.List.{filter, AllByRecursion}
use Rattle.std.proofs.lemmas.List.{length-map}
use Rattle.std.proofs.lemmas.List.Sums.{count_by-le-length, length-filter}
use Rattle.std.proofs.lemmas.Bool.{cases_eq, cases_lt, false≢true}
use Rattle.cell_space.specs.Cells.{Position, CellData, root_cell, contains, cell_at, corner}
use Rattle.cell_space.proofs.Cells.{contains-exact, child_within}
use Rattle.hilbert_keys.specs.Curve.{number_of, turn_of, child_at, children_along}
use Rattle.hilbert_keys.proofs.Turns.{is_good}
use Rattle.hilbert_keys.proofs.Curves.{is_turn}
use Rattle.nbody_model.specs.Nodes.{positions_of, is_node, is_leaf}
use Rattle.nbody_model.specs.Moments.{MomentsData, moments}
use Rattle.nbody_model.specs.Covers.{leaf}
use Rattle.model_laws.proofs.Among.{each-among, each-weaker}
use Rattle.model_laws.proofs.Pairs.{all_among}
use Rattle.octree_build.specs.Trees.{NodeData, TreeData, IsTree, IsNodeOf, opened, cells_of, first_child}
use Rattle.octree_build.specs.Slots.{IsNode}
use Rattle.octree_build.specs.Laws.{AreBeside, AreInOrder, ComesBefore}
use Rattle.octree_build.proofs.Asked.{tree_few, tree_order}
use Rattle.octree_build.proofs.Edges.{among-at}
use Rattle.octree_build.proofs.Grown.{are_beside}
use Rattle.octree_build.proofs.Listed.{listed_node}
use Rattle.octree_build.proofs.Opens.{drop_at}
use Rattle.octree_build.proofs.Once.{FromOpened, Opened, from_opened}
use Rattle.dual_walk.specs.Courses.{Course, opening_by, cell_in}
use Rattle.dual_walk.specs.Steps.{range, IsDown}

pub each-unmap : {X Y : Type 0} (P : Y → Type 0) (h : X → Y) (xs : List X) → AllByRecursion P (map h xs) → AllByRecursion (λ x. P (h x)) xs
each-unmap P h [] a = tt
each-unmap P h (x ∷ xs) a = (a.0, each-unmap P h xs a.1)

pub each-both : {X : Type 0} (P Q R : X → Type 0) → ((x : X) → P x → Q x → R x) → (xs : List X) → AllByRecursion P xs → AllByRecursion Q xs → AllByRecursion R xs
each-both P Q R h [] a b = tt
each-both P Q R h (x ∷ xs) a b = (h x a.0 b.0, each-both P Q R h xs a.1 b.1)

each_later : (f n : ℕ) (ks : List ℕ) → AllByRecursion (λ k. (suc f ≤ k) × (k < suc f + n)) ks → AllByRecursion (λ k. (f ≤ k) × (k < f + suc n)) ks
each_later f n ks a = each-weaker (λ k. (suc f ≤ k) × (k < suc f + n)) (λ k. (f ≤ k) × (k < f + suc n)) (λ k h. (omega (arith, h.0), omega (arith, h.1))) ks a

pub each-range : (f n : ℕ) → AllByRecursion (λ k. (f ≤ k) × (k < f + n)) (range f n)
each-range f zero = tt
each-range f (suc n) = ((omega arith, omega arith), each_later f n (range (suc f) n) (each-range (suc f) n))

after : (f k : ℕ) → (f ≡ k → ⊥) → f ≤ k → suc f ≤ k
after f k e u = not_equal (cases_lt f k)
  where
    not_equal : (f < k) ⊎ (k ≤ f) → suc f ≤ k
    not_equal (inl l) = omega (arith, l)
    not_equal (inr l) = absurd (e (omega (arith, l, u)))

at_or_later : (P : ℕ → Type 0) (f n : ℕ) (k : ℕ) → (f ≡ k) ⊎ (f ≡ k → ⊥) → P f → f ≤ k → (suc f ≤ k → P k) → P k
at_or_later P f n k (inl e) h u rest = subst P e h
at_or_later P f n k (inr e) h u rest = rest (after f k e u)

pub each-at : (P : ℕ → Type 0) (f n : ℕ) → AllByRecursion P (range f n) → (k : ℕ) → f ≤ k → k < f + n → P k
each-at P f zero a k u v = absurd (omega (arith, u, v))
each-at P f (suc n) a k u v = at_or_later P f n k (cases_eq f k) a.0 u (λ l. each-at P (suc f) n a.1 k l (omega (arith, v)))

-- what stands from a place on
pub take_at : {X : Type 0} (d : X) (xs : List X) (f n : ℕ) → f + n ≤ length xs → map (λ k. slice_index_or xs k d) (range f n) ≡ take n (drop f xs)
take_at d xs f zero h = refl
take_at d xs f (suc n) h = ap (λ t. slice_index_or xs f d ∷ t) (take_at d xs (suc f) n (omega (arith, h))) ∙ ap (take (suc n)) (sym (drop_at d xs f (omega (arith, h))))

pub in_order_at : (d : CellData) (cs : List CellData) → AreInOrder cs → (i m : ℕ) → i < m → m < length cs → ComesBefore (slice_index_or cs i d) (slice_index_or cs m d)
in_order_at d [] a i m h k = absurd (omega (arith, k))
in_order_at d (c ∷ cs) a i zero h k = absurd (omega (arith, h))
in_order_at d (c ∷ cs) a zero (suc m) h k = each-among (ComesBefore c) (slice_index_or cs m d) cs a.0 (among-at d cs m (omega (arith, k)))
in_order_at d (c ∷ cs) a (suc i) (suc m) h k = in_order_at d cs a.1 i m (omega (arith, h)) (omega (arith, k))

-- what the node at a place is
pub node_cell : (nodes : List NodeData) (i : ℕ) (m : MomentsData) → i < length nodes → ((d : NodeData) → m ≡ (slice_index_or nodes i d).moments) → m.cell ≡ cell_in nodes i
node_cell [] i m h e = absurd (omega (arith, h))
node_cell (n ∷ ns) zero m h e = ap (λ t. t.cell) (e n)
node_cell (n ∷ ns) (suc i) m h e = node_cell ns i m (omega (arith, h)) e

-- two cells of one level with a position in common are one
one_level : (a b : CellData) (p : Position) → a.level ≡ b.level → contains a p ≡ true → contains b p ≡ true → a ≡ b
one_level a b p e h k = sym ((contains-exact a p).0 h) ∙ ap (λ l. cell_at l p) e ∙ (contains-exact b p).0 k

module _ (w : Course) (t : TreeData) (tree : IsTree w.setup w.bodies t) where
  abbrev cells : List CellData
  cells = cells_of t.nodes

  abbrev ps : List Position
  ps = positions_of w.bodies

  abbrev at : ℕ → CellData
  at k = cell_in t.nodes k

  pub as_many : length cells ≡ length t.nodes
  as_many = length-map t.nodes (λ n. n.moments.cell)

  pub node_is : (i : ℕ) → i < length t.nodes → IsNode ps (at i)
  node_is i h = listed_node ps cells tree.nodes.grown i (at i) (omega (arith, h, as_many)) (same_at cells i (omega (arith, h, as_many)))
    where
      same_at : (xs : List CellData) (i : ℕ) → i < length xs → slice_index_or xs i root_cell ≡ slice_index_or xs i (slice_index_or xs i root_cell)
      same_at [] i h = absurd (omega (arith, h))
      same_at (x ∷ xs) zero h = refl
      same_at (x ∷ xs) (suc i) h = same_at xs i (omega (arith, h))

  pub node_leaf : (i : ℕ) (m : MomentsData) → i < length t.nodes → ((d : NodeData) → m ≡ (slice_index_or t.nodes i d).moments) → m.leaf ≡ leaf (opening_by w) (at i)
  unfolding moments
  node_leaf i m h e = by t.nodes refl
    where
      by : (ns : List NodeData) → t.nodes ≡ ns → m.leaf ≡ leaf (opening_by w) (at i)
      by [] q = absurd (omega (arith, h, ap length q))
      by (n ∷ ns) q =
          let is : m ≡ moments w.setup w.bodies (slice_index_or t.nodes i n).moments.cell = e n ∙ (tree.nodes.each n i h).moments in
          ap (λ t. t.leaf) is ∙ ap (λ c. is_leaf ps c) ((tree.nodes.each n i h).cell root_cell)

  -- all that a walk asks of a node
  pub node_moments : (i : ℕ) (m : MomentsData) → i < length t.nodes → ((d : NodeData) → m ≡ (slice_index_or t.nodes i d).moments) → m ≡ moments w.setup w.bodies (at i)
  node_moments i m h e = by t.nodes refl
    where
      by : (ns : List NodeData) → t.nodes ≡ ns → m ≡ moments w.setup w.bodies (at i)
      by [] q = absurd (omega (arith, h, ap length q))
      by (n ∷ ns) q = e n ∙ (tree.nodes.each n i h).moments ∙ ap (moments w.setup w.bodies) ((tree.nodes.each n i h).cell root_cell)

  pub few_nodes : length t.nodes < 2 ^ 32
  few_nodes = omega (arith, tree_few w.setup w.bodies t tree, tree.over.bodies.valid.few)

  pub level_small : (i : ℕ) → i < length t.nodes → (at i).level ≤ 32
  level_small i h = (node_is i h).cell.shallow

  -- what a cell is opened to
  record IsChild (c d : CellData) : Type 0 where
    inside : (p : Position) → contains d p ≡ true → contains c p ≡ true
    deeper : d.level ≡ c.level + 1

  opened_children : (c : CellData) → AllByRecursion (IsChild c) (opened ps c)
  opened_children c = all_among (IsChild c) (opened ps c) (λ d h. by d (from_opened ps c d h))
    where
      by : (d : CellData) → FromOpened ps c d → IsChild c d
      by d (Opened f s v l u n) =
          let small : child_at (turn_of c) v < 8 = (is_good (turn_of c) v (is_turn c.level (corner c)) l).child in
          record { inside = λ p h. child_within c (child_at (turn_of c) v) p s small (ap (λ t. contains t p) (sym u) ∙ h); deeper = ap (λ t. t.level) u }

  eight : (c : CellData) → length (opened ps c) ≤ 8
  unfolding opened
  eight c = few (is_leaf ps c)
    where
      few : (b : Bool) → length (cond b [] (filter (is_node ps) (children_along c))) ≤ 8
      few true = omega arith
      few false = omega (arith, length-filter (is_node ps) (children_along c), count_by-le-length (is_node ps) (children_along c))

  -- children by their places
  pub down_leaf : (i : ℕ) → i < length t.nodes → leaf (opening_by w) (at i) ≡ true → IsDown w t.nodes i i 1
  down_leaf i h e = record {
    within = omega (arith, h);
    few = omega arith;
    cells = ap (λ b. cond b (at i ∷ []) (opened ps (at i))) (sym e);
    each = λ d f g. let q : d ≡ i = omega (arith, f, g) in record {
      there = omega (arith, g, h);
      inside = λ p k. ap (λ m. contains (at m) p) (sym q) ∙ k;
      stays = λ _. q;
      deeper = λ n. absurd (false≢true (sym n ∙ e));
    };
    apart = λ d e f g k. absurd (omega (arith, f, g, k));
  }

  pub down_children : (i first number : ℕ) → i < length t.nodes → leaf (opening_by w) (at i) ≡ false → ((d : NodeData) → first ≡ (slice_index_or t.nodes i d).first) → ((d : NodeData) → number ≡ (slice_index_or t.nodes i d).number) → IsDown w t.nodes i first number
  down_children i first number h e f n = by (some t.nodes i h)
    where
      some : (xs : List NodeData) (i : ℕ) → i < length xs → NodeData
      some [] i l = absurd (omega (arith, l))
      some (x ∷ xs) i l = x

      by : NodeData → IsDown w t.nodes i first number
      by d = whole
        where
          c : CellData
          c = at i

          here : IsNodeOf w.setup w.bodies t.bodies cells i (slice_index_or t.nodes i d)
          here = tree.nodes.each d i h

          beside : AreBeside ps cells i c
          beside = are_beside ps cells tree.nodes.grown root_cell i (omega (arith, h, as_many))

          is_first : first ≡ first_child ps cells i
          is_first = f d ∙ here.first

          is_number : number ≡ length (opened ps c)
          is_number = n d ∙ here.number ∙ ap (λ t. length (opened ps t)) (here.cell root_cell)

          fits : first + number ≤ length cells
          fits = omega (arith, beside.within, is_first, is_number)

          listed : map at (range first number) ≡ opened ps c
          listed = take_at root_cell cells first number fits ∙ ap (λ k. take number (drop k cells)) is_first ∙ ap (λ k. take k (drop (first_child ps cells i) cells)) is_number ∙ beside.are

          each_one : AllByRecursion (λ k. IsChild c (at k)) (range first number)
          each_one = each-unmap (IsChild c) at (range first number) (subst (λ (xs : List CellData). AllByRecursion (IsChild c) xs) (sym listed) (opened_children c))

          child : (k : ℕ) → first ≤ k → k < first + number → IsChild c (at k)
          child k u v = each-at (λ k. IsChild c (at k)) first number each_one k u v

          whole : IsDown w t.nodes i first number
          whole = record {
            within = omega (arith, fits, as_many);
            few = omega (arith, eight c, is_number);
            cells = listed ∙ ap (λ b. cond b (c ∷ []) (opened ps c)) (sym e);
            each = λ k u v. record {
              there = omega (arith, v, fits, as_many);
              inside = (child k u v).inside;
              stays = λ l. absurd (false≢true (sym e ∙ l));
              deeper = λ _. (child k u v).deeper;
            };
            apart = λ k m u v z. record {
              apart = λ p x y.
                  differ k m v z ((child k u (omega (arith, v, z))).deeper ∙ sym (child m (omega (arith, u, v)) z).deeper)
                  (one_level (at k) (at m) p ((child k u (omega (arith, v, z))).deeper ∙ sym (child m (omega (arith, u, v)) z).deeper) x y);
            };
          }
            where
              differ : (k m : ℕ) → k < m → m < first + number → (at k).level ≡ (at m).level → at k ≡ at m → ⊥
              differ k m v z l q = from (in_order_at root_cell cells (tree_order w.setup w.bodies t tree) k m v (omega (arith, z, fits)))
                where
                  from : ComesBefore (at k) (at m) → ⊥
                  from (inl u) = omega (arith, u, l)
                  from (inr u) = let r : number_of (at k) ≡ number_of (at m) = ap number_of q in omega (arith, u.1, r)
