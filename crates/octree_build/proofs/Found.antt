-- The way from the root down to a cell.
use Rattle.std.proofs.Common.{◌≡◌, ℕ, zero, suc, ◌+◌, ◌-◌, ◌<◌, ◌≤◌, Bool, true, false, cond, not, ◌&&◌, List, [], ◌∷◌, ◌++◌, length, drop, filter, refl, ap, sym, ◌∙◌, subst, arith, ◌⊎◌, inl, inr}
use Rattle.std.specs.Prelude.{slice_index_or}
use Rattle.std.specs.List.{flat_map, list_any}
use Rattle.std.proofs.lemmas.Bool.{false≢true, cases_lt}
use Rattle.std.proofs.lemmas.List.{length-map, get_or-take, get_or-drop}
use Rattle.cell_space.specs.Cells.{Position, CellData, root_cell, cell_at, corner, contains, digit, child, below}
use Rattle.cell_space.proofs.Cells.{contains-exact, cell_at-contains, root_contains, digit_below}
use Rattle.cell_space.proofs.Nested.{share_above}
use Rattle.hilbert_keys.specs.Curve.{IsCell, child_along, children_along, turn_of, place_of}
use Rattle.hilbert_keys.specs.Laws.{IsPlace}
use Rattle.hilbert_keys.proofs.Curves.{corner_cell, down_one, each_place}
use Rattle.nbody_model.specs.Bodies.{BodyData}
use Rattle.nbody_model.specs.Setups.{SetupData}
use Rattle.nbody_model.specs.Nodes.{positions_of, is_node, is_leaf}
use Rattle.model_laws.proofs.Among.{Among, Witness, any-witness, any-among, among-filter, among-map}
use Rattle.octree_build.specs.Trees.{opened, first_child, inside_leaf, is_tree_node, NodeData, TreeData, cells_of, IsTree, IsPlaceOf}
use Rattle.octree_build.specs.Laws.{AreBeside}
use Rattle.octree_build.specs.Slots.{IsNode}
use Rattle.octree_build.proofs.Grown.{are_beside}
use Rattle.octree_build.proofs.Edges.{among-at}
use Rattle.octree_build.proofs.Once.{FromOpened, Opened, from_opened}
use Rattle.octree_build.proofs.LeafTests.{Stands, stands}
use Rattle.octree_build.proofs.Listed.{in_tree, listed_node}

-- one place more where no cell is around
pub around_more : (nodes : List NodeData) (first k : ℕ) (p : Position) → ((m : ℕ) (d : NodeData) → first ≤ m → m < k → contains (slice_index_or nodes m d).moments.cell p ≡ false) → ((d : NodeData) → contains (slice_index_or nodes k d).moments.cell p ≡ false) → (m : ℕ) (d : NodeData) → first ≤ m → m < k + 1 → contains (slice_index_or nodes m d).moments.cell p ≡ false
around_more nodes first k p a b m d h l = by (cases_lt m k)
  where
    by : (m < k) ⊎ (k ≤ m) → contains (slice_index_or nodes m d).moments.cell p ≡ false
    by (inl u) = a m d h u
    by (inr u) = let e : m ≡ k = omega (arith, u, l) in ap (λ t. contains (slice_index_or nodes t d).moments.cell p) e ∙ b d

-- some element of a list that has one
pub some_node : (xs : List NodeData) (k : ℕ) → k < length xs → NodeData
some_node [] k h = absurd (omega (arith, h))
some_node (x ∷ xs) k h = x

no_more : (b : Bool) → (b ≡ true → ⊥) → b ≡ false
no_more true h = absurd (h refl)
no_more false h = refl

-- a node has a node above it on each level
pub nodes_above : (ps : List Position) (c : CellData) (l : ℕ) → IsCell c → l ≤ c.level → is_node ps c ≡ true → is_node ps (cell_at l (corner c)) ≡ true
unfolding is_node
nodes_above ps c l i h e =
    let w : Witness (contains c) ps = any-witness (contains c) ps e in
    let s : cell_at c.level w.it ≡ cell_at c.level (corner c) = (contains-exact c w.it).0 w.passes ∙ sym (corner_cell c) in
    any-among (contains (cell_at l (corner c))) w.it ps w.«in» ((contains-exact (cell_at l (corner c)) w.it).1 (share_above w.it (corner c) l c.level h i.shallow s))

not_node : (ps : List Position) (c : CellData) → is_node ps c ≡ false → is_tree_node ps c ≡ false
not_node ps c e = ap (λ b. b && not (inside_leaf ps c)) e

below_next : (l n : ℕ) → l < suc n → (l < n) ⊎ (n ≤ l) → (l < n → Among l (below n)) → Among l (below (suc n))
below_next l n h (inl u) f = inr (f u)
below_next l n h (inr u) f = inl (omega (arith, h, u))

below_among : (l n : ℕ) → l < n → Among l (below n)
below_among l zero h = absurd (omega (arith, h))
below_among l (suc n) h = below_next l n h (cases_lt l n) (below_among l n)

any_level : (t : ℕ → Bool) (n l : ℕ) → l < n → t l ≡ true → list_any t (below n) ≡ true
any_level t n l h e = any-among t l (below n) (below_among l n h) e

in_leaf : (ps : List Position) (c : CellData) (l : ℕ) → l < c.level → is_leaf ps (cell_at l (corner c)) ≡ true → is_tree_node ps c ≡ false
unfolding inside_leaf
in_leaf ps c l h e = (λ i. is_node ps c && not (any_level (λ l. is_leaf ps (cell_at l (corner c))) c.level l h e i)) ∙ and_false (is_node ps c)
  where
    and_false : (b : Bool) → (b && false) ≡ false
    and_false true = refl
    and_false false = refl

along_among : (d : CellData) (w : ℕ) → w < 8 → Among (child_along d w) (children_along d)
along_among d w h = among-map (child_along d) w (0 ∷ 1 ∷ 2 ∷ 3 ∷ 4 ∷ 5 ∷ 6 ∷ 7 ∷ []) (eight w h)
  where
    eight : (w : ℕ) → w < 8 → Among w (0 ∷ 1 ∷ 2 ∷ 3 ∷ 4 ∷ 5 ∷ 6 ∷ 7 ∷ [])
    eight zero h = inl refl
    eight (suc zero) h = inr (inl refl)
    eight (suc (suc zero)) h = inr (inr (inl refl))
    eight (suc (suc (suc zero))) h = inr (inr (inr (inl refl)))
    eight (suc (suc (suc (suc zero)))) h = inr (inr (inr (inr (inl refl))))
    eight (suc (suc (suc (suc (suc zero))))) h = inr (inr (inr (inr (inr (inl refl)))))
    eight (suc (suc (suc (suc (suc (suc zero)))))) h = inr (inr (inr (inr (inr (inr (inl refl))))))
    eight (suc (suc (suc (suc (suc (suc (suc zero))))))) h = inr (inr (inr (inr (inr (inr (inr (inl refl)))))))
    eight (suc (suc (suc (suc (suc (suc (suc (suc n)))))))) h = absurd (omega (arith, h))

-- the child of an open cell around a position, where it is a node, is among what the cell is opened to
child_opened : (ps : List Position) (p : Position) (l : ℕ) → l < 32 → is_leaf ps (cell_at l p) ≡ false → is_node ps (cell_at (l + 1) p) ≡ true → Among (cell_at (l + 1) p) (opened ps (cell_at l p))
unfolding opened
child_opened ps p l h e n =
    let d : CellData = cell_at l p in
    let k : IsPlace d (digit p l) = each_place d (digit p l) (digit_below p l) in
    let s : cell_at (l + 1) p ≡ child_along d (place_of (turn_of d) (digit p l)) = down_one l p h ∙ ap (child d) (sym k.back) in
    let a : Among (cell_at (l + 1) p) (children_along d) = subst (λ t. Among t (children_along d)) (sym s) (along_among d (place_of (turn_of d) (digit p l)) k.below) in
    subst (λ b. Among (cell_at (l + 1) p) (cond b [] (filter (is_node ps) (children_along d)))) (sym e) (among-filter (is_node ps) (cell_at (l + 1) p) (children_along d) a n)

module _ (s : SetupData) (B : List BodyData) (t : TreeData) (h : IsTree s B t) (c : CellData) (i : IsCell c) where
  abbrev ps : List Position
  ps = positions_of B

  abbrev cells : List CellData
  cells = cells_of t.nodes

  long : length cells ≡ length t.nodes
  long = length-map t.nodes (λ n. n.moments.cell)

  -- the node at a place is that of the cell of a level around c's corner
  pub record IsAbove (k l : ℕ) : Type 0 where
    pub within : k < length t.nodes
    pub there : (d : NodeData) → (slice_index_or t.nodes k d).moments.cell ≡ cell_at l (corner c)

  none_listed : cells ≡ [] → is_tree_node ps c ≡ false
  none_listed e = no_more (is_tree_node ps c) (λ u. absurd (subst (Among c) e (in_tree ps cells h.nodes.grown c i u)))

  pub no_nodes : length t.nodes ≡ 0 → is_tree_node ps c ≡ false
  no_nodes e = none_listed (by cells (omega (arith, e, long)))
    where
      by : (xs : List CellData) → length xs ≡ 0 → xs ≡ []
      by [] u = refl
      by (x ∷ xs) u = absurd (omega (arith, u))

  root_node : (n : NodeData) → 0 < length t.nodes → is_node ps root_cell ≡ true
  root_node n u =
      let x : CellData = slice_index_or cells 0 root_cell in
      let d : IsNode ps x = listed_node ps cells h.nodes.grown 0 x (omega (arith, u, long)) (same cells) in
      subst (λ r. is_node ps r ≡ true) ((contains-exact root_cell (corner x)).0 (root_contains (corner x) d.cell.in_box)) (nodes_above ps x 0 d.cell (omega arith) d.node)
    where
      same : (xs : List CellData) → slice_index_or xs 0 root_cell ≡ slice_index_or xs 0 (slice_index_or xs 0 root_cell)
      same [] = refl
      same (x ∷ xs) = refl

  pub from_root : 0 < length t.nodes → IsAbove 0 0
  from_root u = record {
    within = u;
    there = λ d.
        (h.nodes.each d 0 u).cell root_cell
        ∙ ap (λ xs. slice_index_or xs 0 root_cell) (h.nodes.grown.grown ∙ ap (λ b. cond b (root_cell ∷ []) [] ++ flat_map (opened ps) cells) (root_node d u))
        ∙ sym ((contains-exact root_cell (corner c)).0 (root_contains (corner c) i.in_box));
  }

  module _ (k l : ℕ) (a : IsAbove k l) (b : l < c.level) where
    abbrev here : CellData
    here = cell_at l (corner c)

    deep : l < 32
    deep = omega (arith, b, i.shallow)

    abbrev node : NodeData → NodeData
    node d = slice_index_or t.nodes k d

    beside : (d : NodeData) → AreBeside ps cells k here
    beside d = subst (AreBeside ps cells k) (sym ((h.nodes.each d k a.within).cell here) ∙ a.there d) (are_beside ps cells h.nodes.grown here k (omega (arith, a.within, long)))

    first_is : (d : NodeData) → (node d).first ≡ first_child ps cells k
    first_is d = (h.nodes.each d k a.within).first

    number_is : (d : NodeData) → (node d).number ≡ length (opened ps here)
    number_is d = (h.nodes.each d k a.within).number ∙ ap (λ x. length (opened ps x)) (a.there d)

    -- a child of the node is what the cell is opened to
    child_is : (d : NodeData) (j : ℕ) → j < (node d).number → (e : CellData) → slice_index_or cells ((node d).first + j) e ≡ slice_index_or (opened ps here) j e
    child_is d j u e =
        let n : j < length (opened ps here) = omega (arith, u, number_is d) in
        (λ x. slice_index_or cells (first_is d x + j) e)
        ∙ sym (get_or-drop (first_child ps cells k) cells j e)
        ∙ sym (get_or-take (length (opened ps here)) (drop (first_child ps cells k) cells) j e n)
        ∙ ap (λ xs. slice_index_or xs j e) (beside d).are

    pub goes_down : (d : NodeData) (m : ℕ) → (node d).first ≤ m → m < (node d).first + (node d).number → contains (slice_index_or t.nodes m d).moments.cell (corner c) ≡ true → IsAbove m (l + 1)
    goes_down d m u v e =
        let j : ℕ = m - (node d).first in
        let q : (node d).first + (m - (node d).first) ≡ m = omega (arith, u) in
        let n : m - (node d).first < (node d).number = omega (arith, u, v) in
        let w : m < length t.nodes = omega (arith, v, first_is d, number_is d, (beside d).within, long) in
        let x : CellData = (slice_index_or t.nodes m d).moments.cell in
        let y : x ≡ slice_index_or (opened ps here) j here = (h.nodes.each d m w).cell here ∙ ap (λ z. slice_index_or cells z here) (sym q) ∙ child_is d j n here in
        let f : Among x (opened ps here) = subst (λ z. Among z (opened ps here)) (sym y) (among-at here (opened ps here) j (omega (arith, n, number_is d))) in
        record { within = w; there = λ g. other m d g w ∙ level x (from_opened ps here x f) e }
      where
        other : (m : ℕ) (d g : NodeData) → m < length t.nodes → (slice_index_or t.nodes m g).moments.cell ≡ (slice_index_or t.nodes m d).moments.cell
        other m d g w = (h.nodes.each g m w).cell here ∙ sym ((h.nodes.each d m w).cell here)

        level : (x : CellData) → FromOpened ps here x → contains x (corner c) ≡ true → x ≡ cell_at (l + 1) (corner c)
        level x (Opened f s w z r n) e = let v : x.level ≡ l + 1 = ap (λ y. y.level) r in sym ((contains-exact x (corner c)).0 e) ∙ ap (λ y. cell_at y (corner c)) v

    pub ends_here : (d : NodeData) → ((m : ℕ) → (node d).first ≤ m → m < (node d).first + (node d).number → contains (slice_index_or t.nodes m d).moments.cell (corner c) ≡ false) → is_tree_node ps c ≡ false
    ends_here d f = by (is_leaf ps here) refl
      where
        absent : is_leaf ps here ≡ false → is_node ps (cell_at (l + 1) (corner c)) ≡ true → ⊥
        absent e n =
            let x : CellData = cell_at (l + 1) (corner c) in
            let w : Stands here x (opened ps here) = stands here x (opened ps here) (child_opened ps (corner c) l deep e n) in
            let u : w.at < (node d).number = omega (arith, w.within, number_is d) in
            let m : ℕ = (node d).first + w.at in
            let v : (node d).first + w.at < length t.nodes = omega (arith, u, first_is d, number_is d, (beside d).within, long) in
            let y : (slice_index_or t.nodes m d).moments.cell ≡ x = (h.nodes.each d m v).cell here ∙ child_is d w.at u here ∙ w.is in
            let z : contains (slice_index_or t.nodes m d).moments.cell (corner c) ≡ false = f m (omega arith) (omega (arith, u)) in
            false≢true (sym z ∙ ap (λ r. contains r (corner c)) y ∙ cell_at-contains (l + 1) (corner c))

        by : (b : Bool) → is_leaf ps here ≡ b → is_tree_node ps c ≡ false
        by true e = in_leaf ps c l b e
        by false e = not_node ps c (no_more (is_node ps c) (λ u. absent e (nodes_above ps c (l + 1) i (omega (arith, b)) u)))

  pub arrives : (k l : ℕ) → l ≡ c.level → IsAbove k l → IsPlaceOf t c k
  arrives k l e a = record { within = a.within; there = λ d. a.there d ∙ ap (λ x. cell_at x (corner c)) e ∙ corner_cell c }
