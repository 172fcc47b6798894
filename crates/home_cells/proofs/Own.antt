-- The nodes of a rank's tree, in order, are the cells of its flat tree.
use Rattle.std.proofs.Common.{◌≡◌, ℕ, ◌+◌, ◌-◌, ◌*◌, ◌<◌, ◌≤◌, Bool, true, false, cond, not, ltb, ◌&&◌, ◌||◌, List, [], ◌∷◌, sum_by, refl, ap, sym, ◌∙◌, subst, arith, inl, inr}
use Rattle.std.specs.List.{AllByRecursion}
use Rattle.std.proofs.Math.Nat.{div-mul-le_self}
use Rattle.std.proofs.lemmas.Bool.{false≢true, or_parts, and_parts, and_from, not-true, le-ltb, cond-true, cond-false, eq-eqb, ne_eqb}
use Rattle.std.proofs.lemmas.List.Sums.{sum_by-cons}
use Rattle.cell_space.specs.Cells.{Position, InBox, CellData, cell_at, same_cell, width_of}
use Rattle.cell_space.proofs.Cells.{contains-exact}
use Rattle.hilbert_keys.specs.Curve.{IsCell, keys_in, number_of, first_key}
use Rattle.nbody_model.specs.Bodies.{BodyData}
use Rattle.nbody_model.specs.Nodes.{positions_of, is_node}
use Rattle.model_laws.proofs.Among.{Among, each-among}
use Rattle.octree_build.specs.Trees.{TreeData, cells_of, inside_leaf, is_tree_node}
use Rattle.octree_build.specs.Laws.{AreInOrder, ComesBefore, HasNodesOnce}
use Rattle.octree_build.proofs.Once.{have_nodes}
use Rattle.octree_build.proofs.Listed.{in_tree, tree_node}
use Rattle.octree_build.proofs.Asked.{tree_order}
use Rattle.rank_laws.specs.Machine.{is_one}
use Rattle.rank_laws.specs.Whole.{Whole, own, goes_first, IsInOrder}
use Rattle.rank_laws.specs.Contents.{own_nodes}
use Rattle.rank_laws.proofs.Machine.{one_among, among_one}
use Rattle.rank_laws.proofs.Fairness.{in_order-times, in_order-same}
use Rattle.rank_laws.proofs.Order.{ascends, one_order}
use Rattle.rank_curve_laws.specs.Along.{keys_along}
use Rattle.rank_curve_laws.proofs.Keys.{are_told}
use Rattle.rank_entry_laws.proofs.OwnTree.{BodyIn, body_in, own_node, is_own, IsOwnNode}
use Rattle.home_cells.specs.Entries.{IsOfRank}

-- ---- cells of the box

pub cell_of_box : (l : ℕ) (p : Position) → l ≤ 32 → InBox p → IsCell (cell_at l p)
cell_of_box l p h i = record {
  shallow = h;
  in_box = record {
    below_x = omega (arith, div-mul-le_self p.x (width_of l), i.below_x);
    below_y = omega (arith, div-mul-le_self p.y (width_of l), i.below_y);
    below_z = omega (arith, div-mul-le_self p.z (width_of l), i.below_z);
  };
}

-- a node of bodies in the box is a cell of the box
pub node_cell : (B : List BodyData) (c : CellData) → AllByRecursion (λ b. InBox b.motion.pos) B → c.level ≤ 32 → is_node (positions_of B) c ≡ true → IsCell c
node_cell B c box low n =
    let b : BodyIn B c = body_in B c n in
    subst IsCell ((contains-exact c b.body.motion.pos).0 b.inside) (cell_of_box c.level b.body.motion.pos low (each-among (λ b. InBox b.motion.pos) b.body B box b.one))

-- ---- the order of a flat tree is that of cells by level and first key

not_first : (bounds : List ℕ) (c d : CellData) → ComesBefore c d → goes_first (keys_along bounds) d c ≡ false
not_first bounds c d (inl h) = (λ i. le-ltb d.level c.level (omega (arith, h)) i || (ne_eqb d.level c.level (λ e. omega (arith, e, h)) i && ltb (first_key d) (first_key c)))
not_first bounds c d (inr h) = (λ i. le-ltb d.level c.level (omega (arith, h.0)) i || (eq-eqb d.level c.level (sym h.0) i && le-ltb (first_key d) (first_key c) later i))
  where
    later : first_key c ≤ first_key d
    later = by (number_of c) (number_of d) (keys_in c.level) h.1
      where
        grows : (m n w : ℕ) → m < n → m * w ≤ n * w
        grows m n w l = let e : m + (n - m) ≡ n = omega (arith, l) in let f : (m + (n - m)) * w ≡ m * w + (n - m) * w = omega arith in omega (arith, ap (λ t. t * w) e, f)

        by : (m n w : ℕ) → m < n → number_of c * keys_in c.level ≤ number_of d * keys_in d.level
        by m n w l = let a : number_of c * keys_in c.level ≤ number_of d * keys_in c.level = grows (number_of c) (number_of d) (keys_in c.level) h.1 in let b : number_of d * keys_in c.level ≡ number_of d * keys_in d.level = ap (λ t. number_of d * keys_in t) h.0 in omega (arith, a, b)

in_order_too : (bounds : List ℕ) (cs : List CellData) → AreInOrder cs → IsInOrder (keys_along bounds) cs
in_order_too bounds [] h = tt
in_order_too bounds (c ∷ cs) h = (each cs h.0, in_order_too bounds cs h.1)
  where
    each : (ds : List CellData) → AllByRecursion (ComesBefore c) ds → AllByRecursion (λ d. goes_first (keys_along bounds) d c ≡ false) ds
    each [] a = tt
    each (d ∷ ds) a = (not_first bounds c d a.0, each ds a.1)

-- ---- the same cells

abbrev often : CellData → List CellData → ℕ
often c cs = sum_by (λ d. cond {A = ℕ} (same_cell c d) 1 0) cs

never : (c : CellData) (cs : List CellData) → is_one c cs ≡ false → often c cs ≡ 0
never c [] e = refl
never c (d ∷ cs) e =
    let p : (same_cell c d ≡ false) × (is_one c cs ≡ false) = or_parts (same_cell c d) (is_one c cs) e in
    omega (arith, sum_by-cons (λ d. cond {A = ℕ} (same_cell c d) 1 0) d cs, cond-false {A = ℕ} (same_cell c d) 1 0 p.0, never c cs p.1)

module _ (w : Whole) (r : ℕ) (t : TreeData) (bounds : List ℕ) (of : IsOfRank w r t bounds) where
  abbrev ps : List Position
  ps = positions_of (own w r)

  abbrev cells : List CellData
  cells = cells_of t.nodes

  whole : HasNodesOnce (positions_of (own w r)) (cells_of t.nodes)
  whole = have_nodes ps cells of.tree.nodes.grown

  unfold-inside : (c : CellData) → inside_leaf (positions_of (own w r)) c ≡ Rattle.rank_laws.specs.Contents.inside_leaf (positions_of (own w r)) c
  unfolding inside_leaf
  unfold-inside c = refl

  own_cell : (c : CellData) → Among c (own_nodes w r) → IsCell c
  own_cell c h = let o : IsOwnNode w r c = is_own w r c h in node_cell (own w r) c of.tree.over.bodies.in_box o.low o.node

  own_in_tree : (c : CellData) → Among c (own_nodes w r) → Among c (cells_of t.nodes)
  own_in_tree c h =
      let o : IsOwnNode w r c = is_own w r c h in
      in_tree ps cells of.tree.nodes.grown c (own_cell c h) (and_from (is_node ps c) (not (inside_leaf ps c)) o.node (ap not (unfold-inside c ∙ o.outer)))

  tree_in_own : (c : CellData) → Among c (cells_of t.nodes) → Among c (own_nodes w r)
  tree_in_own c h =
      let i : IsCell c = each-among IsCell c cells whole.each h in
      let n : (is_node ps c ≡ true) × (not (inside_leaf ps c) ≡ true) = and_parts (is_node ps c) (not (inside_leaf ps c)) (tree_node ps cells of.tree.nodes.grown c h) in
      own_node w r c i.shallow n.0 (sym (unfold-inside c) ∙ not-true (inside_leaf ps c) n.1)

  times : (c : CellData) → often c (own_nodes w r) ≡ cond {A = ℕ} (is_one c (own_nodes w r)) 1 0
  unfolding own_nodes
  times c = in_order-times w.keys c _ ∙ ap {B = ℕ} (λ b. cond b 1 0) (sym (in_order-same w.keys c _))

  same_often : (c : CellData) → often c (cells_of t.nodes) ≡ often c (own_nodes w r)
  same_often c = by (is_one c (own_nodes w r)) refl
    where
      by : (b : Bool) → is_one c (own_nodes w r) ≡ b → often c (cells_of t.nodes) ≡ often c (own_nodes w r)
      by true e =
          let h : Among c (own_nodes w r) = one_among c (own_nodes w r) e in
          whole.once c (own_cell c h) ∙ cond-true {A = ℕ} (is_tree_node ps c) 1 0 (tree_node ps cells of.tree.nodes.grown c (own_in_tree c h)) ∙ sym (cond-true {A = ℕ} (is_one c (own_nodes w r)) 1 0 e) ∙ sym (times c)
      by false e = never c cells (none (is_one c cells) refl) ∙ sym (cond-false {A = ℕ} (is_one c (own_nodes w r)) 1 0 e) ∙ sym (times c)
        where
          none : (b : Bool) → is_one c (cells_of t.nodes) ≡ b → is_one c (cells_of t.nodes) ≡ false
          none true u = absurd (false≢true (sym e ∙ among_one c (own_nodes w r) (tree_in_own c (one_among c cells u))))
          none false u = u

  own_in_order : IsInOrder (keys_along bounds) (own_nodes w r)
  unfolding own_nodes
  own_in_order = subst (λ k. IsInOrder k (own_nodes w r)) of.keys (ascends w.keys _)

  pub nodes_are_own : cells_of t.nodes ≡ own_nodes w r
  nodes_are_own =
      one_order (keys_along bounds) cells (own_nodes w r) (in_order_too bounds cells (tree_order w.gravity.setup (own w r) t of.tree)) own_in_order
      (λ c d i j u v. are_told bounds c d (each-among IsCell c cells whole.each i) (own_cell d j) u v) same_often
