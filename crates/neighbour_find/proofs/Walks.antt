-- What the walk down a tree finds.
use Rattle.std.proofs.Common.{◌≡◌, ℕ, ◌+◌, ◌-◌, ◌<◌, ◌≤◌, ◌==◌, ◌&&◌, ◌||◌, not, List, [], ◌∷◌, ◌++◌, length, take, drop, map, filter, cond, Bool, true, false, refl, sym, ap, subst, ◌∙◌, arith}
use Rattle.std.specs.Prelude.{slice_index_or, nat_le}
use Rattle.std.specs.List.{AllByRecursion, flat_map, list_any}
use Rattle.std.proofs.lemmas.Bool.Decides.{nat_tests}
use Rattle.std.proofs.lemmas.List.{append-nil, append_assoc, map-append, length-map, get_or-map, get_or-take, get_or-drop, take_all, take_more}
use Rattle.std.proofs.lemmas.List.Elements.{filter-append}
use Rattle.cell_space.specs.Cells.{CellData, InBox, Position, contains, place, root_cell}
use Rattle.cell_space.proofs.Cells.{root_contains}
use Rattle.nbody_model.specs.Bodies.{BodyData}
use Rattle.nbody_model.specs.OpeningRule.{way, square}
use Rattle.hilbert_keys.specs.Curve.{children_along}
use Rattle.nbody_model.specs.Nodes.{positions_of, is_leaf, is_node, members}
use Rattle.octree_build.specs.Laws.{AreBeside}
use Rattle.octree_build.specs.Slots.{IsNode}
use Rattle.octree_build.specs.Sums.{AreLimited}
use Rattle.octree_build.specs.Trees.{IsGrown, IsNodeOf, IsOfBodies, NodeData, TreeData, cell_of_node, cells_of, first_child, inside_leaf, is_tree_node, opened}
use Rattle.octree_build.proofs.Alike.{grown_alike, opened_alike, first_alike}
use Rattle.octree_build.proofs.Asked.{node_range}
use Rattle.octree_build.proofs.Grown.{are_beside}
use Rattle.octree_build.proofs.Joined.{opened_members, flat_more}
use Rattle.octree_build.proofs.Seen.{limited}
use Rattle.neighbour_find.specs.declared.walk.Around.{Around}
use Rattle.neighbour_find.specs.Around.{IsFar, found, is_found}

-- ---- what is found in parts

pub found_join : (a : Around) (xs ys : List BodyData) → found a (xs ++ ys) ≡ found a xs ++ found a ys
found_join a xs ys = ap (map (λ (b : BodyData). b.id)) (filter-append (is_found a) xs ys) ∙ map-append (λ (b : BodyData). b.id) (filter (is_found a) xs) (filter (is_found a) ys)

not_found : (a : Around) (b : BodyData) → a.square < square (way (place a.pos) b.motion.pos) → is_found a b ≡ false
not_found a b h = and_false (not (a.id == b.id)) (nat_le (square (way (place a.pos) b.motion.pos)) a.square) (above (square (way (place a.pos) b.motion.pos)) a.square h)
  where
    above : (m n : ℕ) → n < m → nat_le m n ≡ false
    above m n h = grind (arith, nat_tests)

    and_false : (x y : Bool) → y ≡ false → (x && y) ≡ false
    and_false true y e = e
    and_false false y e = refl

-- nothing is found in a cell that is far
pub far_found : (a : Around) (c : CellData) (S : List BodyData) → AllByRecursion (λ b. InBox b.motion.pos) S → IsFar a c → found a (members S c) ≡ []
far_found a c [] i f = refl
far_found a c (b ∷ S) i f = by (contains c b.motion.pos) refl (far_found a c S i.1 f)
  where
    by : (t : Bool) → contains c b.motion.pos ≡ t → found a (members S c) ≡ [] → map (λ (b : BodyData). b.id) (filter (is_found a) (cond t (b ∷ members S c) (members S c))) ≡ []
    by true e rest = ap (λ t. map (λ (b : BodyData). b.id) (cond t (b ∷ filter (is_found a) (members S c)) (filter (is_found a) (members S c)))) (not_found a b (f b.motion.pos i.0 e)) ∙ rest
    by false e rest = rest

-- ---- the children of a node

no_leaf : (ps : List Position) (c : CellData) (b : Bool) → is_leaf ps c ≡ b → 1 ≤ length (opened ps c) → b ≡ false
unfolding opened
no_leaf ps c true e s = absurd (let none : length (opened ps c) ≡ 0 = ap (λ b. length (cond b [] (filter (is_node ps) (children_along c)))) e in omega (arith, s, none))
no_leaf ps c false e s = refl

module _ (t : TreeData) (h : IsOfBodies t) where
  abbrev cell : ℕ → NodeData → CellData
  cell i d = cell_of_node t.nodes i d

  pub kept : AreLimited t.bodies
  kept = limited h.setup.soft h.whole t.bodies h.tree.over

  grown : IsGrown (positions_of t.bodies) (cells_of t.nodes)
  grown = grown_alike h.whole t.bodies h.tree.over.along.permuted (cells_of t.nodes) h.tree.nodes.grown

  node : (i : ℕ) (d : NodeData) → i < length t.nodes → IsNodeOf h.setup h.whole t.bodies (cells_of t.nodes) i (slice_index_or t.nodes i d)
  node i d l = h.tree.nodes.each d i l

  abbrev kids : ℕ → NodeData → List CellData
  kids i d = opened (positions_of t.bodies) (cell i d)

  pub number_is : (i : ℕ) (d : NodeData) → i < length t.nodes → (slice_index_or t.nodes i d).number ≡ length (opened (positions_of t.bodies) (cell_of_node t.nodes i d))
  number_is i d l = (node i d l).number ∙ ap (λ f. length (f (cell_of_node t.nodes i d))) (opened_alike h.whole t.bodies h.tree.over.along.permuted)

  pub later : (i : ℕ) (d : NodeData) → i < length t.nodes → i < (slice_index_or t.nodes i d).first
  later i d l = (node i d l).later

  beside : (i : ℕ) (d : NodeData) → i < length t.nodes → AreBeside (positions_of t.bodies) (cells_of t.nodes) i (cell_of_node t.nodes i d)
  beside i d l =
      let long : i < length (cells_of t.nodes) = omega (arith, l, length-map t.nodes (λ (n : NodeData). n.moments.cell)) in
      subst (AreBeside (positions_of t.bodies) (cells_of t.nodes) i) (get_or-map (λ (n : NodeData). n.moments.cell) t.nodes i d (cell_of_node t.nodes i d) l) (are_beside (positions_of t.bodies) (cells_of t.nodes) grown (cell_of_node t.nodes i d) i long)

  -- the j-th child's cell
  pub child_cell : (i : ℕ) (d : NodeData) (k : ℕ) (e : NodeData) → i < length t.nodes → (slice_index_or t.nodes i d).first ≤ k → k < (slice_index_or t.nodes i d).first + (slice_index_or t.nodes i d).number → k < length t.nodes
      → cell_of_node t.nodes k e ≡ slice_index_or (opened (positions_of t.bodies) (cell_of_node t.nodes i d)) (k - (slice_index_or t.nodes i d).first) (cell_of_node t.nodes k e)
  child_cell i d k e l from to within =
      let c : CellData = cell_of_node t.nodes i d in
      let x : CellData = cell_of_node t.nodes k e in
      let ps = positions_of t.bodies in
      let first : (slice_index_or t.nodes i d).first ≡ first_child ps (cells_of t.nodes) i = (node i d l).first ∙ first_alike h.whole t.bodies h.tree.over.along.permuted (cells_of t.nodes) i in
      let j : ℕ = k - (slice_index_or t.nodes i d).first in
      let few : j < length (opened ps c) = omega (arith, from, to, number_is i d l) in
      let place : first_child ps (cells_of t.nodes) i + j ≡ k = omega (arith, from, first) in
      sym (get_or-map (λ (n : NodeData). n.moments.cell) t.nodes k e x within) ∙ ap (λ m. slice_index_or (cells_of t.nodes) m x) (sym place) ∙ sym (get_or-drop (first_child ps (cells_of t.nodes) i) (cells_of t.nodes) j x)
      ∙ sym (get_or-take (length (opened ps c)) (drop (first_child ps (cells_of t.nodes) i) (cells_of t.nodes)) j x few) ∙ ap (λ cs. slice_index_or cs j x) (beside i d l).are

  -- a node with children is no leaf
  inner : (i : ℕ) (d : NodeData) → 1 ≤ length (opened (positions_of t.bodies) (cell_of_node t.nodes i d)) → is_leaf (positions_of t.bodies) (cell_of_node t.nodes i d) ≡ false
  inner i d s = no_leaf (positions_of t.bodies) (cell_of_node t.nodes i d) (is_leaf (positions_of t.bodies) (cell_of_node t.nodes i d)) refl s

  -- what is found in the first children, one more, and all
  pub found_child : (a : Around) (i : ℕ) (d : NodeData) (k first number : ℕ) (start out more : List ℕ) → i < length t.nodes → first ≡ (slice_index_or t.nodes i d).first → number ≡ (slice_index_or t.nodes i d).number → first ≤ k → k < first + number → k < length t.nodes
      → out ≡ start ++ found a (flat_map (members t.bodies) (take (k - first) (opened (positions_of t.bodies) (cell_of_node t.nodes i d)))) → more ≡ out ++ found a (members t.bodies (cell_of_node t.nodes k d))
      → more ≡ start ++ found a (flat_map (members t.bodies) (take (k + 1 - first) (opened (positions_of t.bodies) (cell_of_node t.nodes i d))))
  found_child a i d k first number start out more l ef en from to within o m =
      let S : List BodyData = t.bodies in
      let cs : List CellData = opened (positions_of S) (cell_of_node t.nodes i d) in
      let x : CellData = cell_of_node t.nodes k d in
      let few : k - first < length cs = omega (arith, from, to, en, number_is i d l) in
      let up : k - first + 1 ≡ k + 1 - first = omega (arith, from) in
      let place : k - (slice_index_or t.nodes i d).first ≡ k - first = omega (arith, ef) in
      let child : x ≡ slice_index_or cs (k - first) x = child_cell i d k d l (omega (arith, from, ef)) (omega (arith, to, ef, en)) within ∙ ap (λ n. slice_index_or cs n x) place in
      m ∙ ap (λ xs. xs ++ found a (members S x)) o ∙ append_assoc start (found a (flat_map (members S) (take (k - first) cs))) (found a (members S x))
      ∙ ap (λ xs. start ++ xs) (sym (found_join a (flat_map (members S) (take (k - first) cs)) (members S x)) ∙ ap (found a) (sym (flat_more S cs (k - first) x few child)))
      ∙ ap (λ n. start ++ found a (flat_map (members S) (take n cs))) up

  pub found_all : (a : Around) (i : ℕ) (d : NodeData) (k first number : ℕ) (start out : List ℕ) → i < length t.nodes → number ≡ (slice_index_or t.nodes i d).number → 1 ≤ number → k ≡ first + number
      → out ≡ start ++ found a (flat_map (members t.bodies) (take (k - first) (opened (positions_of t.bodies) (cell_of_node t.nodes i d)))) → out ≡ start ++ found a (members t.bodies (cell_of_node t.nodes i d))
  found_all a i d k first number start out l en s e o =
      let S : List BodyData = t.bodies in
      let c : CellData = cell_of_node t.nodes i d in
      let cs : List CellData = opened (positions_of S) c in
      let whole : take (k - first) cs ≡ cs = take_all (k - first) cs (omega (arith, e, en, number_is i d l)) in
      let is : IsNode (positions_of S) c = (node_range h.setup h.whole t h.tree i d l).node in
      o ∙ ap (λ xs. start ++ found a (flat_map (members S) xs)) whole ∙ ap (λ ms. start ++ found a ms) (opened_members S c kept is (inner i d (omega (arith, s, en, number_is i d l))))

  pub far_node : (a : Around) (i : ℕ) (d : NodeData) (out : List ℕ) → IsFar a (cell_of_node t.nodes i d) → out ≡ out ++ found a (members t.bodies (cell_of_node t.nodes i d))
  far_node a i d out f = sym (append-nil out) ∙ ap (λ xs. out ++ xs) (sym (far_found a (cell_of_node t.nodes i d) t.bodies kept.in_box f))

pub found_none : (a : Around) (S : List BodyData) (cs : List CellData) (k first : ℕ) (out : List ℕ) → k ≡ first → out ≡ out ++ found a (flat_map (members S) (take (k - first) cs))
found_none a S cs k first out e = let none : k - first ≡ 0 = omega (arith, e) in sym (append-nil out) ∙ ap (λ n. out ++ found a (flat_map (members S) (take n cs))) (sym none)

pub found_one : (a : Around) (b : BodyData) (t : Bool) → is_found a b ≡ t → found a (b ∷ []) ≡ cond t (b.id ∷ []) []
found_one a b true e = ap (λ t. map (λ (b : BodyData). b.id) (cond t (b ∷ []) [])) e
found_one a b false e = ap (λ t. map (λ (b : BodyData). b.id) (cond t (b ∷ []) [])) e

pub found_more : (a : Around) (S : List BodyData) (i : ℕ) (b : BodyData) (start out more : List ℕ) → i < length S → slice_index_or S i b ≡ b → out ≡ start ++ found a (take i S) → more ≡ out ++ found a (b ∷ []) → more ≡ start ++ found a (take (i + 1) S)
found_more a S i b start out more l e o m =
    m ∙ ap (λ xs. xs ++ found a (b ∷ [])) o ∙ append_assoc start (found a (take i S)) (found a (b ∷ [])) ∙ ap (λ xs. start ++ xs) (sym (found_join a (take i S) (b ∷ [])) ∙ ap (λ x. found a (take i S ++ x ∷ [])) (sym e) ∙ ap (found a) (sym (take_more S i b l)))

-- the members of the whole box are all bodies
pub members_root : (S : List BodyData) → AllByRecursion (λ b. InBox b.motion.pos) S → members S root_cell ≡ S
members_root [] a = refl
members_root (b ∷ S) a = ap (λ t. cond t (b ∷ members S root_cell) (members S root_cell)) (root_contains b.motion.pos a.0) ∙ ap (λ xs. b ∷ xs) (members_root S a.1)

-- without a root there are no bodies
pub no_root : (S : List BodyData) → AllByRecursion (λ b. InBox b.motion.pos) S → is_tree_node (positions_of S) root_cell ≡ false → S ≡ []
unfolding is_node inside_leaf
no_root [] a e = refl
no_root (b ∷ S) a e = absurd (true_false (sym (ap (λ t. (t || list_any (contains root_cell) (positions_of S)) && true) (root_contains b.motion.pos a.0)) ∙ e))
  where
    true_false : true ≡ false → ⊥
    true_false e = cc

pub found_push : (a : Around) (b : BodyData) (id : ℕ) (out more : List ℕ) → is_found a b ≡ true → id ≡ b.id → more ≡ out ++ id ∷ [] → more ≡ out ++ found a (b ∷ [])
found_push a b id out more t e m = m ∙ ap (λ n. out ++ n ∷ []) e ∙ ap (λ xs. out ++ xs) (sym (found_one a b true t))

pub found_pass : (a : Around) (b : BodyData) (out : List ℕ) → is_found a b ≡ false → out ≡ out ++ found a (b ∷ [])
found_pass a b out t = sym (append-nil out) ∙ ap (λ xs. out ++ xs) (sym (found_one a b false t))
