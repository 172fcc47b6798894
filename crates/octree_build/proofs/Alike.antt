-- Nodes, leaves and trees don't look at the order of the bodies.
use Rattle.std.proofs.Common.{◌≡◌, ℕ, Bool, true, false, cond, List, [], ◌∷◌, ◌++◌, length, take, refl, sym, ◌∙◌, subst}
use Rattle.std.specs.List.{filter, flat_map, AllByRecursion}
use Rattle.std.specs.List.Sorted.{IsPermutation}
use Rattle.std.proofs.lemmas.List.Sorted.{IsPermutation-sym, All-permutation}
use Rattle.std.proofs.lemmas.List.Elements.{recursion_from_All, All-from_recursion}
use Rattle.std.proofs.lemmas.Bool.{false≢true, and_from}
use Rattle.cell_space.specs.Cells.{Position, CellData, root_cell, contains, same_place}
use Rattle.cell_space.proofs.Cells.{both_equal}
use Rattle.hilbert_keys.specs.Curve.{children_along}
use Rattle.nbody_model.specs.Bodies.{BodyData}
use Rattle.nbody_model.specs.Nodes.{positions_of, is_node, is_leaf}
use Rattle.model_laws.proofs.Among.{Among, Witness, any-witness, any-among, among-kept, among-map, each-among}
use Rattle.model_laws.proofs.Cancel.{BodyAt, body_at}
use Rattle.model_laws.proofs.Leaves.{leaf_apart}
use Rattle.model_laws.proofs.Pairs.{all_among}
use Rattle.octree_build.specs.Trees.{opened, top, IsGrown, first_child}
use Rattle.octree_build.proofs.LeafTests.{one_place-from}

pub permuted_among : (A B : List BodyData) → IsPermutation A B → (b : BodyData) → Among b B → Among b A
permuted_among A B p b h =
    let a : AllByRecursion (λ x. Among x A) A = all_among (λ x. Among x A) A (λ x i. i) in
    each-among (λ x. Among x A) b B (recursion_from_All (λ x. Among x A) B (All-permutation (λ x. Among x A) A B p (All-from_recursion (λ x. Among x A) A a))) h

position_among : (A B : List BodyData) → IsPermutation A B → (p : Position) → Among p (positions_of B) → Among p (positions_of A)
position_among A B q p h =
    let b : BodyAt p B = body_at p B h in
    subst (λ t. Among t (positions_of A)) b.at (among-map (λ x. x.motion.pos) b.it A (permuted_among A B q b.it b.«in»))

no_accept : CellData → CellData → Bool
no_accept a b = false

module _ (c : CellData) where
  node_too : (A B : List BodyData) → IsPermutation A B → is_node (positions_of B) c ≡ true → is_node (positions_of A) c ≡ true
  unfolding is_node
  node_too A B p e =
      let w : Witness (contains c) (positions_of B) = any-witness (contains c) (positions_of B) e in
      any-among (contains c) w.it (positions_of A) (position_among A B p w.it w.«in») w.passes

  pub node_alike : (A B : List BodyData) → IsPermutation A B → is_node (positions_of A) c ≡ is_node (positions_of B) c
  node_alike A B p = both_equal (is_node (positions_of A) c) (is_node (positions_of B) c) (node_too B A (IsPermutation-sym A B p)) (node_too A B p)

  leaf_too : (A B : List BodyData) → IsPermutation A B → is_leaf (positions_of B) c ≡ true → is_leaf (positions_of A) c ≡ true
  unfolding is_leaf
  leaf_too A B p e = one_place-from (filter (contains c) (positions_of A)) (λ u v i j. by u v (among-kept (contains c) u (positions_of A) i) (among-kept (contains c) v (positions_of A) j) (same_place u v) refl)
    where
      by : (u v : Position) → Among u (positions_of A) × (contains c u ≡ true) → Among v (positions_of A) × (contains c v ≡ true) → (b : Bool) → same_place u v ≡ b → same_place u v ≡ true
      by u v i j true s = s
      by u v i j false s = absurd (false≢true (sym (leaf_apart (record { positions = positions_of B; accept = no_accept }) u v (position_among B A (IsPermutation-sym A B p) u i.0) (position_among B A (IsPermutation-sym A B p) v j.0) s c e) ∙ and_from (contains c u) (contains c v) i.1 j.1))

  pub leaf_alike : (A B : List BodyData) → IsPermutation A B → is_leaf (positions_of A) c ≡ is_leaf (positions_of B) c
  leaf_alike A B p = both_equal (is_leaf (positions_of A) c) (is_leaf (positions_of B) c) (leaf_too B A (IsPermutation-sym A B p)) (leaf_too A B p)

module _ (A B : List BodyData) (p : IsPermutation A B) where
  nodes_alike : is_node (positions_of A) ≡ is_node (positions_of B)
  nodes_alike = λ i c. node_alike c A B p i

  pub opened_alike : opened (positions_of A) ≡ opened (positions_of B)
  unfolding opened
  opened_alike = λ i c. cond (leaf_alike c A B p i) [] (filter (nodes_alike i) (children_along c))

  top_alike : top (positions_of A) ≡ top (positions_of B)
  top_alike = λ i. filter (nodes_alike i) (root_cell ∷ [])

  pub grown_alike : (cells : List CellData) → IsGrown (positions_of A) cells → IsGrown (positions_of B) cells
  grown_alike cells g = record { grown = g.grown ∙ (λ i. top_alike i ++ flat_map (opened_alike i) cells) }

  pub first_alike : (cells : List CellData) (k : ℕ) → first_child (positions_of A) cells k ≡ first_child (positions_of B) cells k
  first_alike cells k = λ i. length (top_alike i ++ flat_map (opened_alike i) (take k cells))
