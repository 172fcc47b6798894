-- The cells that a grown list has.
use Rattle.std.proofs.Common.{◌≡◌, ℕ, ◌<◌, ◌≤◌, Bool, true, false, cond, not, List, [], ◌∷◌, length, refl, ap, sym, ◌∙◌, subst, arith, inl, inr}
use Rattle.std.specs.Prelude.{slice_index_or}
use Rattle.std.specs.List.{count_by}
use Rattle.std.proofs.lemmas.Bool.{and_parts, cond-true, cond-false}
use Rattle.std.proofs.lemmas.List.Sums.{sum_by-cons}
use Rattle.cell_space.specs.Cells.{Position, CellData, same_cell}
use Rattle.cell_space.proofs.Cells.{same_cell-exact}
use Rattle.hilbert_keys.specs.Curve.{IsCell}
use Rattle.nbody_model.specs.Nodes.{is_node}
use Rattle.model_laws.proofs.Among.{Among, Witness, among-le, each-among}
use Rattle.octree_build.specs.Trees.{IsGrown, inside_leaf, is_tree_node}
use Rattle.octree_build.specs.Laws.{HasNodesOnce}
use Rattle.octree_build.specs.Slots.{IsNode}
use Rattle.octree_build.proofs.Once.{have_nodes}
use Rattle.octree_build.proofs.Edges.{among-at}

counted : {X : Type 0} (t : X → Bool) (xs : List X) → count_by t xs ≡ 1 → Witness t xs
counted t [] e = absurd (omega (arith, e))
counted t (x ∷ xs) e = by (t x) refl (λ u. counted t xs u)
  where
    more : Witness t xs → Witness t (x ∷ xs)
    more w = record { it = w.it; «in» = inr w.«in»; passes = w.passes }

    by : (b : Bool) → t x ≡ b → (count_by t xs ≡ 1 → Witness t xs) → Witness t (x ∷ xs)
    by true u rest = record { it = x; «in» = inl refl; passes = u }
    by false u rest = more (rest (omega (arith, e, sum_by-cons (λ x. cond (t x) 1 0) x xs, ap {B = ℕ} (λ b. cond b 1 0) u)))

module _ (ps : List Position) (cells : List CellData) (g : IsGrown ps cells) where
  -- each node that isn't strictly inside a leaf is listed
  pub in_tree : (c : CellData) → IsCell c → is_tree_node ps c ≡ true → Among c cells
  in_tree c i e =
      let w : Witness (same_cell c) cells = counted (same_cell c) cells ((have_nodes ps cells g).once c i ∙ cond-true {A = ℕ} (is_tree_node ps c) 1 0 e) in
      subst (λ t. Among t cells) (sym ((same_cell-exact c w.it).0 w.passes)) w.«in»

  -- and nothing else
  pub tree_node : (c : CellData) → Among c cells → is_tree_node ps c ≡ true
  tree_node c h = by (is_tree_node ps c) refl
    where
      by : (b : Bool) → is_tree_node ps c ≡ b → b ≡ true
      by true e = refl
      by false e = absurd (let n : HasNodesOnce ps cells = have_nodes ps cells g in
          let i : IsCell c = each-among IsCell c cells n.each h in
          let z : count_by (same_cell c) cells ≡ 0 = n.once c i ∙ cond-false {A = ℕ} (is_tree_node ps c) 1 0 e in
          let o : cond (same_cell c c) 1 0 ≤ count_by (same_cell c) cells = among-le (λ x. cond (same_cell c x) 1 0) c cells h in
          let s : ◌≡◌ {A = ℕ} (cond (same_cell c c) 1 0) 1 = cond-true {A = ℕ} (same_cell c c) 1 0 ((same_cell-exact c c).1 refl) in
          omega (arith, z, o, s))

  pub listed_node : (i : ℕ) (c : CellData) → i < length cells → c ≡ slice_index_or cells i c → IsNode ps c
  listed_node i c h e =
      let a : Among c cells = subst (λ t. Among t cells) (sym e) (among-at c cells i h) in
      record { cell = each-among IsCell c cells (have_nodes ps cells g).each a; node = (and_parts (is_node ps c) (not (inside_leaf ps c)) (tree_node c a)).0 }
