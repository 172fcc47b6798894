-- The entries of a tree's nodes, one by one.
use Rattle.std.proofs.Common.{◌≡◌, ℕ, ◌+◌, ◌<◌, ◌≤◌, Bool, true, false, cond, eqb, ◌&&◌, ◌||◌, List, [], ◌∷◌, ◌++◌, map, take, length, pos, ap, sym, ◌∙◌, arith}
use Rattle.std.specs.Prelude.{slice_index_or}
use Rattle.std.specs.List.{filter}
use Rattle.std.proofs.lemmas.List.{take_more, take_all, length-map, get_or-map, map-append, append-nil}
use Rattle.std.proofs.lemmas.List.Elements.{filter-append}
use Rattle.cell_space.specs.Cells.{CellData, root_cell}
use Rattle.nbody_model.specs.Moments.{moments}
use Rattle.octree_build.specs.Trees.{NodeData, TreeData, IsTree, IsNodeOf, cells_of, cell_of_node}
use Rattle.rank_laws.specs.Homes.{home, in_span}
use Rattle.rank_laws.specs.Whole.{Whole, own}
use Rattle.rank_laws.specs.Contents.{EntryData, entry_of, is_told}
use Rattle.rank_curve_laws.specs.Along.{keys_along}
use Rattle.home_cells.specs.Entries.{IsOfRank, AreEntriesFor, is_told_by}
use Rattle.home_cells.proofs.Own.{nodes_are_own}

-- a node with nothing in it, for places that no list has
pub empty : NodeData
empty = record { moments = record { cell = root_cell; leaf = false; mass = 0; centre = record { x = 0; y = 0; z = 0 }; quad = record { xx = pos 0; yy = pos 0; zz = pos 0; xy = pos 0; xz = pos 0; yz = pos 0 }; eps = 0 }; first = 0; number = 0; low = 0; high = 0 }

-- a node is told by its moments as by its cell
told_as : (w : Whole) (r : ℕ) (t : TreeData) (bounds : List ℕ) → IsOfRank w r t bounds → (to i : ℕ) (d : NodeData) → i < length t.nodes → is_told_by bounds to (slice_index_or t.nodes i d).moments ≡ is_told w r to (cell_of_node t.nodes i d)
unfolding moments
told_as w r t bounds of to i d h =
    let n : IsNodeOf w.gravity.setup (own w r) t.bodies (cells_of t.nodes) i (slice_index_or t.nodes i d) = of.tree.nodes.each d i h in
    let c : CellData = cell_of_node t.nodes i d in
    let k : keys_along bounds ≡ w.keys = sym of.keys in
    λ j. eqb (home (k j) c) to || (ap (λ m. m.leaf) n.moments j && in_span (k j) to c)

-- the entries of the first nodes
abbrev pub AreSoFar : TreeData → List ℕ → ℕ → ℕ → List EntryData → Type 0
AreSoFar t bounds to i es = (w : Whole) (r : ℕ) → IsOfRank w r t bounds → es ≡ map (entry_of w (own w r)) (filter (is_told w r to) (take i (cells_of t.nodes)))

module _ (t : TreeData) (bounds : List ℕ) (to i : ℕ) (d : NodeData) (here : i < length t.nodes) (es : List EntryData) (so : AreSoFar t bounds to i es) (b : Bool) (told : (d : NodeData) → b ≡ is_told_by bounds to (slice_index_or t.nodes i d).moments) where
  abbrev c : CellData
  c = cell_of_node t.nodes i d

  next : (u : CellData → Bool) → filter u (take (i + 1) (cells_of t.nodes)) ≡ filter u (take i (cells_of t.nodes)) ++ cond (u (cell_of_node t.nodes i d)) (cell_of_node t.nodes i d ∷ []) []
  next u =
      let l : i < length (cells_of t.nodes) = omega (arith, here, length-map t.nodes (λ n. n.moments.cell)) in
      ap (filter u) (take_more (cells_of t.nodes) i c l ∙ ap (λ x. take i (cells_of t.nodes) ++ x ∷ []) (get_or-map (λ n. n.moments.cell) t.nodes i d c here))
      ∙ filter-append u (take i (cells_of t.nodes)) (c ∷ [])

  pub more : (e : EntryData) → b ≡ true → ((w : Whole) (r : ℕ) → IsTree w.gravity.setup (own w r) t → (d : NodeData) → e ≡ entry_of w (own w r) (cell_of_node t.nodes i d)) → AreSoFar t bounds to (i + 1) (es ++ e ∷ [])
  more e q is w r of =
      let v : is_told w r to c ≡ true = sym (told_as w r t bounds of to i d here) ∙ sym (told d) ∙ q in
      (λ j. so w r of j ++ is w r of.tree d j ∷ [])
      ∙ sym (map-append (entry_of w (own w r)) (filter (is_told w r to) (take i (cells_of t.nodes))) (c ∷ []))
      ∙ ap (map (entry_of w (own w r))) (ap (λ x. filter (is_told w r to) (take i (cells_of t.nodes)) ++ cond x (c ∷ []) []) (sym v) ∙ sym (next (is_told w r to)))

  pub no_more : b ≡ false → AreSoFar t bounds to (i + 1) es
  no_more q w r of =
      let v : is_told w r to c ≡ false = sym (told_as w r t bounds of to i d here) ∙ sym (told d) ∙ q in
      so w r of
      ∙ ap (map (entry_of w (own w r))) (sym (append-nil (filter (is_told w r to) (take i (cells_of t.nodes)))) ∙ ap (λ x. filter (is_told w r to) (take i (cells_of t.nodes)) ++ cond x (c ∷ []) []) (sym v) ∙ sym (next (is_told w r to)))

pub whole : (t : TreeData) (bounds : List ℕ) (to i : ℕ) (es : List EntryData) → length t.nodes ≤ i → AreSoFar t bounds to i es → AreEntriesFor t bounds to es
whole t bounds to i es h so w r of =
    so w r of
    ∙ ap (λ cs. map (entry_of w (own w r)) (filter (is_told w r to) cs)) (take_all i (cells_of t.nodes) (omega (arith, h, length-map t.nodes (λ n. n.moments.cell))) ∙ nodes_are_own w r t bounds of)
