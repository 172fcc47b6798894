-- What a tree answers.
use Rattle.std.proofs.Common.{◌≡◌, ℕ, [], ◌∷◌, ◌-◌, ◌*◌, ◌<◌, ◌≤◌, List, length, take, drop, ap, sym, ◌∙◌, arith}
use Rattle.std.specs.Prelude.{slice_index_or}
use Rattle.std.proofs.lemmas.List.{length-map}
use Rattle.std.proofs.lemmas.List.Sorted.{length_permutation}
use Rattle.cell_space.specs.Cells.{CellData}
use Rattle.nbody_model.specs.Bodies.{BodyData}
use Rattle.nbody_model.specs.Setups.{SetupData}
use Rattle.nbody_model.specs.Nodes.{positions_of, members}
use Rattle.node_moments.specs.Sums.{RawData}
use Rattle.node_moments.proofs.Order.{sums_free}
use Rattle.octree_build.specs.Trees.{IsGrown, NodeData, TreeData, cells_of, first_child, IsNodeOf, IsTree}
use Rattle.octree_build.specs.Sums.{AreLimited, IsRange, sum_in}
use Rattle.octree_build.proofs.Alike.{grown_alike}
use Rattle.octree_build.proofs.Few.{cells_few}
use Rattle.octree_build.proofs.Listed.{listed_node}
use Rattle.octree_build.proofs.Parts.{range_all}
use Rattle.octree_build.proofs.Seen.{limited}
use Rattle.octree_build.proofs.Ordered.{in_order}
use Rattle.octree_build.specs.Laws.{AreInOrder}

module _ (s : SetupData) (B : List BodyData) (t : TreeData) (h : IsTree s B t) where
  kept : AreLimited t.bodies
  kept = limited s.soft B t.bodies h.over

  grown : IsGrown (positions_of t.bodies) (cells_of t.nodes)
  grown = grown_alike B t.bodies h.over.along.permuted (cells_of t.nodes) h.nodes.grown

  pub node_range : (i : ℕ) (d : NodeData) → i < length t.nodes → IsRange t.bodies (slice_index_or t.nodes i d).moments.cell (slice_index_or t.nodes i d).low (slice_index_or t.nodes i d).high
  node_range i d l =
      let n : IsNodeOf s B t.bodies (cells_of t.nodes) i (slice_index_or t.nodes i d) = h.nodes.each d i l in
      let c : CellData = (slice_index_or t.nodes i d).moments.cell in
      record {
        limited = kept;
        node = listed_node (positions_of t.bodies) (cells_of t.nodes) grown i c (omega (arith, l, length-map t.nodes (λ n. n.moments.cell))) (n.cell c);
        begins = n.low;
        ends = n.high;
      }

  pub members_are : (i : ℕ) (d : NodeData) (ms : List BodyData) → i < length t.nodes → ms ≡ take ((slice_index_or t.nodes i d).high - (slice_index_or t.nodes i d).low) (drop (slice_index_or t.nodes i d).low t.bodies) → ms ≡ members t.bodies (slice_index_or t.nodes i d).moments.cell
  members_are i d ms l e = e ∙ range_all t.bodies (slice_index_or t.nodes i d).moments.cell (slice_index_or t.nodes i d).low (slice_index_or t.nodes i d).high (node_range i d l)

  pub raw_is : (r : RawData) (c : CellData) → r ≡ sum_in t.soft t.bodies c → r ≡ sum_in s.soft B c
  raw_is r c e = e ∙ ap (λ f. sum_in f t.bodies c) h.soft ∙ sym (sums_free s.soft B t.bodies h.over.along.permuted c c)

  pub tree_few : length t.nodes ≤ 33 * length B
  tree_few = omega (arith, length-map t.nodes (λ n. n.moments.cell), cells_few t.bodies kept (cells_of t.nodes) grown, length_permutation B t.bodies h.over.along.permuted)

  pub tree_order : AreInOrder (cells_of t.nodes)
  tree_order = in_order (positions_of B) (cells_of t.nodes) h.nodes.grown (λ i l. later i (omega (arith, l, length-map t.nodes (λ n. n.moments.cell))))
    where
      some : (xs : List NodeData) (i : ℕ) → i < length xs → NodeData
      some [] i l = absurd (omega (arith, l))
      some (x ∷ xs) i l = x

      later : (i : ℕ) → i < length t.nodes → i < first_child (positions_of B) (cells_of t.nodes) i
      later i l = let n : IsNodeOf s B t.bodies (cells_of t.nodes) i (slice_index_or t.nodes i (some t.nodes i l)) = h.nodes.each (some t.nodes i l) i l in omega (arith, n.first, n.later)
