use Rattle.std.proofs.Common.{◌≡◌, sym, subst, ap, ◌∙◌}
use Rattle.std.specs.Prelude.{slice_index_or}
use Rattle.std.proofs.lemmas.List.{get_or_default}
use Rattle.octree_build.specs.Trees.{NodeData, TreeData}
use Rattle.octree_build.specs.Sums.{IsRange, sum_in}
use Rattle.octree_build.proofs.Asked.{node_range, raw_is}
use Rattle.octree_build.proofs.Summed.{range_as}
use Rattle.octree_build.proofs.tree.Tree.raw.Goals as goal

pub sum_of_range-requires : goal.sum_of_range-requires
sum_of_range-requires c =
    let x : NodeData = c.range_at-cell.ensures.0 in
    let t : TreeData = c.args.self.now in
    let q : x ≡ slice_index_or t.nodes c.args.i x = c.range_at-cell.ensures.1 ∙ ap (λ l. slice_index_or l c.args.i x) (c.deref.ensures.value ∙ ap (λ (t : TreeData). t.nodes) c.self.view_is) in
    subst (λ S. IsRange S c.range_at-cell.result.0 c.range_at-cell.result.1 c.range_at-cell.result.2) (sym (c.deref-2.ensures.value ∙ ap (λ (t : TreeData). t.bodies) c.self.view_is))
    (range_as t.bodies c.range_at-cell.result.0 (slice_index_or t.nodes c.args.i x).moments.cell c.range_at-cell.result.1 c.range_at-cell.result.2 (slice_index_or t.nodes c.args.i x).low (slice_index_or t.nodes c.args.i x).high
    (node_range c.requires.tree.setup c.requires.tree.whole t c.requires.tree.tree c.args.i x c.requires.place)
    (c.range_at-cell.ensures.2 ∙ ap (λ (n : NodeData). n.moments.cell) q) (c.range_at-cell.ensures.3 ∙ ap (λ (n : NodeData). n.low) q) (c.range_at-cell.ensures.4 ∙ ap (λ (n : NodeData). n.high) q))

pub returns : goal.returns
returns c = λ s B h d.
    let x : NodeData = c.range_at-cell.ensures.0 in
    let t : TreeData = c.args.self.now in
    let q : x ≡ slice_index_or t.nodes c.args.i x = c.range_at-cell.ensures.1 ∙ ap (λ l. slice_index_or l c.args.i x) (c.deref.ensures.value ∙ ap (λ (t : TreeData). t.nodes) c.self.view_is) in
    let cell : c.range_at-cell.result.0 ≡ (slice_index_or t.nodes c.args.i d).moments.cell = c.range_at-cell.ensures.2 ∙ ap (λ (n : NodeData). n.moments.cell) (q ∙ get_or_default t.nodes c.args.i x d c.requires.place) in
    raw_is s B t h c.sum_of_range.result (slice_index_or t.nodes c.args.i d).moments.cell
    (c.sum_of_range.ensures ∙ (λ i. sum_in (ap (λ (t : TreeData). t.soft) c.self.view_is i) ((c.deref-2.ensures.value ∙ ap (λ (t : TreeData). t.bodies) c.self.view_is) i) (cell i)))
