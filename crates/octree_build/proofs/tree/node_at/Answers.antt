use Rattle.std.proofs.Common.{◌-◌, sym, subst, arith}
use Rattle.std.specs.Prelude.{slice_index_or}
use Rattle.octree_build.specs.Slots.{cells_in}
use Rattle.octree_build.specs.Trees.{IsNodeOf}
use Rattle.octree_build.proofs.Parts.{range_some, range_within}
use Rattle.octree_build.proofs.Made.{slot_range, few_cells, number_is, end_within, raw_node, node_made, at_any}
use Rattle.octree_build.proofs.tree.node_at.Goals as goal

pub moments-requires : goal.moments-requires
moments-requires c = raw_node c.requires.made.0 c.args.all.now.bodies.now c.args.all.now.slots.now c.args.all.now.firsts.now c.requires.made.1.whole c.requires.made.1.growth c.args.i c.requires.place c.read-cell.ensures.0 c.read-cell.ensures.1 c.args.raws.now c.requires.made.1.sums c.index-raws-at.result c.index-raws-at.is

pub overflow_sub-result : goal.overflow_sub-result
overflow_sub-result c = omega (
  arith,
  number_is c.requires.made.0 c.args.all.now.bodies.now c.args.all.now.slots.now c.args.all.now.firsts.now c.requires.made.1.whole c.requires.made.1.growth c.args.i c.requires.place c.read-cell.ensures.0 c.read-cell.ensures.1
      (slice_index_or c.args.all.now.firsts.now c.args.i 0) c.end_of_children-end.result (at_any c.args.all.now.firsts.now c.args.i (omega (arith, c.requires.made.1.growth.begins.long, c.requires.place))) (c.end_of_children-end.ensures c.args.all.now.bodies.now c.args.all.now.slots.now c.requires.made.1.growth),
)

pub overflow_cast-result : goal.overflow_cast-result
overflow_cast-result c = omega (
  arith,
  few_cells c.requires.made.0 c.args.all.now.bodies.now c.args.all.now.slots.now c.args.all.now.firsts.now c.requires.made.1.whole c.requires.made.1.growth c.args.i c.requires.place c.read-cell.ensures.0 c.read-cell.ensures.1,
  number_is c.requires.made.0 c.args.all.now.bodies.now c.args.all.now.slots.now c.args.all.now.firsts.now c.requires.made.1.whole c.requires.made.1.growth c.args.i c.requires.place c.read-cell.ensures.0 c.read-cell.ensures.1
      (slice_index_or c.args.all.now.firsts.now c.args.i 0) c.end_of_children-end.result (at_any c.args.all.now.firsts.now c.args.i (omega (arith, c.requires.made.1.growth.begins.long, c.requires.place))) (c.end_of_children-end.ensures c.args.all.now.bodies.now c.args.all.now.slots.now c.requires.made.1.growth),
  end_within c.requires.made.0 c.args.all.now.bodies.now c.args.all.now.slots.now c.args.all.now.firsts.now c.requires.made.1.whole c.requires.made.1.growth c.args.i c.requires.place c.read-cell.ensures.0 c.read-cell.ensures.1
      (slice_index_or c.args.all.now.firsts.now c.args.i 0) c.end_of_children-end.result (at_any c.args.all.now.firsts.now c.args.i (omega (arith, c.requires.made.1.growth.begins.long, c.requires.place))) (c.end_of_children-end.ensures c.args.all.now.bodies.now c.args.all.now.slots.now c.requires.made.1.growth),
)

pub overflow_cast-result-2 : goal.overflow_cast-result-2
overflow_cast-result-2 c = omega (
  arith,
  few_cells c.requires.made.0 c.args.all.now.bodies.now c.args.all.now.slots.now c.args.all.now.firsts.now c.requires.made.1.whole c.requires.made.1.growth c.args.i c.requires.place c.read-cell.ensures.0 c.read-cell.ensures.1,
  end_within c.requires.made.0 c.args.all.now.bodies.now c.args.all.now.slots.now c.args.all.now.firsts.now c.requires.made.1.whole c.requires.made.1.growth c.args.i c.requires.place c.read-cell.ensures.0 c.read-cell.ensures.1
      (slice_index_or c.args.all.now.firsts.now c.args.i 0) c.end_of_children-end.result (at_any c.args.all.now.firsts.now c.args.i (omega (arith, c.requires.made.1.growth.begins.long, c.requires.place))) (c.end_of_children-end.ensures c.args.all.now.bodies.now c.args.all.now.slots.now c.requires.made.1.growth),
)

pub overflow_cast-result-3 : goal.overflow_cast-result-3
overflow_cast-result-3 c =
    let r = slot_range c.requires.made.0 c.args.all.now.bodies.now c.args.all.now.slots.now c.args.all.now.firsts.now c.requires.made.1.whole c.requires.made.1.growth c.args.i c.requires.place c.read-cell.ensures.0 c.read-cell.ensures.1 in
    omega (arith, c.read-cell.ensures.3, r.limited.few, range_some c.args.all.now.bodies.now c.read-cell.ensures.0.cell c.read-cell.ensures.0.low c.read-cell.ensures.0.high r, range_within c.args.all.now.bodies.now c.read-cell.ensures.0.cell c.read-cell.ensures.0.low c.read-cell.ensures.0.high r)

pub overflow_cast-result-4 : goal.overflow_cast-result-4
overflow_cast-result-4 c =
    let r = slot_range c.requires.made.0 c.args.all.now.bodies.now c.args.all.now.slots.now c.args.all.now.firsts.now c.requires.made.1.whole c.requires.made.1.growth c.args.i c.requires.place c.read-cell.ensures.0 c.read-cell.ensures.1 in
    omega (arith, c.read-cell.ensures.4, r.limited.few, range_within c.args.all.now.bodies.now c.read-cell.ensures.0.cell c.read-cell.ensures.0.low c.read-cell.ensures.0.high r)

pub returns : goal.returns
returns c = λ s B o m.
    subst (λ n. IsNodeOf s B c.args.all.now.bodies.now (cells_in c.args.all.now.slots.now) c.args.i n)
    (λ j. record { moments = c.moments.result; first = slice_index_or c.args.all.now.firsts.now c.args.i 0; number = c.end_of_children-end.result - slice_index_or c.args.all.now.firsts.now c.args.i 0; low = sym c.read-cell.ensures.3 j; high = sym c.read-cell.ensures.4 j })
    (node_made s B c.args.all.now.bodies.now c.args.all.now.slots.now c.args.all.now.firsts.now c.args.raws.now m o c.args.i c.requires.place c.read-cell.ensures.0 c.read-cell.ensures.1
    (slice_index_or c.args.all.now.firsts.now c.args.i 0) c.end_of_children-end.result (at_any c.args.all.now.firsts.now c.args.i (omega (arith, m.growth.begins.long, c.requires.place))) (c.end_of_children-end.ensures c.args.all.now.bodies.now c.args.all.now.slots.now m.growth)
    c.index-raws-at.result c.index-raws-at.is c.moments.result (c.moments.ensures s B))
