use Rattle.std.proofs.Common.{◌-◌, length, sym, subst, ap, ◌∙◌, arith}
use Rattle.std.specs.Prelude.{slice_index_or}
use Rattle.octree_build.specs.Slots.{SlotData}
use Rattle.octree_build.specs.Sums.{HaveChildSums, sum_in}
use Rattle.octree_build.proofs.Made.{slot_range, end_within, number_is, child_sums, cell_there, at_any}
use Rattle.octree_build.proofs.Summed.{range_as}
use Rattle.octree_build.proofs.sums.sum_at.Goals as goal

pub sum_of_range-requires : goal.sum_of_range-requires
sum_of_range-requires c =
    let x : SlotData = c.read-cell.ensures.0 in
    range_as c.args.all.now.bodies.now c.read-cell.result.0 x.cell c.read-cell.result.1 c.read-cell.result.2 x.low x.high
    (slot_range c.args.soft.now c.args.all.now.bodies.now c.args.all.now.slots.now c.args.all.now.firsts.now c.requires.whole c.requires.growth c.args.i c.requires.place x c.read-cell.ensures.1)
    c.read-cell.ensures.2 c.read-cell.ensures.3 c.read-cell.ensures.4

pub returns-then-first-end : goal.returns-then-first-end
returns-then-first-end c = λ d. c.sum_of_range.ensures ∙ ap (sum_in c.args.soft.now c.args.all.now.bodies.now) (c.read-cell.ensures.2 ∙ cell_there c.args.soft.now c.args.all.now.bodies.now c.args.all.now.slots.now c.args.all.now.firsts.now c.requires.whole c.requires.growth c.args.i c.requires.place c.read-cell.ensures.0 c.read-cell.ensures.1 d)

pub overflow_sub-end : goal.overflow_sub-end
overflow_sub-end c = omega (
  arith,
  number_is c.args.soft.now c.args.all.now.bodies.now c.args.all.now.slots.now c.args.all.now.firsts.now c.requires.whole c.requires.growth c.args.i c.requires.place c.read-cell.ensures.0 c.read-cell.ensures.1
      (slice_index_or c.args.all.now.firsts.now c.args.i 0) c.end_of_children-end.result (at_any c.args.all.now.firsts.now c.args.i (omega (arith, c.requires.growth.begins.long, c.requires.place))) (c.end_of_children-end.ensures c.args.all.now.bodies.now c.args.all.now.slots.now c.requires.growth),
)

pub overflow_sub-all : goal.overflow_sub-all
overflow_sub-all c = omega (
  arith,
  number_is c.args.soft.now c.args.all.now.bodies.now c.args.all.now.slots.now c.args.all.now.firsts.now c.requires.whole c.requires.growth c.args.i c.requires.place c.read-cell.ensures.0 c.read-cell.ensures.1
      (slice_index_or c.args.all.now.firsts.now c.args.i 0) c.end_of_children-end.result (at_any c.args.all.now.firsts.now c.args.i (omega (arith, c.requires.growth.begins.long, c.requires.place))) (c.end_of_children-end.ensures c.args.all.now.bodies.now c.args.all.now.slots.now c.requires.growth),
  end_within c.args.soft.now c.args.all.now.bodies.now c.args.all.now.slots.now c.args.all.now.firsts.now c.requires.whole c.requires.growth c.args.i c.requires.place c.read-cell.ensures.0 c.read-cell.ensures.1
      (slice_index_or c.args.all.now.firsts.now c.args.i 0) c.end_of_children-end.result (at_any c.args.all.now.firsts.now c.args.i (omega (arith, c.requires.growth.begins.long, c.requires.place))) (c.end_of_children-end.ensures c.args.all.now.bodies.now c.args.all.now.slots.now c.requires.growth),
)

pub sum_of_children-requires : goal.sum_of_children-requires
sum_of_children-requires c = (
  c.args.soft.now,
  c.args.all.now.bodies.now,
  subst (λ t. HaveChildSums c.args.soft.now c.args.all.now.bodies.now t c.args.raws.now (length c.args.all.now.slots.now - slice_index_or c.args.all.now.firsts.now c.args.i 0) (c.end_of_children-end.result - slice_index_or c.args.all.now.firsts.now c.args.i 0)) (sym c.read-cell.ensures.2)
      (child_sums c.args.soft.now c.args.all.now.bodies.now c.args.all.now.slots.now c.args.all.now.firsts.now c.requires.whole c.requires.growth c.args.i c.requires.place c.read-cell.ensures.0 c.read-cell.ensures.1
      (slice_index_or c.args.all.now.firsts.now c.args.i 0) c.end_of_children-end.result (at_any c.args.all.now.firsts.now c.args.i (omega (arith, c.requires.growth.begins.long, c.requires.place))) (c.end_of_children-end.ensures c.args.all.now.bodies.now c.args.all.now.slots.now c.requires.growth)
      c.args.raws.now c.requires.sums c.if-first-end.false),
)

pub returns : goal.returns
returns c = λ d. c.sum_of_children.ensures c.args.soft.now c.args.all.now.bodies.now (subst (λ t. HaveChildSums c.args.soft.now c.args.all.now.bodies.now t c.args.raws.now (length c.args.all.now.slots.now - slice_index_or c.args.all.now.firsts.now c.args.i 0) (c.end_of_children-end.result - slice_index_or c.args.all.now.firsts.now c.args.i 0)) (sym c.read-cell.ensures.2)
    (child_sums c.args.soft.now c.args.all.now.bodies.now c.args.all.now.slots.now c.args.all.now.firsts.now c.requires.whole c.requires.growth c.args.i c.requires.place c.read-cell.ensures.0 c.read-cell.ensures.1
    (slice_index_or c.args.all.now.firsts.now c.args.i 0) c.end_of_children-end.result (at_any c.args.all.now.firsts.now c.args.i (omega (arith, c.requires.growth.begins.long, c.requires.place))) (c.end_of_children-end.ensures c.args.all.now.bodies.now c.args.all.now.slots.now c.requires.growth)
    c.args.raws.now c.requires.sums c.if-first-end.false)) ∙ ap (sum_in c.args.soft.now c.args.all.now.bodies.now) (c.read-cell.ensures.2 ∙ cell_there c.args.soft.now c.args.all.now.bodies.now c.args.all.now.slots.now c.args.all.now.firsts.now c.requires.whole c.requires.growth c.args.i c.requires.place c.read-cell.ensures.0 c.read-cell.ensures.1 d)
