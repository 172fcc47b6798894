use Rattle.std.proofs.Common.{arith}
use Rattle.octree_build.proofs.Children.{child_some, child, child_sum, first_sum, first_child_sum, same_cells, children_room, children_light, next_child_sum, all_child_sums}
use Rattle.octree_build.proofs.sums.sum_of_children.Goals as goal

pub overflow_sub-top : goal.overflow_sub-top
overflow_sub-top c = omega (arith, c.requires.2.below, child_some c.requires.0 c.requires.1 c.args.cell.now c.args.raws.now c.args.top c.args.number c.requires.2)

pub bounds-raws-top : goal.bounds-raws-top
bounds-raws-top c = omega (arith, c.requires.2.below, c.requires.2.within, child_some c.requires.0 c.requires.1 c.args.cell.now c.args.raws.now c.args.top c.args.number c.requires.2)

pub seen_from-sum-requires : goal.seen_from-sum-requires
seen_from-sum-requires c = (c.requires.0, c.requires.1, child c.requires.0 c.requires.1 c.args.cell.now c.args.raws.now c.args.top c.args.number c.requires.2 0, first_sum c.requires.0 c.requires.1 c.args.cell.now c.args.raws.now c.args.top c.args.number c.requires.2 c.index-raws-top.result c.index-raws-top.is)

pub loop-j-init : goal.loop-j-init
loop-j-init c = λ soft S h. first_child_sum soft S c.args.cell.now c.args.raws.now c.args.top c.args.number h c.index-raws-top.result c.seen_from-sum.result c.index-raws-top.is c.seen_from-sum.ensures

pub seen_from-requires : goal.seen_from-requires
seen_from-requires c = (c.requires.0, c.requires.1, child c.requires.0 c.requires.1 c.args.cell.now c.args.raws.now c.args.top c.args.number c.requires.2 c.loop-j.j, child_sum c.requires.0 c.requires.1 c.args.cell.now c.args.raws.now c.args.top c.args.number c.requires.2 c.loop-j.j c.index-raws-at.result c.loop-j-test.true c.index-raws-at.is)

pub add-sum-requires-clause-same_cell : goal.add-sum-requires-clause-same_cell
add-sum-requires-clause-same_cell c = same_cells c.requires.0 c.requires.1 c.args.cell.now c.args.raws.now c.args.top c.args.number c.requires.2 c.loop-j.j c.index-raws-at.result c.seen_from.result c.loop-j.sum c.loop-j-test.true c.index-raws-at.is c.seen_from.ensures (c.loop-j.invariant c.requires.0 c.requires.1 c.requires.2)

pub add-sum-requires-clause-few : goal.add-sum-requires-clause-few
add-sum-requires-clause-few c = children_room c.requires.0 c.requires.1 c.args.cell.now c.args.raws.now c.args.top c.args.number c.requires.2 c.loop-j.j c.index-raws-at.result c.seen_from.result c.loop-j.sum c.loop-j-test.true c.index-raws-at.is c.seen_from.ensures (c.loop-j.invariant c.requires.0 c.requires.1 c.requires.2)

pub add-sum-requires-clause-light : goal.add-sum-requires-clause-light
add-sum-requires-clause-light c = children_light c.requires.0 c.requires.1 c.args.cell.now c.args.raws.now c.args.top c.args.number c.requires.2 c.loop-j.j c.index-raws-at.result c.seen_from.result c.loop-j.sum c.loop-j-test.true c.index-raws-at.is c.seen_from.ensures (c.loop-j.invariant c.requires.0 c.requires.1 c.requires.2)

pub loop-j-preserved : goal.loop-j-preserved
loop-j-preserved c = λ soft S h. next_child_sum soft S c.args.cell.now c.args.raws.now c.args.top c.args.number h c.loop-j.j c.index-raws-at.result c.seen_from.result c.loop-j.sum c.loop-j-test.true c.index-raws-at.is c.seen_from.ensures (c.loop-j.invariant soft S h) c.add-sum.result c.add-sum.ensures

pub returns : goal.returns
returns c = λ soft S h. all_child_sums soft S c.args.cell.now c.args.raws.now c.args.top c.args.number h c.loop-j.j c.loop-j.sum (omega (arith, c.loop-j-test.false)) (c.loop-j.invariant soft S h)
