use Rattle.std.proofs.Common.{◌<◌, ◌-◌, length, arith}
use Rattle.octree_build.specs.Trees.{NodeData}
use Rattle.octree_build.proofs.Asked.{tree_few}
use Rattle.octree_build.proofs.Found.{some_node}
use Rattle.neighbour_find.proofs.Walks.{far_node, found_all, found_child, later}
use Rattle.neighbour_find.proofs.walk.+visit.Goals as goal

pub returns-then-is_far_node : goal.returns-then-is_far_node
returns-then-is_far_node bound c d = far_node c.args.tree.now c.requires.tree c.args.around.now c.args.i d c.args.out.now.items (c.is_far_node.ensures c.if-is_far_node.true d)

pub overflow_add-k-end : goal.overflow_add-k-end
overflow_add-k-end bound c =
    let t = c.requires.tree in
    record { fits = omega (arith, c.children-first.ensures.within, tree_few t.setup t.whole c.args.tree.now t.tree, t.tree.over.bodies.valid.few) }

pub visit-requires : goal.visit-requires
visit-requires bound c =
    let d : NodeData = some_node c.args.tree.now.nodes c.args.i c.requires.place in
    let behind : c.args.i < c.children-first.result.0 = omega (arith, later c.args.tree.now c.requires.tree c.args.i d c.requires.place, c.children-first.ensures.first d) in
    let place : c.loop-k.k < length c.args.tree.now.nodes = omega (arith, c.loop-k-test.true, c.children-first.ensures.within) in
    let falls : length c.args.tree.now.nodes - c.loop-k.k < bound = omega (arith, behind, place, c.loop-k.auto.k, c.decreases) in
    (falls, (place, (c.requires.tree, c.requires.ids)))

pub loop-k-preserved : goal.loop-k-preserved
loop-k-preserved bound c d =
    let place : c.loop-k.k < length c.args.tree.now.nodes = omega (arith, c.loop-k-test.true, c.children-first.ensures.within) in
    found_child c.args.tree.now c.requires.tree c.args.around.now c.args.i d c.loop-k.k c.children-first.result.0 c.children-first.result.1 c.args.out.now.items c.loop-k.out.items c.visit.new.out.items c.requires.place
    (c.children-first.ensures.first d) (c.children-first.ensures.number d) c.loop-k.auto.k c.loop-k-test.true place (c.loop-k.invariant d) (c.in_ok-visit.ensures d)

pub returns : goal.returns
returns bound c d =
    found_all c.args.tree.now c.requires.tree c.args.around.now c.args.i d c.loop-k.k c.children-first.result.0 c.children-first.result.1 c.args.out.now.items c.loop-k.out.items c.requires.place
    (c.children-first.ensures.number d) (omega (arith, c.if-number-eq0.false)) (omega (arith, c.loop-k-test.false, c.loop-k.auto.k, c.loop-k.auto.k-end)) (c.loop-k.invariant d)
