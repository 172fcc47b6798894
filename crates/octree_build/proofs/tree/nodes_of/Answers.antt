use Rattle.std.proofs.Common.{◌+◌, sym, subst, arith}
use Rattle.octree_build.specs.Slots.{cells_in}
use Rattle.octree_build.proofs.Opens.{as_many}
use Rattle.octree_build.proofs.Made.{HasFirst, none_yet, one_more_node, all_nodes}
use Rattle.octree_build.proofs.tree.nodes_of.Goals as goal

pub loop-i-init : goal.loop-i-init
loop-i-init c = λ s B o m. none_yet s B c.args.all.now.bodies.now (cells_in c.args.all.now.slots.now) c.in_ok-nodes.nodes.items c.in_ok-nodes.ensures.items

pub loop-i-preserved : goal.loop-i-preserved
loop-i-preserved c = λ s B o m. subst (HasFirst s B c.args.all.now.bodies.now (cells_in c.args.all.now.slots.now) (c.loop-i.i + 1)) (sym c.in_ok-push.ensures.items)
    (one_more_node s B c.args.all.now.bodies.now (cells_in c.args.all.now.slots.now) c.loop-i.i c.loop-i.nodes.items c.node_at.result (omega (arith, c.loop-i-test.true, as_many c.args.all.now.slots.now)) (c.loop-i.invariant s B o m) (c.node_at.ensures s B o m))

pub returns : goal.returns
returns c = λ s B o m. all_nodes s B c.args.all.now.bodies.now c.args.all.now.slots.now c.args.all.now.firsts.now c.args.raws.now c.loop-i.i c.loop-i.nodes.items m o (omega (arith, c.loop-i-test.false)) (omega (arith, c.loop-i.auto.i-end)) (c.loop-i.invariant s B o m)
