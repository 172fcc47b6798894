use Rattle.std.proofs.Common.{sym, ◌∙◌, arith}
use Rattle.cell_space.specs.Cells.{place}
use Rattle.octree_build.proofs.Found.{around_more}
use Rattle.octree_build.proofs.tree.child_around.Goals as goal

pub overflow_add-k-end : goal.overflow_add-k-end
overflow_add-k-end c = omega (arith, c.requires.within, c.requires.few)

pub loop-k-preserved : goal.loop-k-preserved
loop-k-preserved c = around_more c.args.nodes.now c.args.first c.loop-k.k (place c.args.pos) c.loop-k.invariant (λ d. sym (c.is_around.ensures d) ∙ c.if-is_around.false)
