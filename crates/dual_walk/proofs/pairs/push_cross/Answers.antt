use Rattle.std.proofs.Common.{◌+◌, ◌∙◌, arith}
use Rattle.dual_walk.proofs.Rows.{cross_step, row_length}
use Rattle.dual_walk.proofs.pairs.push_cross.Goals as goal

pub loop-d-preserved : goal.loop-d-preserved
loop-d-preserved c = (
  cross_step c.loop-d.d (c.args.left.0 + c.args.left.1) c.args.right.0 c.args.right.1 c.loop-d.list.items _ _ c.loop-d-test.true c.push_row.ensures.items c.loop-d.invariant.0,
  c.push_row.ensures.capacity ∙ c.loop-d.invariant.1,
  omega (
    arith,
    row_length c.loop-d.d c.args.right.0 c.args.right.1 c.loop-d.list.items _ c.push_row.ensures.items,
    c.push_row.ensures.capacity,
    c.loop-d.invariant.2,
    c.loop-d-test.true,
    c.requires.right,
  ),
)
