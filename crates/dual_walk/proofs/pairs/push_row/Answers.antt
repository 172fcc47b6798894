use Rattle.std.proofs.Common.{◌+◌, ◌∙◌, arith}
use Rattle.dual_walk.proofs.Rows.{row_step, row_length}
use Rattle.dual_walk.proofs.pairs.push_row.Goals as goal

pub loop-b-preserved : goal.loop-b-preserved
loop-b-preserved c = (
  row_step c.args.a c.loop-b.b (c.args.first + c.args.number) c.loop-b.list.items _ _ c.loop-b-test.true c.push_reserved.ensures.items c.loop-b.invariant.0,
  c.push_reserved.ensures.capacity ∙ c.loop-b.invariant.1,
  omega (arith, row_length c.args.a c.loop-b.b 1 c.loop-b.list.items _ c.push_reserved.ensures.items, c.push_reserved.ensures.capacity, c.loop-b.invariant.2, c.loop-b-test.true),
)
