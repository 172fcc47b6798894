use Rattle.snap_file.proofs.Writes.{texts}
use Rattle.snap_file.proofs.write.write_snapshot.Goals as goal

pub returns : goal.returns
returns c =
    rw (← c.bodies-bodies.ensures.value) (texts c.bodies-bodies.result.now c.args.tick c.args.number _ _ _ _ _ (rw c.in_ok-out.ensures.items at c.in_ok-push_head.ensures)
    c.in_ok-push_column.ensures c.in_ok-push_column-2.ensures c.in_ok-push_column-3.ensures c.in_ok-push_column-4.ensures)
