use Rattle.fixed_point.proofs.Joins.{on_ok}
use Rattle.snap_file.proofs.Writes.{counted}
use Rattle.snap_file.proofs.write.push_counts.Goals as goal

pub returns : goal.returns
returns c =
    on_ok c.push_word32-6.result (counted c.args.bodies.now c.args.out.now.items _ _ _ _ _ _ c.in_ok-push_word32.ensures
    (rw c.count_kind.ensures.value at c.in_ok-push_word32-2.ensures) (rw c.count_kind-2.ensures.value at c.in_ok-push_word32-3.ensures)
    (rw c.count_kind-3.ensures.value at c.in_ok-push_word32-4.ensures) (rw c.count_kind-4.ensures.value at c.in_ok-push_word32-5.ensures))
    (rw c.count_kind-5.ensures.value at c.push_word32-6.ensures)
