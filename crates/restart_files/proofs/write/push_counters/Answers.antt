use Rattle.restart_files.proofs.Joins.{counted}
use Rattle.fixed_point.proofs.Joins.{on_ok}
use Rattle.restart_files.proofs.write.push_counters.Goals as goal

pub returns : goal.returns
returns c =
    rw (← c.state.view_is) (on_ok c.push_word128.result (counted _ c.args.out.now.items _ _ _ _ _ _ c.in_ok-push_word64.ensures c.in_ok-push_word64-2.ensures c.in_ok-push_word64-3.ensures
    c.in_ok-push_word64-4.ensures c.in_ok-push_word64-5.ensures) c.push_word128.ensures)
