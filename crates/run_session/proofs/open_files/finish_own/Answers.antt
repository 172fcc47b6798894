use Rattle.std.proofs.lemmas.Result.{err_from_is_err_and}
use Rattle.run_session.proofs.OwnChanges.{err_by, finishes_none, finishes_some}
use Rattle.run_session.proofs.open_files.finish_own.Goals as goal

pub returns-in_err-end_bins-clause-err : goal.returns-in_err-end_bins-clause-err
returns-in_err-end_bins-clause-err g c =
    let p = err_from_is_err_and c.from_residual.result c.from_residual.ensures.1 in
    rw (p.1, p.2, ← c.own.view_is) (finishes_none _ _ _ _ _ _ _ _ (rw (← c.own.view_is) at c.requires.apart) c.in_err-end_bins.ensures.fault c.in_err-end_bins.ensures.closed c.in_err-end_bins.ensures.part)

pub returns-clause-err : goal.returns-clause-err
returns-clause-err g c =
    let marked = c.in_ok-end_bins.ensures in
    rw (← c.own.view_is) (err_by c.close_own.result _ _ (λ e h. finishes_some _ _ _ _ _ _ _ _ _ _ _ (rw (← c.own.view_is) at c.requires.apart) marked.ok marked.tells marked.closed c.close_own.ensures.files h)
    (rw (← c.own.view_is) at c.close_own.ensures.err))
