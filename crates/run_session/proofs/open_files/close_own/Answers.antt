use Rattle.std.proofs.Common.{◌∙◌}
use Rattle.std.proofs.lemmas.Result.{err_from_is_err_and}
use Rattle.run_session.proofs.OwnChanges.{ends_at_first, ends_first, ends_second, err_both}
use Rattle.run_session.proofs.open_files.close_own.Goals as goal

pub returns-in_err-close_file-clause-err : goal.returns-in_err-close_file-clause-err
returns-in_err-close_file-clause-err g c =
    let p = err_from_is_err_and c.from_residual.result c.from_residual.ensures.1 in
    rw (p.1, p.2, ← c.own.view_is) (ends_at_first _ _ _ _ _ c.in_err-close_file.ensures.fault c.in_err-close_file.ensures.err)

pub returns-in_err-close_if-clause-err : goal.returns-in_err-close_if-clause-err
returns-in_err-close_if-clause-err g c =
    let p = err_from_is_err_and c.from_residual-in_err-close_if.result c.from_residual-in_err-close_if.ensures.1 in
    rw (p.1, p.2, ← c.own.view_is) (ends_first _ _ _ _ _ _ c.in_err-close_if.ensures.fault c.in_ok-close_file.ensures.ok c.in_err-close_if.ensures.err)

pub returns-clause-err : goal.returns-clause-err
returns-clause-err g c =
    let first = c.in_ok-close_file.ensures in
    let second = c.in_ok-close_if.ensures in
    rw (← c.own.view_is) (err_both c.close_if-2.result _ _ _ (λ e b s. ends_second _ _ _ _ _ _ _ b first.ok (λ t. second.ok (first.tells ∙ t)) s) c.close_if-2.ensures.fault c.close_if-2.ensures.err)
