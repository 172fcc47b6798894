use Rattle.std.proofs.Common.{◌∙◌}
use Rattle.store_io.proofs.Maps.{on_err_from}
use Rattle.run_session.proofs.OwnChanges.{not_finished}
use Rattle.run_session.proofs.files.make_snapshot.Goals as goal

pub returns-clause-err : goal.returns-clause-err
returns-clause-err g c =
    let made = c.in_ok-create.ensures in
    on_err_from c.close.result (λ t. not_finished _ _ _ _ _ _ (made.ok t) (c.in_ok-put_snapshot.ensures.ok (made.tells ∙ t)) c.close.ensures.files)
