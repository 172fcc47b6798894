use Rattle.std.proofs.Common.{◌∙◌}
use Rattle.store_io.proofs.Maps.{on_err_from}
use Rattle.made_bodies.proofs.Writes.{not_finished}
use Rattle.made_bodies.proofs.files.put_file.Goals as goal

pub returns-clause-err : goal.returns-clause-err
returns-clause-err g c =
    let made = c.in_ok-create.ensures in
    on_err_from c.close.result (λ t. not_finished _ _ _ _ _ _ (made.ok t) (c.in_ok-append_pieces.ensures.ok (made.tells ∙ t)) c.close.ensures.files)
