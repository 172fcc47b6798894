use Rattle.std.proofs.Common.{◌∙◌}
use Rattle.run_session.proofs.OwnChanges.{opened_in_part}
use Rattle.run_session.proofs.open_files.open_bin_file.Goals as goal

pub returns-clause-part : goal.returns-clause-part
returns-clause-part g c = λ t.
    opened_in_part c.append_to.result _ _ _ _ _ _ (c.in_ok-create_file.ensures.ok t) c.append_to.ensures.ok c.append_to.ensures.err (c.in_ok-create_file.ensures.tells ∙ t)
