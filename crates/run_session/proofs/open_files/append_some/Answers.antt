use Rattle.run_session.proofs.OwnChanges.{grown_in_part}
use Rattle.run_session.proofs.open_files.append_some.Goals as goal

pub returns-clause-part : goal.returns-clause-part
returns-clause-part g c = grown_in_part c.append_to.result _ _ _ _ _ c.append_to.ensures.ok c.append_to.ensures.err
