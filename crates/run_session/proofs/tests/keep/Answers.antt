use Rattle.std.proofs.Common.{◌∙◌, sym}
use Rattle.run_session.specs.Own.{first_texts}
use Rattle.run_session.proofs.OwnChanges.{are_there}
use Rattle.run_session.proofs.tests.keep.Goals as goal

pub finish_own-requires-clause-there : goal.finish_own-requires-clause-there
finish_own-requires-clause-there g c = λ t.
    let made = c.in_ok-open_own.ensures in
    let grown = c.in_ok-append_own.ensures in
    are_there _ _ _ _ (grown.ok first_texts _ (sym grown.tells ∙ t) (made.ok (sym made.tells ∙ sym grown.tells ∙ t)))
