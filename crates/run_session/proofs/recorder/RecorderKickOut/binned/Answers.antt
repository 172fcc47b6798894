use Rattle.run_session.proofs.Logged.{part_told, part_passed}
use Rattle.run_session.proofs.recorder.RecorderKickOut.binned.Goals as goal

pub returns-then-not-self-clause-ok : goal.returns-then-not-self-clause-ok
returns-then-not-self-clause-ok g c = part_passed _ _ _ _ _ c.if-not-self.true

pub returns-clause-ok : goal.returns-clause-ok
returns-clause-ok g c = part_told _ _ _ _ _ _ c.if-not-self.false c.in_ok-add_part.ensures.ok
