use Rattle.run_session.proofs.Logged.{rest_told}
use Rattle.run_session.proofs.recorder.RecorderKickOut.rested.Goals as goal

pub returns-clause-adds : goal.returns-clause-adds
returns-clause-adds g c = rest_told _ _ _ _ _ _ _ c.asked.ensures.counted
