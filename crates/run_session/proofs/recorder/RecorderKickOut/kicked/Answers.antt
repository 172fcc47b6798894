use Rattle.run_session.proofs.Logged.{kick_told}
use Rattle.run_session.proofs.recorder.RecorderKickOut.kicked.Goals as goal

pub returns-clause-ok : goal.returns-clause-ok
returns-clause-ok g c = kick_told _ _ _ _ _ _ c.in_ok-add_kick.ensures.ok
