use Rattle.std.proofs.Common.{subst, option_copied}
use Rattle.step_engine.specs.Stages.{rules}
use Rattle.rewind.specs.Rewinding.{IsRewound, IsRefusedRun}
use Rattle.rewind.proofs.rewinding.rewind.Goals as goal

pub returns-in-Ok-undo_steps-clause-ok : goal.returns-in-Ok-undo_steps-clause-ok
returns-in-Ok-undo_steps-clause-ok g c =
    subst (λ x. IsRewound (rules x (option_copied c.args.expansion)) c.args.bins.now c.args.set c.undo_steps.new.set) c.in-Ok-ask.ensures.same_gravity c.in-Ok-undo_steps.ensures.ok

pub returns-in-Err-undo_steps-clause-err : goal.returns-in-Err-undo_steps-clause-err
returns-in-Err-undo_steps-clause-err g c =
    subst (λ x. IsRefusedRun (rules x (option_copied c.args.expansion)) c.args.bins.now c.args.set c.in-Err-undo_steps.e) c.in-Ok-ask.ensures.same_gravity c.in-Err-undo_steps.ensures.err
