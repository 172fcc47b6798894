use Rattle.std.proofs.Common.{◌≡◌, option_copied}
use Rattle.step_engine.specs.Stages.{rules}
use Rattle.rewind.proofs.Runs.{SoFar}
use Rattle.rewind.proofs.rewinding.undo_steps.Given as goal

abbrev pub invariant-loop-done : goal.invariant-loop-done
invariant-loop-done g l =
    SoFar (rules (g.F.Forces.gravity l.fn.forces) (option_copied l.course.expansion)) (g.F.Forces.gravity l.forces) l.course.bins.now l.fn.set l.part l.done l.set l.known l.work.left × (g.F.Forces.fixed l.forces ≡ g.F.Forces.fixed l.fn.forces)
