use Rattle.nbody_model.specs.RestartText.{body_bytes}
use Rattle.restart_files.proofs.Joins.{one_more}
use Rattle.restart_files.proofs.write.push_bodies.Goals as goal

pub loop-body-preserved : goal.loop-body-preserved
loop-body-preserved c =
    one_more body_bytes c.args.bodies.now c.loop-body.body-index c.body-item.result _ _ _ c.loop-body-test.true c.loop-body.invariant (rw c.body-item.is at c.in_ok-push_body.ensures)
