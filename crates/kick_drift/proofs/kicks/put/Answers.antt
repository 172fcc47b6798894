use Rattle.std.proofs.Common.{get_or}
use Rattle.nbody_model.specs.Bodies.{BodyData}
use Rattle.nbody_model.specs.Steps.{kicked_by}
use Rattle.kick_drift.proofs.FirstOut.{never}
use Rattle.kick_drift.proofs.kicks.put.Goals as goal

pub returns-in_default : goal.returns-in_default
returns-in_default c = λ b.
    let body : BodyData = get_or c.args.set.now c.args.place b in
    absurd (never body.id (kicked_by c.args.h body.motion.mom c.args.change) c.in_default.field-0 (c.in_default.ensures.err b) (c.requires.in_range b))
