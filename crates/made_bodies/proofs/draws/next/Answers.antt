use Rattle.std.proofs.Common.{◌∙◌}
use Rattle.store_io.specs.SeededSchedule.{seed_of}
use Rattle.made_bodies.proofs.Drawing.{first_draw, first_state}
use Rattle.made_bodies.proofs.draws.next.Goals as goal

pub returns-clause-value : goal.returns-clause-value
returns-clause-value c = c.pick.ensures.answer ∙ first_draw (seed_of c.args.order.now)

pub returns-clause-state : goal.returns-clause-state
returns-clause-state c = first_state (seed_of c.args.order.now) (seed_of c.pick.new.self) c.pick.ensures.after
