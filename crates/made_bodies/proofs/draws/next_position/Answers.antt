use Rattle.store_io.specs.SeededSchedule.{seed_of}
use Rattle.made_bodies.proofs.Drawing.{three_drawn, third_state}
use Rattle.made_bodies.proofs.draws.next_position.Goals as goal

pub returns-clause-value : goal.returns-clause-value
returns-clause-value c = three_drawn (seed_of c.args.order.now) _ _ _ _ _ c.next-x.ensures.value c.next-x.ensures.state c.next-y.ensures.value c.next-y.ensures.state c.next-z.ensures.value

pub returns-clause-state : goal.returns-clause-state
returns-clause-state c = third_state (seed_of c.args.order.now) _ _ _ c.next-x.ensures.state c.next-y.ensures.state c.next-z.ensures.state
