use Rattle.store_io.specs.SeededSchedule.{seed_of}
use Rattle.made_bodies.proofs.Drawing.{row_drawn, seventh_state}
use Rattle.made_bodies.proofs.draws.next_row.Goals as goal

pub returns-clause-value : goal.returns-clause-value
returns-clause-value c = row_drawn (seed_of c.args.order.now) _ _ _ _ _ c.args.id c.next_position-pos.ensures.value c.next_position-pos.ensures.state c.next.ensures.value c.next.ensures.state c.next_momentum.ensures.value

pub returns-clause-state : goal.returns-clause-state
returns-clause-state c = seventh_state (seed_of c.args.order.now) _ _ _ c.next_position-pos.ensures.state c.next.ensures.state c.next_momentum.ensures.state
