use Rattle.made_bodies.proofs.Sets.{only_memory, the_set}
use Rattle.made_bodies.proofs.bodies.draw_bodies.Goals as goal

pub only_memory-requires : goal.only_memory-requires
only_memory-requires c = only_memory c.args.seed c.args.count c.in_ok-rows.rows.items _ c.requires c.in_ok-rows.ensures.value c.in-Err.ensures.err

pub returns-in-Ok : goal.returns-in-Ok
returns-in-Ok c = the_set c.args.seed c.args.count c.in_ok-rows.rows.items _ c.requires c.in_ok-rows.ensures.value c.in-Ok.ensures.ok
