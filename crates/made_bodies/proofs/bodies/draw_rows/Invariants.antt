use Rattle.std.proofs.Common.{◌≡◌, ◌*◌}
use Rattle.store_io.specs.SeededSchedule.{seed_of}
use Rattle.made_bodies.specs.Draws.{state_after}
use Rattle.made_bodies.specs.Drawn.{drawn_rows}
use Rattle.made_bodies.proofs.bodies.draw_rows.Given as goal

abbrev pub invariant-loop-place : goal.invariant-loop-place
invariant-loop-place l = (l.rows.items ≡ drawn_rows l.seed l.place) × (seed_of l.order ≡ state_after l.seed (7 * l.place))
