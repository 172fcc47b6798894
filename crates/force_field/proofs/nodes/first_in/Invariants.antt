use Rattle.std.proofs.Common.{◌≡◌, take, []}
use Rattle.std.specs.List.{filter}
use Rattle.cell_space.specs.Cells.{contains}
use Rattle.force_field.proofs.nodes.first_in.Given as goal

abbrev pub invariant-loop-k : goal.invariant-loop-k
invariant-loop-k l = filter (λ b. contains l.cell b.motion.pos) (take l.k l.bodies) ≡ []
