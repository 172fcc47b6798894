use Rattle.std.proofs.Common.{◌≡◌, take}
use Rattle.node_moments.specs.Sums.{raw_of}
use Rattle.force_field.proofs.Sums.{inside}
use Rattle.force_field.proofs.nodes.sums_of.Given as goal

abbrev pub invariant-loop-k : goal.invariant-loop-k
invariant-loop-k l = l.sums ≡ raw_of l.soft l.cell (inside l.cell (take l.k l.bodies))
