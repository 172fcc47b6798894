use Rattle.std.proofs.Common.{◌≡◌, ◌<◌}
use Rattle.node_moments.specs.Sums.{raw_of}
use Rattle.octree_build.proofs.Parts.{part}
use Rattle.octree_build.proofs.sums.sum_of_range.Given as goal

abbrev pub invariant-loop-k : goal.invariant-loop-k
invariant-loop-k l = (l.low < l.k) × (l.sum ≡ raw_of l.soft l.cell (part l.bodies l.low l.k))
