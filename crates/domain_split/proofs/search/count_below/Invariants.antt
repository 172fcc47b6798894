use Rattle.std.proofs.Common.{◌≤◌, ◌-◌, length}
use Rattle.octree_build.specs.Slots.{keys_below}
use Rattle.domain_split.proofs.search.count_below.Given as goal

abbrev pub invariant-loop-low : goal.invariant-loop-low
invariant-loop-low l = (l.low ≤ keys_below l.numbers l.bound) × (keys_below l.numbers l.bound ≤ l.high) × (l.high ≤ length l.numbers)

abbrev pub decreases-loop-low : goal.decreases-loop-low
decreases-loop-low l = l.high - l.low
