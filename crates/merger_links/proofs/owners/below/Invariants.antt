use Rattle.std.proofs.Common.{◌-◌}
use Rattle.merger_links.specs.Owners.{IsBetween}
use Rattle.merger_links.proofs.owners.below.Given as goal

abbrev pub invariant-loop-low : goal.invariant-loop-low
invariant-loop-low l = IsBetween l.owners l.id l.low l.high

abbrev pub decreases-loop-low : goal.decreases-loop-low
decreases-loop-low l = l.high - l.low
