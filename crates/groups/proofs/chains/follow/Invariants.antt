use Rattle.std.proofs.Common.{◌-◌, length}
use Rattle.groups.specs.Chains.{IsFollowed}
use Rattle.groups.proofs.chains.follow.Given as goal

abbrev pub invariant-loop-place : goal.invariant-loop-place
invariant-loop-place l = IsFollowed l.heads l.p l.place l.list.items

abbrev pub decreases-loop-place : goal.decreases-loop-place
decreases-loop-place l = length l.heads - l.place
