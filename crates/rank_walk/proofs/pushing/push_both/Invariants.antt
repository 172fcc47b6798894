use Rattle.std.proofs.Common.{◌≡◌, ◌-◌, ◌++◌, ◌≤◌, reverse}
use Rattle.std.specs.List.{filter}
use Rattle.std.specs.List.{range_with_len}
use Rattle.rank_walk.specs.Slots.{meets, both}
use Rattle.rank_walk.proofs.pushing.push_both.Given as goal

abbrev pub invariant-loop-a : goal.invariant-loop-a
invariant-loop-a l = record {
  above : l.first.0 ≤ l.a;
  up_to : l.a ≤ l.first.1;
  items : l.stack.items ≡ l.fn.stack.items ++ reverse (filter (meets l.slots) (both (range_with_len l.a (l.first.1 - l.a)) (range_with_len l.second.0 (l.second.1 - l.second.0))));
}

abbrev pub decreases-loop-a : goal.decreases-loop-a
decreases-loop-a l = l.a - l.first.0
