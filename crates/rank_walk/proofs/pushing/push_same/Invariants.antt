use Rattle.std.proofs.Common.{◌≡◌, ◌-◌, ◌++◌, ◌≤◌, reverse}
use Rattle.std.specs.List.{filter}
use Rattle.std.specs.List.{range_with_len}
use Rattle.rank_walk.specs.Slots.{meets, same}
use Rattle.rank_walk.proofs.pushing.push_same.Given as goal

abbrev pub invariant-loop-a : goal.invariant-loop-a
invariant-loop-a l = record {
  above : l.from ≤ l.a;
  up_to : l.a ≤ l.to;
  items : l.stack.items ≡ l.fn.stack.items ++ reverse (filter (meets l.slots) (same (range_with_len l.a (l.to - l.a))));
}

abbrev pub decreases-loop-a : goal.decreases-loop-a
decreases-loop-a l = l.a - l.from
