use Rattle.std.proofs.Common.{◌≡◌, ◌-◌, ◌++◌, ◌≤◌, reverse}
use Rattle.std.specs.List.{filter}
use Rattle.std.specs.List.{range_with_len}
use Rattle.rank_walk.specs.Slots.{meets, row}
use Rattle.rank_walk.proofs.pushing.push_row.Given as goal

abbrev pub invariant-loop-b : goal.invariant-loop-b
invariant-loop-b l = record {
  above : l.from ≤ l.b;
  up_to : l.b ≤ l.to;
  items : l.stack.items ≡ l.fn.stack.items ++ reverse (filter (meets l.slots) (row l.a (range_with_len l.b (l.to - l.b))));
}

abbrev pub decreases-loop-b : goal.decreases-loop-b
decreases-loop-b l = l.b - l.from
