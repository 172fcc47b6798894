use Rattle.std.proofs.Common.{◌≡◌, ◌≤◌, ◌+◌, ◌-◌, ◌++◌, map, length}
use Rattle.dual_walk.specs.Steps.{range, pair}
use Rattle.dual_walk.proofs.pairs.push_row.Given as goal

abbrev pub invariant-loop-b : goal.invariant-loop-b
invariant-loop-b l = (l.list.items ++ map (pair l.a) (range l.b (l.b-end - l.b)) ≡ l.initial.list.items ++ map (pair l.a) (range l.initial.b (l.b-end - l.initial.b))) × (l.list.capacity ≡ l.initial.list.capacity) × (length l.list.items + (l.b-end - l.b) ≤ l.list.capacity)
