use Rattle.std.proofs.Common.{◌≡◌, ◌≤◌, ◌+◌, ◌-◌, ◌*◌, ◌++◌, length}
use Rattle.dual_walk.specs.Steps.{range, self_pairs}
use Rattle.dual_walk.proofs.pairs.push_self.Given as goal

abbrev pub invariant-loop-d : goal.invariant-loop-d
invariant-loop-d l = (l.list.items ++ self_pairs (range l.d (l.end - l.d)) ≡ l.fn.list.items ++ self_pairs (range l.first (l.end - l.first))) × (l.list.capacity ≡ l.fn.list.capacity) × (length l.list.items + 8 * (l.end - l.d) ≤ l.list.capacity)
