use Rattle.std.proofs.Common.{◌≡◌, ◌≤◌, ◌+◌, ◌-◌, ◌*◌, ◌++◌, length}
use Rattle.dual_walk.specs.Steps.{range, cross}
use Rattle.dual_walk.proofs.pairs.push_cross.Given as goal

abbrev pub invariant-loop-d : goal.invariant-loop-d
invariant-loop-d l = (l.list.items ++ cross (range l.d (l.d-end - l.d)) (range l.fn.right.0 l.fn.right.1) ≡ l.fn.list.items ++ cross (range l.fn.left.0 l.fn.left.1) (range l.fn.right.0 l.fn.right.1)) × (l.list.capacity ≡ l.fn.list.capacity) × (length l.list.items + 8 * (l.d-end - l.d) ≤ l.list.capacity)
