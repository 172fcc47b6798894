use Rattle.std.proofs.Common.{◌≡◌, ◌+◌, ◌≤◌}
use Rattle.dual_walk.specs.Steps.{IsAt, work_left}
use Rattle.dual_walk.proofs.descent.walk.Given as goal

abbrev pub ghost-look : goal.ghost-look
ghost-look g a = g.w

-- where the walk stands, and what stays of its law and its list
abbrev pub invariant-loop-x : goal.invariant-loop-x
invariant-loop-x g l = IsAt g.w l.tree.nodes l.list.items l.fn.places l.places l.fn.law.asked_accept l.law.asked_accept l.count × (l.law.asked_force ≡ l.fn.law.asked_force + l.count) × (l.law.accept ≡ l.fn.law.accept) × (l.law.force ≡ l.fn.law.force) × (2112 ≤ l.list.capacity)

abbrev pub decreases-loop-x : goal.decreases-loop-x
decreases-loop-x g l = work_left g.w l.tree.nodes l.list.items
