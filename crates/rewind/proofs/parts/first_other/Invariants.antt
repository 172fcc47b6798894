use Rattle.std.proofs.Common.{◌≡◌, ◌≤◌, ◌-◌, length, drop}
use Rattle.rewind_laws.specs.Back.{first_other}
use Rattle.rewind.proofs.parts.first_other.Given as goal

abbrev pub invariant-loop-k : goal.invariant-loop-k
invariant-loop-k l = (l.k ≤ length l.xs) × (l.k ≤ length l.ys) × (first_other l.xs l.ys ≡ first_other (drop l.k l.xs) (drop l.k l.ys))

abbrev pub decreases-loop-k : goal.decreases-loop-k
decreases-loop-k l = length l.initial.xs - l.k
