use Rattle.std.proofs.Common.{◌≡◌, ◌^◌, length}
use Rattle.std.specs.List.{AllByRecursion}
use Rattle.fixed_point.specs.Vectors.{IsBelow}
use Rattle.dual_walk.proofs.tests.places.Given as goal

abbrev pub invariant-loop-place : goal.invariant-loop-place
invariant-loop-place l = (length l.places.items ≡ l._place) × AllByRecursion (IsBelow (2 ^ 100)) l.places.items
