use Rattle.std.proofs.Common.{◌≡◌, ◌^◌, All, map, take}
use Rattle.fixed_point.specs.Vectors.{IsAtMost, negative}
use Rattle.rewind.proofs.kicks.all_negated.Given as goal

abbrev pub invariant-loop-force : goal.invariant-loop-force
invariant-loop-force l = (l.opposite.items ≡ map negative (take l.force-index l.forces)) × All (IsAtMost (2 ^ 118)) l.opposite.items
