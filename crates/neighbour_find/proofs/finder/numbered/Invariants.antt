use Rattle.std.proofs.Common.{◌≡◌, take}
use Rattle.neighbour_find.specs.Numbered.{numbered}
use Rattle.neighbour_find.proofs.finder.numbered.Given as goal

abbrev pub invariant-loop-i : goal.invariant-loop-i
invariant-loop-i l = l.list.items ≡ numbered 0 (take l.i l.bodies)
