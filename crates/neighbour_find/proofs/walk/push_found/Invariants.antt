use Rattle.std.proofs.Common.{◌≡◌, ◌++◌, take}
use Rattle.neighbour_find.specs.Around.{found}
use Rattle.neighbour_find.proofs.walk.push_found.Given as goal

abbrev pub invariant-loop-i : goal.invariant-loop-i
invariant-loop-i l = l.out.items ≡ l.fn.out.items ++ found l.around (take l.i l.bodies)
