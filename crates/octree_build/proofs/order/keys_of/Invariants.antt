use Rattle.std.proofs.Common.{◌≡◌, ◌/◌, ◌^◌, map, take}
use Rattle.octree_build.proofs.order.keys_of.Given as goal

abbrev pub invariant-loop-i : goal.invariant-loop-i
invariant-loop-i l = l.keys.items ≡ map (λ n. n / 2 ^ 20) (take l.i l.numbers)
