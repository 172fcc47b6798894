use Rattle.std.proofs.Common.{◌≡◌, map, take}
use Rattle.octree_build.specs.Trees.{key_at}
use Rattle.rank_exchange.proofs.members.keys_of.Given as goal

abbrev pub invariant-loop-i : goal.invariant-loop-i
invariant-loop-i l = l.keys.items ≡ map key_at (take l.i l.bodies)
