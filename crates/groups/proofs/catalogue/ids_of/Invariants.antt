use Rattle.std.proofs.Common.{◌≡◌, map, get_or, take}
use Rattle.neighbour_find.specs.Near.{nobody}
use Rattle.groups.proofs.catalogue.ids_of.Given as goal

abbrev pub invariant-loop-e : goal.invariant-loop-e
invariant-loop-e l = l.ids.items ≡ map (λ k. (get_or l.bodies k nobody).id) (take l.e l.list)
