use Rattle.std.proofs.Common.{◌≡◌, ◌≤◌, ◌*◌, ◌^◌, sum_by, get_or, take}
use Rattle.neighbour_find.specs.Near.{nobody}
use Rattle.groups.proofs.catalogue.mass_of.Given as goal

abbrev pub invariant-loop-e : goal.invariant-loop-e
invariant-loop-e l = (l.mass ≡ sum_by (λ k. (get_or l.bodies k nobody).mass) (take l.e l.list)) × (l.mass ≤ l.e * 2 ^ 32)
