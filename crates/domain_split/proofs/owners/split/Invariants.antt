use Rattle.std.proofs.Common.{◌≡◌, ◌<◌, take, map}
use Rattle.std.specs.List.{AllByRecursion}
use Rattle.domain_split.specs.Splits.{owner_of}
use Rattle.domain_split.proofs.owners.split.Given as goal

abbrev pub invariant-loop-i : goal.invariant-loop-i
invariant-loop-i l = (l.owners.items ≡ map (owner_of l.ranks l.bodies) (take l.i l.bodies)) × AllByRecursion (λ o. o < l.ranks) l.owners.items
