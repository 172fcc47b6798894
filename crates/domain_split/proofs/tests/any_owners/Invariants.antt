use Rattle.std.proofs.Common.{◌≡◌, ◌<◌, length}
use Rattle.std.specs.List.{AllByRecursion}
use Rattle.domain_split.proofs.tests.any_owners.Given as goal

abbrev pub invariant-loop-place : goal.invariant-loop-place
invariant-loop-place l = (length l.owners.items ≡ l._place) × AllByRecursion (λ o. o < l.ranks) l.owners.items
