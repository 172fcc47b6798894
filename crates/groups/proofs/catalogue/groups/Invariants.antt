use Rattle.std.proofs.Common.{◌≡◌}
use Rattle.std.specs.List.{flat_map, range_with_len}
use Rattle.groups.specs.Groups.{kept}
use Rattle.groups.proofs.catalogue.groups.Given as goal

abbrev pub invariant-loop-p : goal.invariant-loop-p
invariant-loop-p l = l.groups.items ≡ flat_map (kept l.least l.bodies l.heads.items) (range_with_len 0 l.p)
