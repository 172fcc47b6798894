use Rattle.std.proofs.Common.{◌≡◌, take}
use Rattle.merger_links.specs.Owners.{all_owned}
use Rattle.merger_links.proofs.owners.owned_of.Given as goal

abbrev pub invariant-loop-i : goal.invariant-loop-i
invariant-loop-i l = l.owners.items ≡ all_owned 0 (take l.i l.groups)
