use Rattle.std.proofs.Common.{◌≡◌, ◌++◌, take}
use Rattle.merger_links.specs.Owners.{owned}
use Rattle.merger_links.proofs.owners.push_owned.Given as goal

abbrev pub invariant-loop-id : goal.invariant-loop-id
invariant-loop-id l = l.out.items ≡ l.fn.out.items ++ owned l.group (take l.id-index l.ids)
