use Rattle.std.proofs.Common.{◌≡◌, ◌++◌, List, take}
use Rattle.std.specs.List.{filter_map}
use Rattle.group_file.specs.Catalogues.{GroupData, IsGood}
use Rattle.merger_links.specs.Owners.{AreOwners, owner_in}
use Rattle.merger_links.proofs.ties.find_all.Given as goal

abbrev pub invariant-loop-i : goal.invariant-loop-i
invariant-loop-i l = (D : List GroupData) → IsGood D → AreOwners D l.owners → l.found.items ≡ l.fn.found.items ++ filter_map (owner_in D) (take l.i l.ids)
