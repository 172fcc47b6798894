use Rattle.std.proofs.Common.{take}
use Rattle.std.specs.List.{AllZip}
use Rattle.merger_links.specs.Links.{IsLink}
use Rattle.merger_links.proofs.list.links.Given as goal

abbrev pub invariant-loop-i : goal.invariant-loop-i
invariant-loop-i l = AllZip (IsLink l.first l.second) (take l.i l.first) l.links.items
