use Rattle.std.proofs.Common.{◌≡◌, ◌≤◌, ◌-◌, take, get_or}
use Rattle.group_file.specs.Catalogues.{times}
use Rattle.merger_links.specs.Ties.{IsMostOften}
use Rattle.merger_links.proofs.ties.most_often.Given as goal

abbrev pub invariant-loop-i : goal.invariant-loop-i
invariant-loop-i l = IsMostOften (take l.i l.sorted) l.best × (1 ≤ l.i → l.run ≡ times (get_or l.sorted (l.i - 1) 0) (take l.i l.sorted)) × (l.run ≤ l.i)
