use Rattle.std.proofs.Common.{◌≡◌, take}
use Rattle.group_file.specs.Catalogues.{all_ids}
use Rattle.group_file.proofs.repeats.ids_of.Given as goal

abbrev pub invariant-loop-i : goal.invariant-loop-i
invariant-loop-i l = l.ids.items ≡ all_ids (take l.i l.groups)
