use Rattle.std.proofs.Common.{◌≡◌}
use Rattle.group_file.specs.GroupFile.{ids_at}
use Rattle.group_file.proofs.read.ids_of.Given as goal

abbrev pub invariant-loop-k : goal.invariant-loop-k
invariant-loop-k l = l.ids.items ≡ ids_at l.bytes l.p l.k
