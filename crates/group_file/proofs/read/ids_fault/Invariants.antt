use Rattle.std.proofs.Common.{◌≡◌, None}
use Rattle.group_file.specs.GroupFile.{first_of, id_fault}
use Rattle.group_file.proofs.read.ids_fault.Given as goal

abbrev pub invariant-loop-k : goal.invariant-loop-k
invariant-loop-k l = first_of (id_fault l.bytes l.p) l.k ≡ None
