use Rattle.std.proofs.Common.{◌≡◌, ◌++◌, take, length}
use Rattle.std.specs.List.{flat_map}
use Rattle.fixed_point.specs.Bytes.{bytes32}
use Rattle.group_file.specs.GroupFile.{group_tag, group_bytes}
use Rattle.group_file.proofs.write.write_groups.Given as goal

abbrev pub invariant-loop-i : goal.invariant-loop-i
invariant-loop-i l = l.out.items ≡ (group_tag ++ bytes32 (length l.c) ++ bytes32 0) ++ flat_map group_bytes (take l.i l.c)
