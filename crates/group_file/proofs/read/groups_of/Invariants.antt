use Rattle.std.proofs.Common.{◌≡◌, ◌≤◌, None, length}
use Rattle.group_file.specs.GroupFile.{first_of, fault_of_group, first_groups, label_before, start}
use Rattle.group_file.proofs.read.groups_of.Given as goal

abbrev pub invariant-loop-k : goal.invariant-loop-k
invariant-loop-k l = (l.at ≡ start l.bytes l._k) × (l.before ≡ label_before l.bytes l._k) × (l.groups.items ≡ first_groups l.bytes l._k) × (first_of (fault_of_group l.bytes) l._k ≡ None) × (l.at ≤ length l.bytes)
