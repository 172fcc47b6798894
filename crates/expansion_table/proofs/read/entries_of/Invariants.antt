use Rattle.std.proofs.Common.{◌≡◌, map, not}
use Rattle.std.specs.List.{range_with_len}
use Rattle.expansion_table.specs.ExpansionFile.{entry_in, may_stand}
use Rattle.expansion_table.proofs.Firsts.{FailsBelow}
use Rattle.expansion_table.proofs.read.entries_of.Given as goal

abbrev pub invariant-loop-index : goal.invariant-loop-index
invariant-loop-index l = (l.entries.items ≡ map (entry_in l.bytes) (range_with_len 0 l.index)) × FailsBelow (λ index. not (may_stand l.bytes index)) l.index
