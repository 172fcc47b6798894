use Rattle.std.proofs.Common.{◌≡◌, map, ◌+◌, ◌*◌}
use Rattle.std.specs.List.{range_with_len}
use Rattle.fixed_point.specs.Bytes.{word64_at}
use Rattle.rewind.proofs.records.ids_of.Given as goal

abbrev pub invariant-loop-i : goal.invariant-loop-i
invariant-loop-i l = l.ids.items ≡ map (λ i. word64_at l.bytes (l.fn.at + 4 + 8 * i)) (range_with_len 0 l.i)
