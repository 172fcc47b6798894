use Rattle.std.proofs.Common.{◌≡◌, find, map, None}
use Rattle.std.specs.List.{range_with_len}
use Rattle.ewald_table.specs.TableFile.{entry_in, leaves_plane}
use Rattle.ewald_table.proofs.read.entries_of.Given as goal

abbrev pub invariant-loop-index : goal.invariant-loop-index
invariant-loop-index l =
    (l.entries.items ≡ map (entry_in l.bytes) (range_with_len 0 l.index))
    × (find (λ index. leaves_plane l.g index (entry_in l.bytes index)) (range_with_len 0 l.index) ≡ None)
