use Rattle.std.proofs.Common.{◌≡◌, ◌++◌, take}
use Rattle.home_cells.specs.Tables.{marked}
use Rattle.home_cells.proofs.marks.numbers_with.Given as goal

abbrev pub invariant-loop-i : goal.invariant-loop-i
invariant-loop-i l = l.numbers.items ≡ l.order ++ marked l.count (take l.i l.entries)
