use Rattle.std.proofs.Common.{ℕ, List}
use Rattle.home_cells.specs.Entries.{AreSpansOf}
use Rattle.home_cells.proofs.Made.{AreSoFar}
use Rattle.home_cells.proofs.spans.entries_told.Given as goal

abbrev pub invariant-loop-i : goal.invariant-loop-i
invariant-loop-i l = (bounds : List ℕ) → AreSpansOf l.tree bounds l.spans → AreSoFar l.tree bounds l.to l.i l.entries.items
