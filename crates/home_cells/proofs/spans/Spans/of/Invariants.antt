use Rattle.home_cells.proofs.Spanned.{AreFirstSpans}
use Rattle.home_cells.proofs.spans.Spans.of.Given as goal

abbrev pub invariant-loop-i : goal.invariant-loop-i
invariant-loop-i l = AreFirstSpans l.tree l.bounds l.i l.spans.items
