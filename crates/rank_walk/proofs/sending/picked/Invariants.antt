use Rattle.rank_walk.specs.Sent.{ArePicked}
use Rattle.rank_walk.proofs.sending.picked.Given as goal

abbrev pub invariant-loop-i : goal.invariant-loop-i
invariant-loop-i l = ArePicked l.slots l.touched l.home l.i l.out.items
