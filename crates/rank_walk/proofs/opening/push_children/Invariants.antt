use Rattle.std.proofs.Common.{◌≤◌}
use Rattle.rank_walk.specs.Seats.{Seat, TellsBelow}
use Rattle.rank_walk.specs.Tables.{IsMaking}
use Rattle.rank_walk.proofs.opening.push_children.Given as goal

abbrev pub invariant-loop-k : goal.invariant-loop-k
invariant-loop-k g l = record {
  small : l.k ≤ 8;
  made : (z : Seat) → g.S.Source.serves l.source z → TellsBelow l.cell l.below z → IsMaking z l.cell l.fn.heard l.k l.heard;
}

abbrev pub decreases-loop-k : goal.decreases-loop-k
decreases-loop-k g l = l.k
