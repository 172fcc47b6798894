use Rattle.std.proofs.Common.{◌≡◌, ◌≤◌, length}
use Rattle.rank_laws.specs.Machine.{Message, Rank}
use Rattle.rank_laws.specs.Protocol.{World}
use Rattle.rank_laws.specs.Whole.{Whole}
use Rattle.rank_field.specs.Machines.{HoldsRanks, acts_in}
use Rattle.rank_field.proofs.Passed.{passed}
use Rattle.rank_field.proofs.events.count_acting.Given as goal

abbrev pub invariant-loop-number : goal.invariant-loop-number
invariant-loop-number l = record {
  bound : l.count ≤ l.number;
  count : (w : Whole) (z : World Rank Message) → HoldsRanks w z l.ranks → l.count ≡ length (passed (acts_in w z) l.number);
}
