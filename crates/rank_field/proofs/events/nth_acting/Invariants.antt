use Rattle.std.proofs.Common.{◌≡◌, ◌≤◌, length}
use Rattle.rank_laws.specs.Machine.{Message, Rank}
use Rattle.rank_laws.specs.Protocol.{World}
use Rattle.rank_laws.specs.Whole.{Whole}
use Rattle.rank_field.specs.Machines.{HoldsRanks, acts_in}
use Rattle.rank_field.proofs.Passed.{passed}
use Rattle.rank_field.proofs.events.nth_acting.Given as goal

abbrev pub invariant-loop-number : goal.invariant-loop-number
invariant-loop-number l = record {
  bound : l.before ≤ l.n;
  count : (w : Whole) (z : World Rank Message) → HoldsRanks w z l.ranks → l.before ≡ length (passed (acts_in w z) l.number);
}
