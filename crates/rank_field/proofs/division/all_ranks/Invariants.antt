use Rattle.std.proofs.Common.{◌≡◌, ◌++◌, length}
use Rattle.rank_laws.specs.Whole.{Whole}
use Rattle.rank_field.specs.Machines.{AreOwn}
use Rattle.rank_field.proofs.Beginning.{BlankBelow}
use Rattle.rank_field.proofs.division.all_ranks.Given as goal

abbrev pub invariant-loop-list : goal.invariant-loop-list
invariant-loop-list l = record {
  can_next : (goal.iterator-loop-list).can_next l.list-iterator;
  is_finite : (goal.iterator-loop-list).is_finite l.list-iterator;
  taken : l.yielded ++ l.list-iterator.rest.items ≡ l.fn.lists.items;
  as_many : length l.ranks.items ≡ length l.yielded;
  each : (w : Whole) → AreOwn w l.fn.lists.items → BlankBelow w (length l.yielded) l.ranks.items;
}
