use Rattle.std.proofs.Common.{◌≡◌, ◌++◌, map, take}
use Rattle.rank_exchange.specs.Members.{listed_at}
use Rattle.rank_exchange.proofs.members.push_listed.Given as goal

abbrev pub invariant-loop-number : goal.invariant-loop-number
invariant-loop-number l = l.out.items ≡ l.initial.out.items ++ map (listed_at l.cell) (take l.number-index l.numbers)
