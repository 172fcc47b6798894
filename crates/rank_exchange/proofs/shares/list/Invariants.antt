use Rattle.std.proofs.Common.{◌≡◌, map, take}
use Rattle.rank_exchange.specs.declared.shares.Kept.{Kept}
use Rattle.rank_exchange.specs.Shares.{member_at}
use Rattle.rank_exchange.proofs.shares.list.Given as goal

abbrev pub invariant-loop-number : goal.invariant-loop-number
invariant-loop-number l = (d : Kept) → l.members.items ≡ map (member_at l.kept d) (take l.number-index l.numbers)
