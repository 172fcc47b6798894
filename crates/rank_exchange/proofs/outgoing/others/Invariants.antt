use Rattle.std.proofs.Common.{◌≡◌, eqb, not}
use Rattle.std.specs.List.{filter, range_with_len}
use Rattle.rank_exchange.proofs.outgoing.others.Given as goal

abbrev pub invariant-loop-rank : goal.invariant-loop-rank
invariant-loop-rank l = l.others.items ≡ filter (λ q. not (eqb q l.number)) (range_with_len 0 l.rank)
