use Rattle.std.proofs.Common.{◌≡◌, take}
use Rattle.rank_exchange.specs.Shares.{places_in}
use Rattle.rank_exchange.proofs.shares.places_of.Given as goal

abbrev pub invariant-loop-i : goal.invariant-loop-i
invariant-loop-i l = l.places.items ≡ places_in (take l.i l.totals)
