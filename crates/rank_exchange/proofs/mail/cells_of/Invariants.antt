use Rattle.std.proofs.Common.{◌≡◌, take}
use Rattle.rank_exchange.specs.Sums.{cells_in}
use Rattle.rank_exchange.proofs.mail.cells_of.Given as goal

abbrev pub invariant-loop-total : goal.invariant-loop-total
invariant-loop-total l = l.cells.items ≡ cells_in (take l.total-index l.totals)
