use Rattle.std.proofs.Common.{ap, arith}
use Rattle.rank_laws.specs.Homes.{rank_of_key}
use Rattle.domain_split.proofs.Ranked.{last_small, first_small, first_last}
use Rattle.domain_split.proofs.homes.span.Goals as goal

pub rank_of-requires : goal.rank_of-requires
rank_of-requires c = omega (arith, c.cell_key_range-first.ensures.first, first_small c.args.cell.now c.is_of_box.ensures.shallow)

pub rank_of-requires-2 : goal.rank_of-requires-2
rank_of-requires-2 c = omega (arith, c.cell_key_range-first.ensures.last, last_small c.args.cell.now c.is_of_box.ensures.shallow)

pub returns-clause-order : goal.returns-clause-order
returns-clause-order c = omega (arith, c.rank_of.ensures.value, c.rank_of-2.ensures.value, ap (rank_of_key c.args.bounds.now) c.cell_key_range-first.ensures.first, ap (rank_of_key c.args.bounds.now) c.cell_key_range-first.ensures.last, first_last c.args.bounds.now c.args.cell.now)
