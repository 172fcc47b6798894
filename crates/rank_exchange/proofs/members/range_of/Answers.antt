use Rattle.std.proofs.Common.{arith}
use Rattle.rank_exchange.proofs.OwnMembers.{last_fits, members_between}
use Rattle.rank_exchange.proofs.members.range_of.Goals as goal

pub overflow_add-last : goal.overflow_add-last
overflow_add-last c = omega (arith, c.cell_key_range-first.ensures.last, last_fits c.args.cell.now c.is_of_box.ensures)

pub returns : goal.returns
returns c = λ S k. members_between c.args.keys.now S c.args.cell.now c.count_below.result c.count_below-2.result c.cell_key_range-first.result.0 c.cell_key_range-first.result.1 k c.is_of_box.ensures c.cell_key_range-first.ensures.first c.cell_key_range-first.ensures.last c.count_below.ensures c.count_below-2.ensures
