use Rattle.std.proofs.Common.{arith}
use Rattle.domain_split.proofs.Ranked.{last_small}
use Rattle.domain_split.proofs.homes.home.Goals as goal

pub rank_of-requires : goal.rank_of-requires
rank_of-requires c = omega (arith, c.cell_key_range-first.ensures.last, last_small c.args.cell.now c.is_of_box.ensures.shallow)
