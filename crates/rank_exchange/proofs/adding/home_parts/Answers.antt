use Rattle.rank_exchange.proofs.PartsOwed.{parts_handed, shares_light}
use Rattle.rank_exchange.proofs.adding.home_parts.Goals as goal

pub sums_of-requires : goal.sums_of-requires
sums_of-requires c = shares_light c.requires.0 c.args.totals.now c.args.kept.now c.requires.1 c.in_ok-shares.ensures.ids c.in_ok-shares.shares.items c.in_ok-shares.ensures.shares

pub returns-clause-parts : goal.returns-clause-parts
returns-clause-parts c = λ m h. parts_handed m c.args.totals.now c.args.kept.now h c.in_ok-shares.ensures.ids c.in_ok-shares.shares.items c.in_ok-sums.sums.items c.in_ok-shares.ensures.shares c.in_ok-sums.ensures
