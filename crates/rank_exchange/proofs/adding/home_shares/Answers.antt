use Rattle.rank_exchange.proofs.HomeMembers.{may_share}
use Rattle.rank_exchange.proofs.adding.home_shares.Goals as goal

pub shares_of-requires : goal.shares_of-requires
shares_of-requires c = may_share c.requires.0 c.args.totals.now c.args.kept.now c.requires.1
