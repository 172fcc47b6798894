use Rattle.std.proofs.Common.{◌∙◌}
use Rattle.rank_exchange.proofs.Nexts.{ready_is}
use Rattle.rank_exchange.proofs.rank.Rank.is_ready.Goals as goal

pub returns : goal.returns
returns c = λ m h. c.both.ensures ∙ ready_is m c.args.self.now h
