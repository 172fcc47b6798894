use Rattle.std.proofs.Common.{◌∙◌, ◌&&◌, ap, not}
use Rattle.rank_exchange.proofs.Nexts.{may_share_is}
use Rattle.rank_exchange.proofs.rank.Rank.may_share.Goals as goal

pub returns : goal.returns
returns c = λ m h. c.both.ensures ∙ ap (λ x. x && not c.args.self.now.shared) c.both-comes.ensures ∙ may_share_is m c.args.self.now h
