use Rattle.std.proofs.Common.{◌∙◌, ◌&&◌, ap, not}
use Rattle.rank_exchange.proofs.Nexts.{may_add_is}
use Rattle.rank_exchange.proofs.rank.Rank.may_add.Goals as goal

pub returns : goal.returns
returns c = λ m h. c.both.ensures ∙ ap (λ x. x && not c.args.self.now.added) c.both-comes.ensures ∙ may_add_is m c.args.self.now h _ (c.is_through.ensures m h)
