use Rattle.std.proofs.Common.{◌∙◌, ◌&&◌, ap}
use Rattle.rank_laws.specs.Machine.{ready}
use Rattle.rank_laws.specs.Whole.{rules_of}
use Rattle.rank_exchange.specs.Moments.{state_at}
use Rattle.rank_exchange.proofs.rank.Rank.may_walk.Goals as goal

pub returns : goal.returns
returns c = λ m h. c.both.ensures ∙ ap (λ x. x && c.may_go.result) (c.is_ready.ensures m h) ∙ ap (λ x. ready (rules_of m.whole) m.rank (state_at m) && x) (c.may_go.ensures m h)
