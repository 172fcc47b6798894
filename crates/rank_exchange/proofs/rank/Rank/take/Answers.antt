use Rattle.std.proofs.Common.{ap, sym, ◌∙◌}
use Rattle.rank_exchange.proofs.rank.Rank.take.Goals as goal

pub take_load-requires : goal.take_load-requires
take_load-requires c = (
  c.requires.0,
  record {
    rank = c.requires.1.0;
    carries = ap (λ t. t.contents) (c.message.view_is ∙ c.requires.1.1);
    sender = sym (ap (λ t. t.from) (c.message.view_is ∙ c.requires.1.1));
  },
)
