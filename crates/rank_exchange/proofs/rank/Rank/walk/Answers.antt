use Rattle.rank_exchange.proofs.rank.Rank.walk.Goals as goal

pub sent_after-requires : goal.sent_after-requires
sent_after-requires c = (c.requires.0, record { rank = c.in_ok-walked.ensures.rank c.requires.0 c.requires.1; bounds = c.requires.1.attends.bounds; next = c.requires.1.next })
