use Rattle.rank_exchange.specs.Moments.{state_at}
use Rattle.rank_exchange.specs.Ranks.{seat_at}
use Rattle.rank_exchange.proofs.Awaiting.{awaits_reply, has_walker, keeps_replied}
use Rattle.rank_exchange.proofs.rank.Rank.take_reply.Goals as goal

pub unreachable-requires : goal.unreachable-requires
unreachable-requires c = has_walker c.requires.0 c.args.self.now c.requires.1.0 c.in-None.is

pub hear_answer-requires : goal.hear_answer-requires
hear_answer-requires c = (seat_at c.requires.0.moment, (state_at c.requires.0.moment, (c.requires.0.message.cell, awaits_reply c.requires.0 c.args.self.now c.requires.1.0 c.in-Some.walker c.in-Some.is c.args.entry c.requires.1.1)))

pub returns : goal.returns
returns c = λ a h e. keeps_replied a c.args.self.now h c.in-Some.walker c.in-Some.is c.hear_answer.new.walker
    (c.hear_answer.ensures (seat_at a.moment) (state_at a.moment) a.message.cell (awaits_reply a c.args.self.now h c.in-Some.walker c.in-Some.is c.args.entry e))
