use Rattle.std.proofs.Common.{refl, sym}
use Rattle.rank_exchange.proofs.Doing.{keeps_walked, walks_next}
use Rattle.rank_exchange.proofs.rank.Rank.walk_on.Goals as goal

pub walk-requires : goal.walk-requires
walk-requires c = (c.requires.0, walks_next c.requires.0 c.args.kit.now c.args.bounds.now c.args.self.now c.requires.1 _ refl (λ i. record { setup = sym c.setup.ensures i; table = sym c.table.ensures i }) refl refl)

pub returns-clause-rank : goal.returns-clause-rank
returns-clause-rank c = λ m h. keeps_walked m c.args.kit.now c.args.bounds.now c.args.self.now h c.walk.new.walker
    (c.in_ok-walked.ensures.state m (walks_next m c.args.kit.now c.args.bounds.now c.args.self.now h _ refl (λ i. record { setup = sym c.setup.ensures i; table = sym c.table.ensures i }) refl refl))

pub returns-clause-size : goal.returns-clause-size
returns-clause-size c = λ m h. c.in_ok-walked.ensures.size m (walks_next m c.args.kit.now c.args.bounds.now c.args.self.now h _ refl (λ i. record { setup = sym c.setup.ensures i; table = sym c.table.ensures i }) refl refl)

pub returns-clause-asks : goal.returns-clause-asks
returns-clause-asks c = λ m h. c.in_ok-walked.ensures.asks m (walks_next m c.args.kit.now c.args.bounds.now c.args.self.now h _ refl (λ i. record { setup = sym c.setup.ensures i; table = sym c.table.ensures i }) refl refl)
