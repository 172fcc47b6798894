use Rattle.std.proofs.Common.{arith}
use Rattle.rank_laws.specs.Machine.{Sums}
use Rattle.rank_exchange.proofs.Ranked.{one_due, sums_taken}
use Rattle.rank_exchange.proofs.rank.Rank.take_sums.Goals as goal

pub overflow_sub-self : goal.overflow_sub-self
overflow_sub-self c = one_due c.requires.0 Sums (omega arith) c.requires.1.kind c.args.self.now.due.sums c.requires.1.rank.most.due.sums

pub returns : goal.returns
returns c = λ a h e. sums_taken a c.args.self.now h c.args.sums.items _ e c.in_ok-append.ensures.items
