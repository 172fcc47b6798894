use Rattle.std.proofs.Common.{◌∙◌, ap, sym, arith, map, subst}
use Rattle.rank_laws.specs.Contents.{members_sent}
use Rattle.rank_laws.specs.Machine.{Members}
use Rattle.rank_exchange.specs.Came.{kept_from}
use Rattle.rank_exchange.proofs.Ranked.{members_taken, one_due}
use Rattle.rank_exchange.proofs.rank.Rank.take_members.Goals as goal

pub overflow_sub-self : goal.overflow_sub-self
overflow_sub-self c = one_due c.requires.0 Members (omega arith) c.requires.1.kind c.args.self.now.due.members c.requires.1.rank.most.due.members

pub returns : goal.returns
returns c = λ a h f e. members_taken a c.args.self.now h (map (kept_from c.args.from) c.args.members.now) _ (ap (map (kept_from c.args.from)) e ∙ ap (λ q. map (kept_from q) (members_sent a.moment.whole q a.moment.rank)) (sym f)) c.in_ok-keep_members.ensures
