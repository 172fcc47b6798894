use Rattle.std.proofs.Common.{◌≡◌, sym, ◌∙◌, subst}
use Rattle.rank_laws.specs.Machine.{Want}
use Rattle.rank_laws.specs.Whole.{own}
use Rattle.rank_exchange.specs.Members.{AreOwn}
use Rattle.rank_exchange.specs.Moments.{Arrival}
use Rattle.rank_exchange.specs.Ranks.{Meets}
use Rattle.rank_exchange.proofs.Acts.{own_along}
use Rattle.rank_exchange.proofs.Ranked.{want_answered, want_taken}
use Rattle.rank_exchange.proofs.rank.Rank.take_want.Goals as goal

pub listed-requires : goal.listed-requires
listed-requires c = (own c.requires.0.moment.whole c.requires.0.moment.rank, own_along c.requires.0.moment c.sort_own.new.self (c.in_ok-sort_own.ensures c.requires.0.moment c.requires.1.rank).rank (c.in_ok-sort_own.ensures c.requires.0.moment c.requires.1.rank).sorted c.deref.result.now c.deref.ensures.value)

pub returns : goal.returns
returns c = λ a h f e. record {
  rank = want_taken a c.sort_own.new.self (record { rank = (c.in_ok-sort_own.ensures a.moment h.rank).rank; kind = h.kind });
  answer = want_answered a c.sort_own.new.self (record { rank = (c.in_ok-sort_own.ensures a.moment h.rank).rank; kind = h.kind }) c.args.home f c.in_ok-answer.answer
      (c.in_ok-answer.ensures a.moment.whole
      (subst (λ q. AreOwn (own a.moment.whole q) c.deref.result.now) (sym (c.in_ok-sort_own.ensures a.moment h.rank).rank.most.number)
      (own_along a.moment c.sort_own.new.self (c.in_ok-sort_own.ensures a.moment h.rank).rank (c.in_ok-sort_own.ensures a.moment h.rank).sorted c.deref.result.now c.deref.ensures.value)) e);
}
