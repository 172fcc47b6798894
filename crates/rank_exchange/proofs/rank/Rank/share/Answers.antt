use Rattle.std.proofs.Common.{◌≡◌, ◌<◌, length, refl, ap, sym, ◌∙◌, arith, subst}
use Rattle.std.specs.List.{AllByRecursion}
use Rattle.rank_laws.specs.Whole.{ranks_of}
use Rattle.rank_laws.specs.Machine.{Parts, Share}
use Rattle.rank_laws.specs.Contents.{parts_sent, wanted}
use Rattle.rank_exchange.specs.Came.{HandsOut}
use Rattle.rank_exchange.specs.Handed.{handed_to}
use Rattle.rank_exchange.specs.Moments.{Moment, state_at}
use Rattle.rank_exchange.specs.Ranks.{DoesNext, SharesNext}
use Rattle.rank_exchange.proofs.Acts.{all_ranks, all_sent, totals_kept}
use Rattle.rank_exchange.proofs.Ranked.{totals_long}
use Rattle.rank_exchange.proofs.rank.Rank.share.Goals as goal

pub shares_found-requires : goal.shares_found-requires
shares_found-requires c = (
  c.requires.0,
  record {
    does = record { rank = (c.in_ok-sort_own.ensures c.requires.0 c.requires.1.rank).rank; next = c.requires.1.next };
    sorted = (c.in_ok-sort_own.ensures c.requires.0 c.requires.1.rank).sorted;
  },
)

given : (c : goal.After-keep_shares-arg-1) (m : Moment) → DoesNext m Share c.args.self.now → c.in_ok-given.given.items ≡ parts_sent m.whole m.rank m.rank
given c m h =
    let s : SharesNext m c.sort_own.new.self = record { does = record { rank = (c.in_ok-sort_own.ensures m h.rank).rank; next = h.next }; sorted = (c.in_ok-sort_own.ensures m h.rank).sorted } in
    c.in_ok-given.ensures ∙ (λ i. handed_to (c.deref-3.ensures.value i) (s.does.rank.most.number i)) ∙ c.in_ok-sums.ensures m s m.rank m.within

pub keep_shares-requires : goal.keep_shares-requires
keep_shares-requires c = (c.requires.0, (record { does = record { rank = (c.in_ok-sort_own.ensures c.requires.0 c.requires.1.rank).rank; next = c.requires.1.next }; sorted = (c.in_ok-sort_own.ensures c.requires.0 c.requires.1.rank).sorted }, given c c.requires.0 c.requires.1))

pub returns : goal.returns
returns c = λ m h.
    let s : SharesNext m c.sort_own.new.self = record { does = record { rank = (c.in_ok-sort_own.ensures m h.rank).rank; next = h.next }; sorted = (c.in_ok-sort_own.ensures m h.rank).sorted } in
    let g : c.in_ok-given.given.items ≡ parts_sent m.whole m.rank m.rank = c.in_ok-given.ensures ∙ (λ i. handed_to (c.deref-3.ensures.value i) (s.does.rank.most.number i)) ∙ c.in_ok-sums.ensures m s m.rank m.within in
    let e : c.len-size.result ≡ length (wanted m.whole m.rank) = omega (arith, c.len-size.ensures, c.sort_own.new.self.totals.ok, ap length (totals_kept m c.sort_own.new.self s).are, totals_long m.whole m.rank) in
    record {
      rank = c.in_ok-keep_shares.ensures m s g;
      kind = refl;
      size = e;
      messages = all_sent m c.sort_own.new.self s.does.rank.most Parts c.deref-2.result.now c.in_ok-messages.messages.items (c.deref-2.ensures.value ∙ c.in_ok-to.ensures.others)
          (c.in_ok-messages.ensures m (subst (HandsOut m) (sym c.deref.ensures.value) (c.in_ok-sums.ensures m s)) (sym s.does.rank.most.number)
          (subst (AllByRecursion (λ q. q < ranks_of m.whole)) (sym c.deref-2.ensures.value) (all_ranks m c.sort_own.new.self s.does.rank.most c.in_ok-to.to.items c.in_ok-to.ensures.ranks)));
    }
