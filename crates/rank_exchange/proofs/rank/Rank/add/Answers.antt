use Rattle.std.proofs.Common.{◌≡◌, length, refl, ap, sym, ◌∙◌, arith}
use Rattle.rank_laws.specs.Machine.{Want}
use Rattle.rank_laws.specs.Contents.{wanted}
use Rattle.rank_exchange.specs.Came.{home_totals}
use Rattle.rank_exchange.specs.Moments.{state_at}
use Rattle.rank_exchange.proofs.Acts.{all_sent}
use Rattle.rank_exchange.proofs.Ranked.{rank_added, totals_long}
use Rattle.rank_exchange.proofs.rank.Rank.add.Goals as goal

pub returns : goal.returns
returns c = λ m h. record {
  rank = rank_added m.whole m.rank (state_at m) c.args.self.now c.in_ok-totals.totals (c.in_ok-totals.ensures m h) h.rank;
  kind = refl;
  size = (let e : c.len-size.result ≡ length (wanted m.whole m.rank) = omega (arith, c.len-size.ensures, c.in_ok-totals.totals.ok, ap length (c.in_ok-totals.ensures m h).are, totals_long m.whole m.rank) in e);
  messages = all_sent m c.args.self.now h.rank.most Want c.deref-2.result.now c.in_ok-messages.messages.items (c.deref-2.ensures.value ∙ c.in_ok-to.ensures.others)
      (c.in_ok-messages.ensures m.whole (c.deref.ensures.value ∙ (c.in_ok-totals.ensures m h).are ∙ ap (home_totals m.whole) (sym h.rank.most.number)));
}
