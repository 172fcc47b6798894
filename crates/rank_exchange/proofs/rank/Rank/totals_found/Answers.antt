use Rattle.rank_exchange.proofs.Acts.{has_sums}
use Rattle.rank_exchange.proofs.rank.Rank.totals_found.Goals as goal

pub home_totals-requires : goal.home_totals-requires
home_totals-requires c = (c.requires.0, has_sums c.requires.0 c.args.self.now c.requires.1 c.in_ok-own.own.items c.deref.result.now (c.in_ok-own.ensures c.requires.0 c.requires.1) c.deref.ensures.value)

pub returns : goal.returns
returns c = λ m h. record {
  are = c.in_ok-totals.ensures.totals m (has_sums m c.args.self.now h c.in_ok-own.own.items c.deref.result.now (c.in_ok-own.ensures m h) c.deref.ensures.value);
  climbs = c.in_ok-totals.ensures.climbs;
  boxed = c.in_ok-totals.ensures.cells;
}
