use Rattle.rank_walk.proofs.Sends.{sorted_low}
use Rattle.rank_walk.proofs.sending.sums_for.Goals as goal

pub summed_all-requires-clause-low : goal.summed_all-requires-clause-low
summed_all-requires-clause-low c = sorted_low c.args.slots.now c.args.touched.now c.args.home c.in_ok-ranked.ranked.items c.sort.new.ranked.items c.deref.result.now c.in_ok-ranked.ensures c.sort.ensures.permutation c.deref.ensures.value
