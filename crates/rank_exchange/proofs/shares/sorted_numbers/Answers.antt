use Rattle.std.proofs.Common.{◌∙◌, sym, subst}
use Rattle.std.proofs.lemmas.List.Sorted.{IsNonDecreasingBy-from_sort}
use Rattle.octree_build.specs.Trees.{Rises}
use Rattle.rank_exchange.proofs.Groups.{climbs_rise}
use Rattle.rank_exchange.proofs.Parted.{numbers_sorted}
use Rattle.rank_exchange.proofs.shares.sorted_numbers.Goals as goal

pub numbers_of-requires-clause-rises : goal.numbers_of-requires-clause-rises
numbers_of-requires-clause-rises c = subst (Rises (λ k. k)) (sym (c.deref.ensures.value ∙ c.in_ok-places.ensures)) (climbs_rise c.args.totals.now c.requires.climbs)

pub returns : goal.returns
returns c = numbers_sorted c.args.totals.now c.args.kept.now c.in_ok-numbers.numbers.items c.sort.new.self.items c.requires.long (c.in_ok-numbers.ensures c.args.totals.now (c.deref.ensures.value ∙ c.in_ok-places.ensures)) c.sort.ensures.permutation (IsNonDecreasingBy-from_sort (λ n. n) c.sort.new.self.items c.in_ok-sort.ensures.sorted)
