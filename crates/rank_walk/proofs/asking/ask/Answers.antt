use Rattle.std.proofs.Common.{subst, sym}
use Rattle.std.specs.List.{AllByRecursion}
use Rattle.rank_walk.specs.Asked.{IsRanked}
use Rattle.rank_walk.proofs.Unasked.{each_permuted}
use Rattle.rank_walk.proofs.asking.ask.Goals as goal

pub cells_at-requires : goal.cells_at-requires
cells_at-requires c = subst (AllByRecursion (IsRanked c.args.slots.now)) (sym c.deref-2.ensures.value) (each_permuted (IsRanked c.args.slots.now) c.in_ok-ranked.ranked.items c.sort.new.ranked.items c.sort.ensures.permutation c.in_ok-ranked.ensures.each)
