use Rattle.std.proofs.lemmas.List.Sorted.{IsNonDecreasingBy-from_sort}
use Rattle.home_cells.proofs.Numbers.{ordered_with}
use Rattle.home_cells.proofs.marks.order_with.Goals as goal

pub returns : goal.returns
returns c = ordered_with c.args.old.now c.args.entries.now c.args.order.now c.in_ok-numbers.numbers.items c.sort.new.self.items c.requires.order c.requires.few c.in_ok-numbers.ensures c.sort.ensures.permutation (IsNonDecreasingBy-from_sort (λ n. n) c.sort.new.self.items c.in_ok-sort.ensures.sorted)
