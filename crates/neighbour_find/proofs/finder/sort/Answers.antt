use Rattle.std.proofs.lemmas.List.Sorted.{IsNonDecreasingBy-from_sort}
use Rattle.neighbour_find.proofs.finder.sort.Goals as goal

pub returns-clause-up : goal.returns-clause-up
returns-clause-up c = IsNonDecreasingBy-from_sort (λ n. n) c.sort_unstable.new.self.items c.sort_unstable.ensures.sorted
