use Rattle.std.proofs.lemmas.List.Sorted.{IsNonDecreasingBy-from_sort}
use Rattle.octree_build.proofs.Parts.{part}
use Rattle.rank_exchange.proofs.OwnMembers.{numbers_sorted}
use Rattle.rank_exchange.proofs.members.sort.Goals as goal

pub returns : goal.returns
returns c = numbers_sorted (part c.args.bodies.now c.args.low c.args.high) c.number.new.numbers.items c.sort.new.self.items c.in_ok-number.ensures c.sort.ensures.permutation (IsNonDecreasingBy-from_sort (λ n. n) c.sort.new.self.items c.in_ok-sort.ensures.sorted)
