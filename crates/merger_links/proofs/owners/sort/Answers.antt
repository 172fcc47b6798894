use Rattle.std.proofs.Common.{rules}
use Rattle.std.proofs.lemmas.List.Sorted.{IsNonDecreasingBy-from_sort_by_key}
use Rattle.merger_links.proofs.owners.sort.Goals as goal

pub returns-clause-up : goal.returns-clause-up
returns-clause-up c = IsNonDecreasingBy-from_sort_by_key (λ o. o.id) c.sort_unstable_by_key.new.self.items c.sort_unstable_by_key.ensures.sorted (λ a r q k. search rules)
