use Rattle.std.proofs.Common.{sym, subst, rules}
use Rattle.std.proofs.lemmas.List.Sorted.{IsNonDecreasingBy-from_sort_by_key}
use Rattle.rank_exchange.specs.declared.keyed.Keyed.{Keyed}
use Rattle.rank_exchange.specs.Keyed.{IsAdded, IsRising, IsLight}
use Rattle.rank_exchange.proofs.KeyedUp.{light_sorted, sums_permuted}
use Rattle.rank_exchange.proofs.keyed.sums_of.Goals as goal

pub add_all-requires : goal.add_all-requires
add_all-requires c =
    let r : IsRising c.sort_by_key.new.self.items = IsNonDecreasingBy-from_sort_by_key (λ (e : Keyed). e.key) _ c.in_ok-sort_by_key.ensures.sorted (λ a r q k. search rules) in
    record { rises = subst IsRising (sym c.deref.ensures.value) r; light = subst IsLight (sym c.deref.ensures.value) (light_sorted c.args.entries.items c.sort_by_key.new.self.items c.sort_by_key.ensures.permutation c.requires) }

pub returns : goal.returns
returns c = sums_permuted c.args.entries.items c.sort_by_key.new.self.items _ c.sort_by_key.ensures.permutation (subst (λ t. IsAdded t c.in_ok-sums.sums.items) c.deref.ensures.value c.in_ok-sums.ensures)
