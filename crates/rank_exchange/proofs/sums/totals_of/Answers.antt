use Rattle.std.proofs.Common.{◌≡◌, List, sym, subst, rules}
use Rattle.std.specs.List.Sorted.{IsPermutation, IsNonDecreasingBy}
use Rattle.std.proofs.lemmas.List.Sorted.{IsNonDecreasingBy-from_sort_by_key}
use Rattle.rank_laws.specs.Contents.{Summed}
use Rattle.rank_exchange.specs.declared.sums.Placed.{Placed}
use Rattle.rank_exchange.specs.Sums.{AreInOrder, IsAdded, IsLight, entries_in}
use Rattle.rank_exchange.proofs.Totals.{sorted_entries, light_sorted, added_totals}
use Rattle.rank_exchange.proofs.sums.totals_of.Goals as goal

sorted_as : (es : List Summed) (ps qs rs : List Placed) → rs ≡ qs → AreInOrder (entries_in qs) × IsPermutation es (entries_in qs) → IsLight es → AreInOrder (entries_in rs) × IsLight (entries_in rs)
sorted_as es ps qs rs e h l = subst (λ t. AreInOrder (entries_in t) × IsLight (entries_in t)) (sym e) (h.0, light_sorted es (entries_in qs) h.1 l)

pub add_all-requires : goal.add_all-requires
add_all-requires c =
    let r : IsNonDecreasingBy (λ (p : Placed). p.place) c.sort_by_key.new.self.items = IsNonDecreasingBy-from_sort_by_key (λ (p : Placed). p.place) _ c.in_ok-sort_by_key.ensures.sorted (λ a r q k. search rules) in
    let s : AreInOrder (entries_in c.sort_by_key.new.self.items) × IsPermutation c.args.entries.now (entries_in c.sort_by_key.new.self.items) = sorted_entries c.args.entries.now c.in_ok-all.all.items c.sort_by_key.new.self.items c.in_ok-all.ensures c.sort_by_key.ensures.permutation r in
    let t : AreInOrder (entries_in c.deref.result.now) × IsLight (entries_in c.deref.result.now) = sorted_as c.args.entries.now c.in_ok-all.all.items c.sort_by_key.new.self.items c.deref.result.now c.deref.ensures.value s c.requires in
    record { rises = t.0; light = t.1 }

pub returns-clause-totals : goal.returns-clause-totals
returns-clause-totals c = λ bounds.
    let r : IsNonDecreasingBy (λ (p : Placed). p.place) c.sort_by_key.new.self.items = IsNonDecreasingBy-from_sort_by_key (λ (p : Placed). p.place) _ c.in_ok-sort_by_key.ensures.sorted (λ a r q k. search rules) in
    let s : AreInOrder (entries_in c.sort_by_key.new.self.items) × IsPermutation c.args.entries.now (entries_in c.sort_by_key.new.self.items) = sorted_entries c.args.entries.now c.in_ok-all.all.items c.sort_by_key.new.self.items c.in_ok-all.ensures c.sort_by_key.ensures.permutation r in
    added_totals bounds c.args.entries.now (entries_in c.sort_by_key.new.self.items) _ s.1 (subst (λ t. IsAdded (entries_in t) c.in_ok-totals.totals.items) c.deref.ensures.value c.in_ok-totals.ensures)
