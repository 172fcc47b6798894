use Rattle.std.proofs.Common.{◌≡◌, ◌++◌, List, ℕ, ap, sym, ◌∙◌, subst}
use Rattle.std.specs.List.{filter_map}
use Rattle.std.specs.List.Sorted.{IsPermutation}
use Rattle.merger_links.specs.Owners.{owner_in}
use Rattle.merger_links.proofs.Often.{often_permuted}
use Rattle.merger_links.proofs.ties.tie_by.Goals as goal

pub returns : goal.returns
returns c D good owners =
    let all : List ℕ = filter_map (owner_in D) c.args.ids.now in
    let found : c.find_all.new.found.items ≡ all = c.in_ok-find_all.ensures D good owners ∙ ap (λ (xs : List ℕ). xs ++ all) c.clear.ensures.items in
    often_permuted all c.deref.result.now c.most_often.result
    (subst (λ (xs : List ℕ). IsPermutation xs c.deref.result.now) found (subst (λ (xs : List ℕ). IsPermutation c.find_all.new.found.items xs) (sym c.deref.ensures.value) c.sort.ensures.permutation)) c.most_often.ensures
