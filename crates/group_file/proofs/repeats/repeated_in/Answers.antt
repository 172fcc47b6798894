use Rattle.std.proofs.Common.{List, ℕ, sym, subst}
use Rattle.std.specs.Prelude.{IsPermutation}
use Rattle.group_file.proofs.Twice.{found}
use Rattle.group_file.proofs.repeats.repeated_in.Goals as goal

pub returns : goal.returns
returns c =
    found c.args.groups.now c.deref.result.now c.first_repeated.result
    (subst (λ (xs : List ℕ). IsPermutation xs c.deref.result.now) c.in_ok-ids.ensures (subst (λ (xs : List ℕ). IsPermutation c.in_ok-ids.ids.items xs) (sym c.deref.ensures.value) c.sort.ensures.permutation))
    c.first_repeated.ensures.none c.first_repeated.ensures.some
