use Rattle.std.proofs.Common.{◌<◌, ◌^◌, length, map, ap, ◌∙◌, sym, subst, arith}
use Rattle.std.specs.List.Sorted.{IsPermutation}
use Rattle.rank_exchange.specs.Shares.{shared_at, shared_in}
use Rattle.rank_exchange.proofs.Groups.{nobody}
use Rattle.rank_exchange.proofs.Parted.{shares_permuted}
use Rattle.rank_exchange.proofs.shares.shares_of.Goals as goal

pub returns-clause-shares : goal.returns-clause-shares
returns-clause-shares c =
    let few : length c.args.kept.now < 2 ^ 32 = omega (arith, c.if-kept-gt4294967295.false) in
    subst (IsPermutation (map (shared_in c.args.totals.now c.args.kept.now) c.args.kept.now)) (sym (c.in_ok-share_all.ensures nobody ∙ ap (map (shared_at c.args.totals.now c.args.kept.now nobody)) c.deref.ensures.value))
    (shares_permuted c.args.totals.now c.args.kept.now nobody c.in_ok-numbers.numbers.items few c.in_ok-numbers.ensures)

pub returns-clause-ids : goal.returns-clause-ids
returns-clause-ids c = c.in_ok-numbers.ensures.ids
