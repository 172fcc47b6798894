use Rattle.std.proofs.Common.{◌≡◌, ◌<◌, ◌∙◌, ap, arith, eqb, not, sym, subst}
use Rattle.std.specs.List.{AllByRecursion, filter, range_with_len}
use Rattle.rank_exchange.proofs.Others.{others_low, others_more}
use Rattle.rank_exchange.proofs.outgoing.others.Goals as goal

pub loop-rank-preserved : goal.loop-rank-preserved
loop-rank-preserved c = others_more c.args.number c.loop-rank.rank c.loop-rank.others.items _ c.loop-rank.invariant c.in_ok-push_other.ensures

pub returns-clause-ranks : goal.returns-clause-ranks
returns-clause-ranks c =
    let end : c.loop-rank.rank ≡ c.args.ranks = omega (arith, c.loop-rank-test.false, c.loop-rank.auto.rank-end) in
    subst (AllByRecursion (λ q. q < c.args.ranks)) (sym (c.loop-rank.invariant ∙ ap (λ n. filter (λ q. not (eqb q c.args.number)) (range_with_len 0 n)) end)) (others_low c.args.number c.args.ranks)
