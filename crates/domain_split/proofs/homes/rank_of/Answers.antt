use Rattle.std.proofs.Common.{◌+◌, ap, sym, subst, ◌∙◌, arith}
use Rattle.octree_build.specs.Trees.{Rises}
use Rattle.octree_build.specs.Slots.{keys_below}
use Rattle.domain_split.proofs.Leasts.{leasts_rise}
use Rattle.domain_split.proofs.Ranked.{rank_is, rank_within}
use Rattle.domain_split.proofs.homes.rank_of.Goals as goal

pub count_below-requires : goal.count_below-requires
count_below-requires c = subst (λ t. Rises (λ k. k) t) (sym c.rising-rising.ensures.rising) (leasts_rise c.args.bounds.now)

pub overflow_cast-result : goal.overflow_cast-result
overflow_cast-result c =
    let n = c.count_below.ensures ∙ ap (λ t. keys_below t (c.args.key + 1)) c.rising-rising.ensures.rising in
    let w = rank_within c.args.bounds.now c.args.key c.rising-rising.ensures.some c.count_below.result n in
    omega (arith, w, c.rising-rising.ensures.few, c.saturating_sub.ensures)

pub returns-clause-value : goal.returns-clause-value
returns-clause-value c =
    let n = c.count_below.ensures ∙ ap (λ t. keys_below t (c.args.key + 1)) c.rising-rising.ensures.rising in
    c.saturating_sub.ensures ∙ sym (rank_is c.args.bounds.now c.args.key c.rising-rising.ensures.some c.count_below.result n)

pub returns-clause-rank : goal.returns-clause-rank
returns-clause-rank c =
    let n = c.count_below.ensures ∙ ap (λ t. keys_below t (c.args.key + 1)) c.rising-rising.ensures.rising in
    let w = rank_within c.args.bounds.now c.args.key c.rising-rising.ensures.some c.count_below.result n in
    omega (arith, w, c.rising-rising.ensures.some, c.saturating_sub.ensures)
