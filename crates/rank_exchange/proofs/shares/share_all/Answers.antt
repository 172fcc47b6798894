use Rattle.std.proofs.Common.{◌≡◌, ◌*◌, ◌^◌, ◌++◌, length, map, refl, ap, ◌∙◌, sym, arith}
use Rattle.std.proofs.lemmas.List.{take_all}
use Rattle.octree_build.specs.Slots.{keys_below}
use Rattle.rank_exchange.specs.Shares.{shared_at}
use Rattle.rank_exchange.proofs.Groups.{IsOfCell, part_of_cell, none_first, mapped_part, all_below}
use Rattle.rank_exchange.proofs.shares.share_all.Goals as goal

pub loop-k-init : goal.loop-k-init
loop-k-init c = record { low = sym (none_first c.args.numbers.now); within = omega arith; out = λ d. c.requires.none; scratch = refl }

pub share_cell-requires-clause-within : goal.share_cell-requires-clause-within
share_cell-requires-clause-within c = (part_of_cell c.args.totals.now c.args.kept.now c.requires.long c.requires.may c.args.numbers.now c.requires.sorted c.loop-k.k c.loop-k-test.true c.total_at.result c.total_at.ensures c.loop-k.low c.end_of-high.result c.loop-k.invariant.low c.end_of-high.ensures.value).within

pub share_cell-requires-clause-members : goal.share_cell-requires-clause-members
share_cell-requires-clause-members c = (part_of_cell c.args.totals.now c.args.kept.now c.requires.long c.requires.may c.args.numbers.now c.requires.sorted c.loop-k.k c.loop-k-test.true c.total_at.result c.total_at.ensures c.loop-k.low c.end_of-high.result c.loop-k.invariant.low c.end_of-high.ensures.value).members

pub share_cell-requires-clause-small : goal.share_cell-requires-clause-small
share_cell-requires-clause-small c = (part_of_cell c.args.totals.now c.args.kept.now c.requires.long c.requires.may c.args.numbers.now c.requires.sorted c.loop-k.k c.loop-k-test.true c.total_at.result c.total_at.ensures c.loop-k.low c.end_of-high.result c.loop-k.invariant.low c.end_of-high.ensures.value).small

pub share_cell-requires-clause-scratch : goal.share_cell-requires-clause-scratch
share_cell-requires-clause-scratch c =
    let h : IsOfCell _ _ _ _ = part_of_cell c.args.totals.now c.args.kept.now c.requires.long c.requires.may c.args.numbers.now c.requires.sorted c.loop-k.k c.loop-k-test.true c.total_at.result c.total_at.ensures c.loop-k.low c.end_of-high.result c.loop-k.invariant.low c.end_of-high.ensures.value in
    omega (arith, h.long, c.requires.scratch, c.loop-k.invariant.scratch)

pub loop-k-preserved : goal.loop-k-preserved
loop-k-preserved c = record {
  low = c.end_of-high.ensures.value;
  within = c.end_of-high.ensures.within;
  out = λ d. mapped_part (shared_at c.args.totals.now c.args.kept.now d) c.loop-k.low c.end_of-high.result c.args.numbers.now c.loop-k.out.items c.share_cell.new.out.items c.end_of-high.ensures.order (c.loop-k.invariant.out d)
      (c.in_ok-share_cell.ensures.shares d ∙ ap (λ t. c.loop-k.out.items ++ t) ((part_of_cell c.args.totals.now c.args.kept.now c.requires.long c.requires.may c.args.numbers.now c.requires.sorted c.loop-k.k c.loop-k-test.true c.total_at.result c.total_at.ensures c.loop-k.low c.end_of-high.result c.loop-k.invariant.low c.end_of-high.ensures.value).shares d));
  scratch = c.share_cell.ensures.room ∙ c.loop-k.invariant.scratch;
}

pub returns : goal.returns
returns c = λ d.
    let k : c.loop-k.k ≡ length c.args.totals.now = omega (arith, c.loop-k-test.false, c.loop-k.auto.k-end) in
    let e : c.loop-k.low ≡ length c.args.numbers.now = c.loop-k.invariant.low ∙ ap (λ t. keys_below c.args.numbers.now (t * 2 ^ 96)) k ∙ all_below c.args.totals.now c.args.kept.now c.args.numbers.now c.requires.long c.requires.may c.requires.sorted in
    c.loop-k.invariant.out d ∙ ap (map (shared_at c.args.totals.now c.args.kept.now d)) (take_all c.loop-k.low c.args.numbers.now (omega (arith, e)))
