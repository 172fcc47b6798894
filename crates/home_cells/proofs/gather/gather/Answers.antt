use Rattle.std.proofs.Common.{◌≡◌, take, ap, sym, ◌∙◌, arith}
use Rattle.octree_build.specs.Slots.{keys_below}
use Rattle.octree_build.proofs.Edges.{count_more, goes_on, stops}
use Rattle.home_cells.specs.Found.{gathered, along}
use Rattle.home_cells.proofs.Joining.{empty}
use Rattle.home_cells.proofs.Search.{joins_more, one_more}
use Rattle.home_cells.proofs.gather.gather.Goals as goal

pub loop-k-init : goal.loop-k-init
unfolding keys_below
loop-k-init c =
    let more = count_more (λ k. k) c.args.low c.args.high c.requires.bounds c.args.kept.now.order.now in (
      omega (arith, c.count_below-k.ensures, more),
      λ d. c.requires.sum d ∙ ap (λ k. gathered c.args.cell.now (take k (along c.args.kept.now.entries.now c.args.kept.now.order.now d))) (sym c.count_below-k.ensures),
    )

pub together-sum-requires : goal.together-sum-requires
together-sum-requires c =
    joins_more c.requires.told.0 c.args.kept.now.entries.now c.args.cell.now c.args.kept.now.order.now c.requires.told.1 c.requires.order c.is_of_box.ensures empty
    c.loop-k.k c.loop-k.sum c.part.result c.loop-k-test.true (c.loop-k.invariant.1 empty) (c.part.ensures empty)

pub loop-k-preserved : goal.loop-k-preserved
loop-k-preserved c = (
  goes_on c.args.kept.now.order.now c.args.high c.loop-k.k 0 c.requires.order.rises c.loop-k-test.true c.if-kept-k.true,
  λ d. c.together-sum.ensures ∙ one_more c.requires.told.0 c.args.kept.now.entries.now c.args.cell.now c.args.kept.now.order.now c.requires.told.1 c.requires.order c.is_of_box.ensures d
      c.loop-k.k c.loop-k.sum c.part.result c.loop-k-test.true (c.loop-k.invariant.1 d) (c.part.ensures d),
)

pub returns-else-kept-k : goal.returns-else-kept-k
returns-else-kept-k c =
    let past = stops c.args.kept.now.order.now c.args.high c.loop-k.k 0 c.requires.order.rises c.loop-k-test.true (omega (arith, c.if-kept-k.false)) in
    let e : c.loop-k.k ≡ keys_below c.args.kept.now.order.now c.args.high = omega (arith, past, c.loop-k.invariant.0) in
    λ d. c.loop-k.invariant.1 d ∙ ap (λ k. gathered c.args.cell.now (take k (along c.args.kept.now.entries.now c.args.kept.now.order.now d))) e
