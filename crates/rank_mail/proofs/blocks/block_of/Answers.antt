use Rattle.std.proofs.Common.{◌≡◌, ◌+◌, take, [], ◌-◌, arith}
use Rattle.std.proofs.lemmas.List.Sums.{sum_by_more}
use Rattle.rank_mail.specs.Blocks.{BlockData, coming_in}
use Rattle.rank_mail.proofs.blocks.block_of.Goals as goal

none : BlockData
none = record { messages = []; coming = 0 }

pub loop-at-preserved : goal.loop-at-preserved
loop-at-preserved c =
    let e : coming_in (take (c.loop-at.at + 1) c.args.blocks.now) ≡ coming_in (take c.loop-at.at c.args.blocks.now) + _ = sum_by_more (λ (b : BlockData). b.coming) c.args.blocks.now c.loop-at.at none c.loop-at-test.true in
    let i : coming_in (take c.loop-at.at c.args.blocks.now) + c.loop-at.left ≡ c.args.k = c.loop-at.invariant in
    let g : coming_in (take (c.loop-at.at + 1) c.args.blocks.now) + (c.loop-at.left - c.coming_at-coming.result) ≡ c.args.k = omega (arith, e, i, c.coming_at-coming.ensures none, c.if-left-coming.false) in
    g
