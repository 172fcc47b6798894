use Rattle.std.proofs.Common.{ap, ◌∙◌, arith}
use Rattle.home_cells.proofs.Made.{more, no_more, whole, empty}
use Rattle.home_cells.proofs.spans.entries_told.Goals.{then-is_told+in_ok-push, else-is_told}
use Rattle.home_cells.proofs.spans.entries_told.Goals as goal

pub loop-i-preserved : goal.loop-i-preserved
loop-i-preserved c = elim c.if-is_told.branch [
  | then-is_told+in_ok-push x ↦ λ b of w r at.
      ap (λ v. v.items) x.entries-is ∙ x.in_ok-push.ensures.items ∙ more c.args.tree.now b c.args.to c.loop-i.i empty (omega (arith, c.loop-i-test.true, c.len-i-end.ensures)) c.loop-i.entries.items (c.loop-i.invariant b of) c.is_told.result (c.is_told.ensures b of) x.entry_at.result x.if-is_told.true x.entry_at.ensures w r at
  | else-is_told x ↦ λ b of w r at. ap (λ v. v.items) x.entries-is ∙ no_more c.args.tree.now b c.args.to c.loop-i.i empty (omega (arith, c.loop-i-test.true, c.len-i-end.ensures)) c.loop-i.entries.items (c.loop-i.invariant b of) c.is_told.result (c.is_told.ensures b of) x.if-is_told.false w r at
]

pub returns : goal.returns
returns c = λ b of. whole c.args.tree.now b c.args.to c.loop-i.i c.loop-i.entries.items (omega (arith, c.loop-i-test.false, c.len-i-end.ensures)) (c.loop-i.invariant b of)
