use Rattle.std.proofs.Common.{eqb, ap, ◌∙◌, arith}
use Rattle.std.specs.List.{list_any}
use Rattle.std.proofs.lemmas.List.{take_all}
use Rattle.cell_space.specs.Cells.{digit}
use Rattle.octree_build.proofs.Opened.{blank}
use Rattle.home_cells.proofs.Sets.{bits_more}
use Rattle.home_cells.proofs.children.children_of.Goals as goal

pub loop-i-preserved : goal.loop-i-preserved
loop-i-preserved c = λ k h. bits_more c.args.members.now c.args.level c.loop-i.i c.loop-i.bits c.digit_at.result blank k c.loop-i-test.true h c.digit_at.ensures.small (c.digit_at.ensures.value blank) (c.loop-i.invariant k h)

pub returns : goal.returns
returns c = λ k h. c.loop-i.invariant k h ∙ ap (list_any (λ b. eqb (digit b.motion.pos c.args.level) k)) (take_all c.loop-i.i c.args.members.now (omega (arith, c.loop-i-test.false)))
