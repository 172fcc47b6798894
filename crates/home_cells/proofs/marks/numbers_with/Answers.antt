use Rattle.std.proofs.Common.{◌++◌, ap, ◌∙◌, arith}
use Rattle.std.proofs.lemmas.List.{take_all}
use Rattle.home_cells.specs.Tables.{marked}
use Rattle.home_cells.proofs.Numbers.{number_more}
use Rattle.home_cells.proofs.marks.numbers_with.Goals as goal

pub loop-i-preserved : goal.loop-i-preserved
loop-i-preserved c = c.in_ok-push.ensures.items ∙ number_more c.args.order.now c.args.count c.args.entries.now c.loop-i.i c.number_at.result c.loop-i.numbers.items c.number_at.ensures c.loop-i-test.true c.loop-i.invariant

pub returns : goal.returns
returns c = c.loop-i.invariant ∙ ap (λ t. c.args.order.now ++ marked c.args.count t) (take_all c.loop-i.i c.args.entries.now (omega (arith, c.loop-i-test.false)))
