use Rattle.std.proofs.Common.{sym, ◌∙◌, arith}
use Rattle.force_field.proofs.Sums.{raw-cell, raw-count, raw-mass, none_more, with_one}
use Rattle.force_field.proofs.nodes.with_body.Goals as goal

pub add-requires-clause-same_cell : goal.add-requires-clause-same_cell
add-requires-clause-same_cell c = c.requires.same_cell ∙ sym (raw-cell _ _ _ c.of_body.result c.of_body.ensures)

pub add-requires-clause-few : goal.add-requires-clause-few
add-requires-clause-few c = omega (arith, c.requires.few, raw-count _ _ _ c.of_body.result c.of_body.ensures)

pub add-requires-clause-light : goal.add-requires-clause-light
add-requires-clause-light c = omega (arith, c.requires.light, raw-mass _ _ _ c.of_body.result c.of_body.ensures)

pub returns-then-not-is_in : goal.returns-then-not-is_in
returns-then-not-is_in c = λ ms e. none_more c.args.soft.now c.args.cell.now ms c.args.body.now c.args.sums (sym c.is_in.ensures ∙ c.if-not-is_in.true) e

pub returns : goal.returns
returns c = λ ms e. with_one c.args.soft.now c.args.cell.now ms c.args.body.now c.args.sums c.of_body.result c.add.result c.requires.same_cell (sym c.is_in.ensures ∙ c.if-not-is_in.false) c.of_body.ensures c.add.ensures e
