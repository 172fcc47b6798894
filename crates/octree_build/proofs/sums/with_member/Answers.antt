use Rattle.std.proofs.Common.{◌∷◌, [], sym, ◌∙◌, arith}
use Rattle.octree_build.proofs.Parts.{sum_cell, sum_count, sum_mass, added}
use Rattle.octree_build.proofs.sums.with_member.Goals as goal

pub add-requires-clause-same_cell : goal.add-requires-clause-same_cell
add-requires-clause-same_cell c = c.requires.same_cell ∙ sym (sum_cell _ _ _ c.of_body.result c.of_body.ensures)

pub add-requires-clause-few : goal.add-requires-clause-few
add-requires-clause-few c = omega (arith, c.requires.few, sum_count _ _ _ c.of_body.result c.of_body.ensures)

pub add-requires-clause-light : goal.add-requires-clause-light
add-requires-clause-light c = omega (arith, c.requires.light, sum_mass _ _ _ c.of_body.result c.of_body.ensures)

pub returns : goal.returns
returns c = λ ms e. added c.args.soft.now c.args.cell.now ms (c.args.body.now ∷ []) c.args.sum c.of_body.result c.add.result c.add.ensures e c.of_body.ensures
