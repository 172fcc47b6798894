use Rattle.std.proofs.Common.{◌&&◌, nat_le, sym, ◌∙◌, ap, subst}
use Rattle.hilbert_keys.specs.Curve.{key, first_key, last_key, IsCell}
use Rattle.hilbert_keys.proofs.Ranges.{lies_between}
use Rattle.hilbert_keys.proofs.cells.cell_key_range.Goals as goal

pub returns-clause-exact : goal.returns-clause-exact
returns-clause-exact c = λ p b.
    lies_between c.args.cell.now (subst IsCell c.cell.view_is c.range_of.ensures.cell) p b
    ∙ (λ i. nat_le (sym (c.range_of.ensures.first ∙ ap first_key c.cell.view_is) i) (key p) && nat_le (key p) (sym (c.range_of.ensures.last ∙ ap last_key c.cell.view_is) i))
