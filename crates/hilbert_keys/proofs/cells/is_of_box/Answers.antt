use Rattle.std.proofs.Common.{subst}
use Rattle.hilbert_keys.specs.Curve.{IsCell}
use Rattle.hilbert_keys.proofs.cells.is_of_box.Goals as goal

pub returns : goal.returns
returns c = subst IsCell c.cell.view_is c.corner_is_of_box.ensures
