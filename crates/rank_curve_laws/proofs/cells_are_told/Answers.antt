use Rattle.rank_curve_laws.proofs.Keys.{are_told, one_order_of}
use Rattle.rank_curve_laws.proofs.cells_are_told.Goals as goal

pub returns : goal.returns
returns c = record { told = are_told; ordered = one_order_of }
