use Rattle.std.proofs.Common.{◌∷◌, [], arith}
use Rattle.hilbert_keys.proofs.Ranges.{cell_is}
use Rattle.hilbert_keys.proofs.cells.corner_is_of_box.Goals as goal

pub returns : goal.returns
returns c = cell_is c.args.level (c.args.x ∷ c.args.y ∷ c.args.z ∷ []) c.requires (omega (arith, c.ranges.x.fits)) (omega (arith, c.ranges.y.fits)) (omega (arith, c.ranges.z.fits))
