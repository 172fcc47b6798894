use Rattle.std.proofs.Common.{◌∙◌, ◌∷◌, [], ap, arith}
use Rattle.hilbert_keys.specs.Curve.{key}
use Rattle.hilbert_keys.specs.Steps.{seen}
use Rattle.hilbert_keys.proofs.Ranges.{begins_at, ends_at_last, corner_place, cell_is}
use Rattle.hilbert_keys.proofs.cells.range_of.Goals as goal

pub returns-clause-first : goal.returns-clause-first
returns-clause-first c = begins_at (seen c.args.level (c.args.x ∷ c.args.y ∷ c.args.z ∷ [])) c.key_of.result c.keys_in-width.result c.requires.shallow (c.key_of.ensures.value ∙ ap key (corner_place c.args.level (c.args.x ∷ c.args.y ∷ c.args.z ∷ []) c.requires)) c.keys_in-width.ensures.value

pub returns-clause-last : goal.returns-clause-last
returns-clause-last c = ends_at_last (seen c.args.level (c.args.x ∷ c.args.y ∷ c.args.z ∷ [])) c.key_of.result c.keys_in-width.result c.requires.shallow (c.key_of.ensures.value ∙ ap key (corner_place c.args.level (c.args.x ∷ c.args.y ∷ c.args.z ∷ []) c.requires)) c.keys_in-width.ensures.value

pub returns-clause-cell : goal.returns-clause-cell
returns-clause-cell c = cell_is c.args.level (c.args.x ∷ c.args.y ∷ c.args.z ∷ []) c.requires (omega (arith, c.ranges.x.fits)) (omega (arith, c.ranges.y.fits)) (omega (arith, c.ranges.z.fits))
