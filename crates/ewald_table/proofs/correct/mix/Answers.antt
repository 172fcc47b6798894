use Rattle.std.proofs.Common.{◌^◌, to_z, of_z, arith}
use Rattle.std.specs.Int.{w32, w64, w128}
use Rattle.ewald_table.proofs.Mixes.{IsMix, mix_is, mix_cast, fits_size}
use Rattle.ewald_table.proofs.correct.mix.Goals as goal

is_mix : (c : goal.After-from) → IsMix c.args.place.near c.args.place.far c.args.near c.args.far (to_z w128 (of_z w128 c.from.result))
is_mix c =
    let mix = mix_is w64 w32 c.args.place.near c.args.place.far c.times.result c.times-2.result c.args.near c.args.far (2 ^ 31) c.ranges.near c.ranges.far
    (record { sfits = c.times.type_inv }) (record { sfits = c.times-2.type_inv }) (fits_size c.args.near c.ranges.near) (fits_size c.args.far c.ranges.far)
    (omega (arith, c.args.place.light)) c.times.ensures.value c.times-2.ensures.value in
    mix_cast w128 c.args.place.near c.args.place.far c.args.near c.args.far c.from.result _ (record { sfits = c.from.type_inv }) c.from.ensures mix

pub returns-clause-value : goal.returns-clause-value
returns-clause-value c = (is_mix c).value

pub returns-clause-size : goal.returns-clause-size
returns-clause-size c = (is_mix c).size (2 ^ 31) (fits_size c.args.near c.ranges.near) (fits_size c.args.far c.ranges.far)
