use Rattle.std.proofs.Common.{◌^◌, ◌+ℤ◌, to_z, of_z, arith}
use Rattle.std.specs.Int.{w128}
use Rattle.ewald_table.proofs.Mixes.{IsMix, mix_is}
use Rattle.ewald_table.proofs.correct.mix_wide.Goals as goal

is_mix : (c : goal.After-times_wide-2) → IsMix c.args.place.near c.args.place.far c.args.near c.args.far (to_z w128 (of_z w128 (to_z w128 (of_z w128 c.times_wide.result) +ℤ to_z w128 (of_z w128 c.times_wide-2.result))))
is_mix c =
    mix_is w128 w128 c.args.place.near c.args.place.far c.times_wide.result c.times_wide-2.result c.args.near c.args.far (2 ^ 93) c.ranges.near c.ranges.far
    (record { sfits = c.times_wide.type_inv }) (record { sfits = c.times_wide-2.type_inv }) c.requires.near c.requires.far (omega (arith, c.args.place.light)) c.times_wide.ensures.value c.times_wide-2.ensures.value

pub returns-clause-value : goal.returns-clause-value
returns-clause-value c = (is_mix c).value

pub returns-clause-size : goal.returns-clause-size
returns-clause-size c = (is_mix c).size
