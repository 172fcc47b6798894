use Rattle.std.proofs.Common.{◌+◌, ◌-◌, ◌*◌, ◌^◌, ◌<◌, arith, rules}
use Rattle.std.proofs.lemmas.Nat.{one_shl}
use Rattle.cell_space.proofs.Halves.{corner_fits, half_upper, half_corner}
use Rattle.cell_space.proofs.cell.child_corner.Goals as goal

pub overflow_cast-result-3 : goal.overflow_cast-result-3
overflow_cast-result-3 c =
    let k : c.args.corner < 2 ^ 32 = omega arith in
    let h : c.args.corner + c.args.bit * 2 ^ (31 - c.args.level) < 2 ^ 32 = corner_fits c.args.corner c.args.level c.args.bit c.requires.above_the_deepest c.requires.one_bit c.requires.whole k in
    rw (one_shl (31 - c.args.level) 64 (omega arith)) (search rules)

pub returns-clause-upper_bits : goal.returns-clause-upper_bits
returns-clause-upper_bits c = rw (one_shl (31 - c.args.level) 64 (omega arith)) (half_upper c.args.corner c.args.level c.args.bit c.requires.above_the_deepest c.requires.whole)

pub returns-clause-whole : goal.returns-clause-whole
returns-clause-whole c = rw (one_shl (31 - c.args.level) 64 (omega arith)) (half_corner c.args.corner c.args.level c.args.bit c.requires.above_the_deepest c.requires.whole)
