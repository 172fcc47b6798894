use Rattle.std.proofs.Common.{arith}
use Rattle.step_engine.proofs.Times.{twice, half_most}
use Rattle.rewind.proofs.course.last_factor.Goals as goal

pub returns-clause-most : goal.returns-clause-most
returns-clause-most c = omega (arith, c.kick_factor.ensures.small, c.power.ensures, c.power-2.ensures, twice c.args.bin c.requires.some, half_most c.args.bin c.requires.short)
