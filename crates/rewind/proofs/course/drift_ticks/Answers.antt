use Rattle.std.proofs.Common.{arith}
use Rattle.step_engine.proofs.Times.{whole_most}
use Rattle.rewind.proofs.course.drift_ticks.Goals as goal

pub returns-clause-most : goal.returns-clause-most
returns-clause-most c = omega (arith, c.drift_factor.ensures.small, c.power.ensures, whole_most c.args.bin c.requires.short)
