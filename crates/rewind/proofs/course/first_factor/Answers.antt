use Rattle.std.proofs.Common.{◌+◌, ◌^◌, arith, option_copied}
use Rattle.step_engine.proofs.Times.{spans_before, twice, half_most}
use Rattle.rewind.proofs.course.first_factor.Goals as goal

pub kick_factor-requires-clause-reach : goal.kick_factor-requires-clause-reach
kick_factor-requires-clause-reach c =
    spans_before (option_copied c.args.course.now.expansion) (c.args.tick + c.power.result) (c.args.tick + 2 ^ c.args.bin) (omega (arith, c.power.ensures, twice c.args.bin c.requires.some)) c.requires.spans

pub returns-clause-most : goal.returns-clause-most
returns-clause-most c = omega (arith, c.kick_factor.ensures.small, c.power.ensures, half_most c.args.bin c.requires.short)
