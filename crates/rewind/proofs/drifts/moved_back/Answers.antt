use Rattle.std.proofs.Common.{arith}
use Rattle.rewind.proofs.MovesBack.{moved_back_is}
use Rattle.rewind.proofs.drifts.moved_back.Goals as goal

pub returns : goal.returns
returns c =
    moved_back_is c.args.x c.args.ticks c.args.p c.args.scaled c.from.result c.from-2.result c.from-3.result c.floor_div_mod-way.result.0 c.rem_euclid.result (omega arith) c.requires.ticks c.ranges.p c.ranges.scaled c.requires.some
    c.from.ensures c.from-2.ensures c.from-3.ensures c.floor_div_mod-way.ensures.quotient c.rem_euclid.ensures.value
