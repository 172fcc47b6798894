use Rattle.std.proofs.Common.{arith}
use Rattle.home_cells.proofs.Divided.{at_home}
use Rattle.home_cells.proofs.tests.tells.Goals as goal

pub at-requires : goal.at-requires
at-requires c =
    let all = c.args.all.now in
    at_home all.bodies.now all.owners.now all.bounds.now all.soft.now c.requires.division c.keep_limits.ensures.bodies c.args.to c.args.table.now c.args.cell.now c.keep_limits.ensures.kinds c.requires.soft c.requires.table
    (omega (arith, c.if-home-to.false, c.home.ensures.value))
