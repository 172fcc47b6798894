use Rattle.home_cells.proofs.Divided.{keeps_more}
use Rattle.home_cells.proofs.tests.table_of.Goals as goal

pub loop-rank-init : goal.loop-rank-init
loop-rank-init c = λ g e. c.new-table.ensures

pub loop-rank-preserved : goal.loop-rank-preserved
loop-rank-preserved c =
    let all = c.args.all.now in
    keeps_more all.bodies.now all.owners.now all.bounds.now all.soft.now c.args.to c.loop-rank.rank c.loop-rank.table c.in_ok-sent.sent.items c.keep.new.self c.loop-rank.invariant c.in_ok-sent.ensures c.in_ok-keep.ensures.ok
