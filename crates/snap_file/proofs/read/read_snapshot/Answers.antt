use Rattle.snap_file.proofs.Faults.{spelled, from_bodies}
use Rattle.snap_file.proofs.read.read_snapshot.Goals as goal

pub returns-in-Ok-clause-ok : goal.returns-in-Ok-clause-ok
returns-in-Ok-clause-ok c = spelled c.args.bytes.now c.in_ok-rows.rows.items c.in-Ok.set c.in_ok-rows.ensures.ok c.in-Ok.ensures.ok

pub returns-clause-err : goal.returns-clause-err
returns-clause-err c = rw c.refused.ensures (from_bodies c.args.bytes.now c.in_ok-rows.rows.items c.in-Err.err c.in_ok-rows.ensures.ok c.in-Err.ensures.err)
