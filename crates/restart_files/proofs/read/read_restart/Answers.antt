use Rattle.restart_files.proofs.Kept.{has_depths, kept}
use Rattle.restart_files.proofs.OfBytes.{is_first}
use Rattle.restart_files.proofs.read.read_restart.Goals as goal

pub returns-in-Err-clause-err : goal.returns-in-Err-clause-err
returns-in-Err-clause-err c = is_first c.args.bytes.now c.in-Err.fault c.in-Err.ensures.err

pub state_from-requires-clause-each : goal.state_from-requires-clause-each
state_from-requires-clause-each c =
    has_depths c.args.bytes.now c.in-Ok.front.head c.in-Ok-from_list.set c.in_ok-depths.depths.items c.in-Ok.ensures.head (rw c.in_ok-rows.ensures.value at c.in-Ok-from_list.ensures.ok) c.in_ok-depths.ensures

pub returns-in-Ok-from_list-clause-kept : goal.returns-in-Ok-from_list-clause-kept
returns-in-Ok-from_list-clause-kept c =
    rw (c.in-Ok.ensures.setup, c.state_from.ensures) (kept c.args.bytes.now c.in-Ok.front.head c.in-Ok-from_list.set c.in-Ok.ensures.head c.in-Ok.ensures.ok c.in-Ok.ensures.each
    (rw c.in_ok-rows.ensures.value at c.in-Ok-from_list.ensures.ok))
