use Rattle.gadget.proofs.Heads.{head_fault_is}
use Rattle.gadget.proofs.snapshots.head_of.Goals as goal

pub returns-in-Err-clause-err : goal.returns-in-Err-clause-err
returns-in-Err-clause-err c = c.refused.ensures c.args.bytes.now (head_fault_is c.args.bytes.now c.in-Err.err c.in-Err.ensures.err)
