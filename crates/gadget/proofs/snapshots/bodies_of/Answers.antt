use Rattle.gadget.proofs.snapshots.bodies_of.Goals as goal

pub returns-in-Err-clause-err : goal.returns-in-Err-clause-err
returns-in-Err-clause-err c = c.refused.ensures c.args.bytes.now c.in-Err.ensures.err
