use Rattle.gadget.specs.Reads.{Seen}
use Rattle.gadget.proofs.Answered.{snapshot_refused}
use Rattle.gadget.proofs.snapshots.load_snapshot.Goals as goal

pub returns-clause-err : goal.returns-clause-err
returns-clause-err g c =
    let S = g.S.Store in
    let start = c.args.store.now in
    let read = c.read_file.new.store in
    let s : Seen = record { tells = S.tells start; files = S.file start; faults = S.faults start; faults_new = S.faults read; last = S.last read } in
    snapshot_refused s c.args.name.now c.in-Ok.bytes.items c.deref-2.result.now c.in-Err-bodies_of.status c.deref-2.ensures.value c.in-Ok.ensures.ok c.in-Err-bodies_of.ensures.err
