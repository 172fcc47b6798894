use Rattle.fixed_point.proofs.Joins.{on_ok}
use Rattle.snap_file.specs.Columns.{entry_of}
use Rattle.snap_file.proofs.Writes.{entries}
use Rattle.snap_file.proofs.write.push_entries.Goals as goal

pub returns : goal.returns
returns c =
    on_ok c.push_kind-5.result (entries (entry_of c.args.column) c.args.bodies.now c.args.out.now.items _ _ _ _ _ c.in_ok-push_kind.ensures c.in_ok-push_kind-2.ensures c.in_ok-push_kind-3.ensures c.in_ok-push_kind-4.ensures)
    c.push_kind-5.ensures
