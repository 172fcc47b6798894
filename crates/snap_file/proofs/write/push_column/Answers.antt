use Rattle.std.proofs.Common.{◌≡◌, ◌*◌, ◌∙◌, length, sym, ap}
use Rattle.std.specs.List.{flat_map}
use Rattle.snapshot_blocks.proofs.Pushes.{joined}
use Rattle.fixed_point.proofs.Joins.{on_ok}
use Rattle.nbody_model.specs.SnapshotText.{by_kind, column_text}
use Rattle.snap_file.specs.Columns.{entry_of, name_of, width_of}
use Rattle.snap_file.proofs.Writes.{length-entries}
use Rattle.snap_file.proofs.write.push_column.Goals as goal

pub returns : goal.returns
unfolding column_text
returns c =
    let text = flat_map (entry_of c.args.column) (by_kind c.args.bodies.now) in
    let long : c.length-len.result ≡ length text = c.length-len.ensures.value ∙ ap (λ n. width_of c.args.column * n) c.count_all.ensures.value ∙ sym (length-entries c.args.column (by_kind c.args.bodies.now)) in
    on_ok c.close_block.result (joined c.args.out.now.items (name_of c.args.column) text _ _ _ (rw (c.name.ensures, long) at c.in_ok-open_block.ensures.ok) c.in_ok-push_entries.ensures) (rw long at c.close_block.ensures.ok)
