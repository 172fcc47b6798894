use Rattle.std.proofs.Common.{◌%◌, ◌^◌, ◌∙◌}
use Rattle.nbody_model.specs.Session.{Snapshot}
use Rattle.nbody_model.specs.SnapshotText.{snapshot_text}
use Rattle.run_session.proofs.Numbers.{number_low}
use Rattle.nbody_model.specs.Texts.{numbered}
use Rattle.run_session.proofs.Writing.{writes, writes_part}
use Rattle.run_session.proofs.writes.show.Goals as goal

pub returns-in-Err-clause-err : goal.returns-in-Err-clause-err
returns-in-Err-clause-err g c =
    let p = c.args.course.now.params.now in
    let o = c.args.course.now.own.now in
    let σ = c.args.state in
    writes_part p o (Snapshot σ.next_snapshot σ) (g.S.Store.tells c.args.store.now) (g.S.Store.file c.args.store.now) (g.S.Store.file c.write_snapshot_file.new.store) (g.S.Store.closed c.args.store.now) (g.S.Store.closed c.write_snapshot_file.new.store)
    c.in-Ok.name (snapshot_text c.state.inside.set c.state.inside.tick (c.state.inside.next_snapshot % 2 ^ 32)) c.requires.others (c.in-Ok.ensures ∙ (λ i. numbered (c.params.view_is i).snapshot_file_base (c.state.view_is i).next_snapshot)) (number_low c.state.inside.set c.state.inside.tick c.state.inside.next_snapshot ∙ (λ i. snapshot_text (c.state.view_is i).bodies (c.state.view_is i).tick (c.state.view_is i).next_snapshot)) c.in-Err.ensures.err (λ told. c.in-Err.ensures.closed_err)

pub returns-clause-ok : goal.returns-clause-ok
returns-clause-ok g c =
    let p = c.args.course.now.params.now in
    let o = c.args.course.now.own.now in
    let σ = c.args.state in
    writes p o (Snapshot σ.next_snapshot σ) (g.S.Store.tells c.args.store.now) (g.S.Store.file c.args.store.now) (g.S.Store.file c.write_snapshot_file.new.store) (g.S.Store.closed c.args.store.now) (g.S.Store.closed c.write_snapshot_file.new.store)
    c.in-Ok.name (snapshot_text c.state.inside.set c.state.inside.tick (c.state.inside.next_snapshot % 2 ^ 32)) c.requires.others (c.in-Ok.ensures ∙ (λ i. numbered (c.params.view_is i).snapshot_file_base (c.state.view_is i).next_snapshot)) (number_low c.state.inside.set c.state.inside.tick c.state.inside.next_snapshot ∙ (λ i. snapshot_text (c.state.view_is i).bodies (c.state.view_is i).tick (c.state.view_is i).next_snapshot)) c.in-Ok-write_snapshot_file.ensures.ok c.in-Ok-write_snapshot_file.ensures.closed
