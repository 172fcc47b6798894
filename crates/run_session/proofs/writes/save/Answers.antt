use Rattle.std.proofs.Common.{◌∙◌}
use Rattle.nbody_model.specs.Session.{Restart, kept}
use Rattle.nbody_model.specs.RestartText.{restart_text}
use Rattle.nbody_model.specs.Texts.{numbered}
use Rattle.run_session.proofs.Writing.{writes, writes_part}
use Rattle.run_session.proofs.writes.save.Goals as goal

pub returns-clause-err : goal.returns-clause-err
returns-clause-err g c =
    let p = c.args.course.now.params.now in
    let o = c.args.course.now.own.now in
    let σ = c.args.state in
    writes_part p o (Restart σ.next_restart (kept σ)) (g.S.Store.tells c.args.store.now) (g.S.Store.file c.args.store.now) (g.S.Store.file c.write_restart_file.new.store) (g.S.Store.closed c.args.store.now) (g.S.Store.closed c.write_restart_file.new.store)
    c.in-Ok.name (restart_text (kept (record { bodies = c.state.inside.set; depths = c.state.inside.depth; steps = c.state.inside.steps; tick = c.state.inside.tick; next_snapshot = c.state.inside.next_snapshot; next_restart = c.state.inside.next_restart; kicks = c.state.inside.kicks; interactions = c.state.inside.interactions })) c.args.course.now.setup.now) c.requires.others (c.in-Ok.ensures ∙ (λ i. numbered (c.params.view_is i).restart_file_base (c.state.view_is i).next_restart)) (λ i. restart_text (kept (c.state.view_is i)) (c.requires.setup i)) c.in-Err.ensures.err (λ told. c.in-Err.ensures.closed_err)

pub returns-in-Ok-write_restart_file-clause-ok : goal.returns-in-Ok-write_restart_file-clause-ok
returns-in-Ok-write_restart_file-clause-ok g c =
    let p = c.args.course.now.params.now in
    let o = c.args.course.now.own.now in
    let σ = c.args.state in
    writes p o (Restart σ.next_restart (kept σ)) (g.S.Store.tells c.args.store.now) (g.S.Store.file c.args.store.now) (g.S.Store.file c.write_restart_file.new.store) (g.S.Store.closed c.args.store.now) (g.S.Store.closed c.write_restart_file.new.store)
    c.in-Ok.name (restart_text (kept (record { bodies = c.state.inside.set; depths = c.state.inside.depth; steps = c.state.inside.steps; tick = c.state.inside.tick; next_snapshot = c.state.inside.next_snapshot; next_restart = c.state.inside.next_restart; kicks = c.state.inside.kicks; interactions = c.state.inside.interactions })) c.args.course.now.setup.now) c.requires.others (c.in-Ok.ensures ∙ (λ i. numbered (c.params.view_is i).restart_file_base (c.state.view_is i).next_restart)) (λ i. restart_text (kept (c.state.view_is i)) (c.requires.setup i)) c.in-Ok-write_restart_file.ensures.ok c.in-Ok-write_restart_file.ensures.closed
