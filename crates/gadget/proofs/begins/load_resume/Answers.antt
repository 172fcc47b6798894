use Rattle.std.proofs.Common.{inl}
use Rattle.gadget.specs.Inputs.{inputs_of}
use Rattle.gadget.proofs.Begun.{settings_refused, state_refused}
use Rattle.gadget.proofs.begins.load_resume.Goals as goal

pub returns-in-Err-clause-err : goal.returns-in-Err-clause-err
returns-in-Err-clause-err g c = inl c.in-Err.ensures.err

pub returns-in-Err-check_settings-clause-err : goal.returns-in-Err-check_settings-clause-err
returns-in-Err-check_settings-clause-err g c =
    let S = g.S.Store in
    let start = c.args.store.now in
    let one = c.load_inputs.new.store in
    let two = c.load_restart.new.store in
    let b = c.in-Ok.inputs in
    let kept = c.in-Ok-load_restart.kept in
    settings_refused (S.tells start) (S.tells one) (S.file start) (S.file one) (S.faults start) (S.faults two) (S.last two)
    c.args.name.now c.args.restart.now (inputs_of b) kept.0 kept.1 c.in-Err-check_settings.status
    c.in-Ok.ensures.keeps.tells c.in-Ok.ensures.keeps.files c.in-Ok.ensures.ok c.in-Ok-load_restart.ensures.ok c.in-Err-check_settings.ensures.err

pub returns-in-Err-load_restart-clause-err : goal.returns-in-Err-load_restart-clause-err
returns-in-Err-load_restart-clause-err g c =
    let S = g.S.Store in
    let start = c.args.store.now in
    let one = c.load_inputs.new.store in
    let two = c.load_restart.new.store in
    state_refused (S.tells start) (S.tells one) (S.file start) (S.file one) (S.faults start) (S.faults one) (S.faults two) (S.last two)
    c.args.name.now c.args.restart.now (inputs_of c.in-Ok.inputs) c.in-Err-load_restart.status
    c.in-Ok.ensures.keeps.tells c.in-Ok.ensures.keeps.files c.in-Ok.ensures.quiet.0 c.in-Ok.ensures.ok c.in-Err-load_restart.ensures.err
