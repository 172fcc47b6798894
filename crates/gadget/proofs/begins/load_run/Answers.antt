use Rattle.std.proofs.Common.{rules, inl}
use Rattle.gadget.specs.Inputs.{inputs_of}
use Rattle.gadget.proofs.Begun.{bodies_refused}
use Rattle.gadget.proofs.begins.load_run.Goals as goal

pub returns-in-Err-clause-err : goal.returns-in-Err-clause-err
returns-in-Err-clause-err g c = inl c.in-Err.ensures.err

pub returns-in-Err-load_bodies-clause-err : goal.returns-in-Err-load_bodies-clause-err
returns-in-Err-load_bodies-clause-err g c =
    let S = g.S.Store in
    let start = c.args.store.now in
    let one = c.load_inputs.new.store in
    let two = c.load_bodies.new.store in
    let b = c.in-Ok.inputs in
    bodies_refused (S.tells start) (S.tells one) (S.file start) (S.file one) (S.faults start) (S.faults one) (S.faults two) (S.last two)
    c.args.name.now c.inputs.inside.0.0.init_cond_file (inputs_of b) c.in-Err-load_bodies.status
    c.in-Ok.ensures.keeps.tells c.in-Ok.ensures.keeps.files c.in-Ok.ensures.quiet.0 (search rules)
    c.in-Ok.ensures.ok c.in-Err-load_bodies.ensures.err
