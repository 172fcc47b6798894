use Rattle.gadget.proofs.Stages.{table_refused, factors_refused}
use Rattle.gadget.proofs.inputs.load_inputs.Goals as goal

pub returns-in-Err-load_corrections-clause-err : goal.returns-in-Err-load_corrections-clause-err
returns-in-Err-load_corrections-clause-err g c =
    let S = g.S.Store in
    let start = c.args.store.now in
    let one = c.load_params.new.store in
    let two = c.load_outputs.new.store in
    let three = c.load_corrections.new.store in
    table_refused (S.tells start) (S.tells one) (S.tells two) (S.file start) (S.file one) (S.file two) (S.faults start) (S.faults one) (S.faults two) (S.faults three) (S.last three)
    c.args.name.now c.in-Ok.params c.in-Ok-load_outputs.outputs.items c.in-Err-load_corrections.status
    c.in-Ok.ensures.keeps.tells c.in-Ok-load_outputs.ensures.keeps.tells c.in-Ok.ensures.keeps.files c.in-Ok-load_outputs.ensures.keeps.files c.in-Ok.ensures.quiet.0 c.in-Ok-load_outputs.ensures.quiet.0
    c.in-Ok.ensures.ok c.in-Ok-load_outputs.ensures.ok c.in-Err-load_corrections.ensures.err

pub returns-in-Err-load_factors-clause-err : goal.returns-in-Err-load_factors-clause-err
returns-in-Err-load_factors-clause-err g c =
    let S = g.S.Store in
    let start = c.args.store.now in
    let one = c.load_params.new.store in
    let two = c.load_outputs.new.store in
    let three = c.load_corrections.new.store in
    let four = c.load_factors.new.store in
    factors_refused (S.tells start) (S.tells one) (S.tells two) (S.tells three) (S.file start) (S.file one) (S.file two) (S.file three)
    (S.faults start) (S.faults one) (S.faults two) (S.faults three) (S.faults four) (S.last four)
    c.args.name.now c.in-Ok.params c.in-Ok-load_outputs.outputs.items c.in-Ok-load_corrections.table c.in-Err-load_factors.status
    c.in-Ok.ensures.keeps.tells c.in-Ok-load_outputs.ensures.keeps.tells c.in-Ok-load_corrections.ensures.keeps.tells
    c.in-Ok.ensures.keeps.files c.in-Ok-load_outputs.ensures.keeps.files c.in-Ok-load_corrections.ensures.keeps.files
    c.in-Ok.ensures.quiet.0 c.in-Ok-load_outputs.ensures.quiet.0 c.in-Ok-load_corrections.ensures.quiet.0
    c.in-Ok.ensures.ok c.in-Ok-load_outputs.ensures.ok c.in-Ok-load_corrections.ensures.ok c.in-Err-load_factors.ensures.err
