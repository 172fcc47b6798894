use Rattle.std.proofs.Common.{◌≡◌, take}
use Rattle.param_file.specs.Writing.{rows_text}
use Rattle.param_file.proofs.writer.write_rows.Given as goal

abbrev pub invariant-loop-row : goal.invariant-loop-row
invariant-loop-row l = l.out.items ≡ rows_text l.params (take l.row-index l.rows)
