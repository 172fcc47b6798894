use Rattle.std.proofs.lemmas.Result.{IfOk-weaker}
use Rattle.param_file.specs.Writing.{params_text}
use Rattle.param_file.proofs.Rounds.{written_spells}
use Rattle.param_file.proofs.writer.write_params.Goals as goal

pub returns-clause-text : goal.returns-clause-text
unfolding params_text
returns-clause-text c = c.write_rows.ensures

pub returns-clause-spells : goal.returns-clause-spells
unfolding params_text
returns-clause-spells c = IfOk-weaker c.write_rows.result _ _ (λ out e. written_spells c.args.params.now out.items c.are_accepted.ensures e) c.write_rows.ensures
