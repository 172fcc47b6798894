use Rattle.std.proofs.Common.{sym, ◌∙◌}
use Rattle.param_file.proofs.Maps.{said_some, said_none}
use Rattle.param_file.proofs.entries.entry_of.Goals as goal

pub returns-in-Some : goal.returns-in-Some
returns-in-Some c = said_some c.args.known.now c.args.row c.as_bytes.result.now c.in-Some.entry c.as_bytes.ensures (sym c.in-Some.is ∙ c.entry_named.ensures)

pub returns-in-None : goal.returns-in-None
returns-in-None c = c.default_entry.ensures ∙ said_none c.args.known.now c.args.row c.as_bytes.result.now c.as_bytes.ensures (sym c.in-None.is ∙ c.entry_named.ensures)
