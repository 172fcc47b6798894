use Rattle.kick_drift.proofs.Rising.{not_among}
use Rattle.kick_drift.proofs.change.index_of.Goals as goal

pub returns-in-Err-clause-none : goal.returns-in-Err-clause-none
returns-in-Err-clause-none c = not_among c.args.places.now c.args.place c.in-Err.field-0 c.in-Err.ensures.position c.requires
