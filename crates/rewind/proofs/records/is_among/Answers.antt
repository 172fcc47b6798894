use Rattle.std.proofs.Common.{◌≡◌, get_or, sym, rules}
use Rattle.kick_drift.proofs.Rising.{has_none, has_at, not_among}
use Rattle.rewind.proofs.records.is_among.Goals as goal

pub returns-in-Err : goal.returns-in-Err
returns-in-Err c = sym (has_none c.args.ids.now c.args.id (not_among c.args.ids.now c.args.id c.in-Err.field-0 c.in-Err.ensures.position c.requires))

pub returns-in-Ok : goal.returns-in-Ok
returns-in-Ok c = let e : get_or c.args.ids.now c.in-Ok._at 0 ≡ c.args.id = search rules in sym (has_at c.args.ids.now c.args.id c.in-Ok._at c.in-Ok.ensures.bound e)
