use Rattle.std.proofs.Common.{◌≡◌, get_or, sym, rules}
use Rattle.kick_drift.proofs.Rising.{has_none, has_at, not_among}
use Rattle.rewind.proofs.parts.is_among.Goals as goal

pub returns-in-Err : goal.returns-in-Err
returns-in-Err c = sym (has_none c.args.places.now c.args.place (not_among c.args.places.now c.args.place c.in-Err.field-0 c.in-Err.ensures.position c.requires))

pub returns-in-Ok : goal.returns-in-Ok
returns-in-Ok c = let e : get_or c.args.places.now c.in-Ok._at 0 ≡ c.args.place = search rules in sym (has_at c.args.places.now c.args.place c.in-Ok._at c.in-Ok.ensures.bound e)
