use Rattle.std.proofs.Common.{◌∙◌}
use Rattle.kick_drift.proofs.Rising.{less_none, less_at}
use Rattle.kick_drift.proofs.change.change_at.Goals as goal

pub returns-in-Some : goal.returns-in-Some
returns-in-Some c = c.less.ensures ∙ less_at c.args.fast.now c.args.g.now c.args.place c.args.slow c.in-Some.at _ c.requires.ascending c.requires.equal c.in-Some.ensures.within c.in-Some.ensures.some

pub returns-in-None : goal.returns-in-None
returns-in-None c = less_none c.args.fast.now c.args.g.now c.args.place c.args.slow c.in-None.ensures.none
