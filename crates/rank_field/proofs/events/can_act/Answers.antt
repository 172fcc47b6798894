use Rattle.std.proofs.Common.{◌<◌, sym, arith, subst}
use Rattle.rank_laws.specs.Machine.{machine}
use Rattle.rank_laws.specs.Protocol.{state}
use Rattle.rank_laws.specs.Whole.{ranks_of, rules_of}
use Rattle.rank_exchange.specs.Ranks.{IsRank}
use Rattle.rank_field.specs.Machines.{moment_of}
use Rattle.rank_field.proofs.events.can_act.Goals as goal

pub returns : goal.returns
returns c = λ w z h.
    let r = c.args.number in
    let lt : r < ranks_of w = omega (arith, c.requires, h.all) in
    c.acts.ensures (moment_of w z h.run r lt) (subst (IsRank w r (state (machine (rules_of w)) z r)) (sym c.index-ranks-number.is) (h.each r c.index-ranks-number.result lt))
