use Rattle.std.proofs.Common.{arith}
use Rattle.force_sharing.proofs.Cut.{cut}
use Rattle.force_sharing.proofs.turns.last_served.Goals as goal

pub returns-clause-cut : goal.returns-clause-cut
returns-clause-cut c = λ n h.
    let r = c.select_nth_unstable-last.result in
    let e = c.select_nth_unstable-last.ensures in
    cut c.args.turns.now r.0.now r.2.now r.1.now c.args.left n e.permutation (omega (arith, e.front_len, c.if-left-eq0.false)) e.partitioned
