use Rattle.std.proofs.Common.{◌<◌, sym, ◌∙◌, arith}
use Rattle.rank_laws.specs.Whole.{ranks_of}
use Rattle.rank_field.specs.Machines.{moment_of}
use Rattle.rank_field.proofs.Next.{attends}
use Rattle.rank_field.proofs.tests.machines.act_alone.Goals as goal

pub act-requires : goal.act-requires
act-requires c =
    let w = c.requires.machine.0 in
    let z = c.requires.machine.1.0 in
    let h = c.requires.machine.1.1 in
    let r = c.args.number in
    let v = c.args.machine in
    let lt : r < ranks_of w = omega (arith, c.if-number-len.false, c.len.ensures, v.ranks.ok.0, h.ranks) in
    let rank = attends w z v h r lt c.remove-rank.result c.remove-rank.ensures.value in
    (moment_of w z h.run r lt, (rank, sym (c.acts.ensures (moment_of w z h.run r lt) rank.rank) ∙ c.if-not-acts.false))
