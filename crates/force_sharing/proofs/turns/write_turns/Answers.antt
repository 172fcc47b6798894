use Rattle.std.proofs.Common.{rules, arith}
use Rattle.force_sharing.specs.Turns.{turn}
use Rattle.force_sharing.proofs.Written.{written_all}
use Rattle.force_sharing.proofs.turns.write_turns.Goals as goal

pub returns-clause-turns : goal.returns-clause-turns
returns-clause-turns c =
    written_all (turn c.args.s c.args.mass) c.args.members.now c.loop-i.turns (0, 0) 0
    (search rules)
    (λ k h. c.loop-i.invariant.written k (omega (arith, c.loop-i-test.false, h)))
