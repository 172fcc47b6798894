use Rattle.std.proofs.Common.{◌-◌, arith}
use Rattle.group_file.proofs.Twice.{alone, repeated_at}
use Rattle.group_file.proofs.repeats.first_repeated.Goals as goal

pub returns-then-ids-i-clause-some : goal.returns-then-ids-i-clause-some
returns-then-ids-i-clause-some c =
    repeated_at c.args.ids.now (c.loop-i.i - 1) c.loop-i.i c.requires (omega (arith, c.loop-i.auto.i)) c.loop-i-test.true c.if-ids-i.true c.loop-i.invariant

pub returns-clause-none : goal.returns-clause-none
returns-clause-none c = alone c.args.ids.now c.requires (λ k d h. c.loop-i.invariant k d (omega (arith, h, c.loop-i-test.false, c.loop-i.auto.i-end)))
