use Rattle.std.proofs.Common.{[], ◌-◌, arith}
use Rattle.particle_set.specs.declared.row.Row.{Row}
use Rattle.particle_set.proofs.Least.{repeated_at}
use Rattle.particle_set.proofs.RowLemmas.{ids-rise}
use Rattle.particle_set.proofs.faults.first_repeated.Goals as goal

blank : Row
blank = record { id = 0; kind = 0; mass = 0; pos = []; mom = [] }

pub returns-then-rows-i-clause-some : goal.returns-then-rows-i-clause-some
unfolding blank
returns-then-rows-i-clause-some c =
    repeated_at c.args.rows.now (c.loop-i.i - 1) c.loop-i.i blank c.requires (omega arith) c.loop-i-test.true c.if-rows-i.true c.loop-i.invariant

pub returns-clause-none : goal.returns-clause-none
returns-clause-none c = ids-rise c.args.rows.now (λ k d h. c.loop-i.invariant k d (omega (arith, h)))
