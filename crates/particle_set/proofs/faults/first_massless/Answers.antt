use Rattle.std.proofs.Common.{[], get_or, arith}
use Rattle.std.proofs.lemmas.List.{get_or_default}
use Rattle.particle_set.specs.declared.row.Row.{Row}
use Rattle.particle_set.specs.Rows.{IsMassless}
use Rattle.particle_set.proofs.Least.{least_at_first}
use Rattle.particle_set.proofs.faults.first_massless.Goals as goal

blank : Row
blank = record { id = 0; kind = 0; mass = 0; pos = []; mom = [] }

pub returns-then-row-eq0-clause-some : goal.returns-then-row-eq0-clause-some
unfolding blank
returns-then-row-eq0-clause-some c =
    let rows = c.args.rows.now in
    let i = c.loop-row.row-index in
    least_at_first IsMassless rows i (get_or rows i blank) c.requires c.loop-row-test.true (get_or_default rows i _ _ c.loop-row-test.true)
    (record { zero_mass = c.if-row-eq0.true })
    (λ k d lt h. omega (arith, (c.loop-row.invariant k d lt).low, h.zero_mass))
