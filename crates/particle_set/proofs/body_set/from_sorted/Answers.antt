use Rattle.std.proofs.Common.{arith, rules}
use Rattle.particle_set.proofs.RowLemmas.{IsValid-bodies}
use Rattle.particle_set.proofs.Least.{alone}
use Rattle.particle_set.proofs.Refusals.{later, set_of}
use Rattle.particle_set.proofs.body_set.from_sorted.Goals as goal

pub invariant_of-result : goal.invariant_of-result
invariant_of-result c = rw c.in_ok-bodies.ensures.ok (IsValid-bodies c.args.rows.now c.in_default.ensures.none (omega arith) (omega arith))

pub returns-in-Some-first_massless-clause-err : goal.returns-in-Some-first_massless-clause-err
returns-in-Some-first_massless-clause-err c = (c.requires.few, alone c.args.rows.now c.in_default.ensures.none c.requires.up, c.in-Some-first_massless.ensures.some)

pub returns-then-sum-gt-MOST_MASS-clause-err : goal.returns-then-sum-gt-MOST_MASS-clause-err
returns-then-sum-gt-MOST_MASS-clause-err c =
    (c.requires.few, alone c.args.rows.now c.in_default.ensures.none c.requires.up, c.in_default-first_massless.ensures.none, omega arith, omega arith)

pub returns-in_err-bodies-clause-err : goal.returns-in_err-bodies-clause-err
returns-in_err-bodies-clause-err c =
    let first = later c.args.rows.now c.in_err-bodies.field-0.0 c.requires.few (alone c.args.rows.now c.in_default.ensures.none c.requires.up) c.in_default-first_massless.ensures.none (omega arith) c.in_err-bodies.ensures.err in
    search rules

pub returns-clause-ok : goal.returns-clause-ok
returns-clause-ok c = set_of c.args.rows.now c.in_ok-bodies.bodies.items c.in_ok-bodies.ensures.ok (IsValid-bodies c.args.rows.now c.in_default.ensures.none (omega arith) (omega arith)) c.in_default-first_massless.ensures.none c.in_ok-bodies.ensures.in_range
