use Rattle.std.proofs.Common.{◌≡◌, ◌<◌, sym, subst, ◌∙◌, arith}
use Rattle.restart_files.specs.RestartFile.{NoFaultBelow, count_in}
use Rattle.restart_files.proofs.EachBody.{first_wrong, none_wrong, one_more}
use Rattle.restart_files.proofs.bodies.check_bodies.Goals as goal

pub loop-index-preserved : goal.loop-index-preserved
loop-index-preserved c = one_more c.args.bytes.now c.loop-index.index c.loop-index.invariant (sym c.in_default.ensures)

pub returns-in-Some-clause-err : goal.returns-in-Some-clause-err
returns-in-Some-clause-err c =
    first_wrong c.args.bytes.now c.in-Some.fault c.loop-index.index (subst (λ n. c.loop-index.index < n) c.requires.count c.loop-index-test.true) c.loop-index.invariant (sym c.body_fault.ensures ∙ c.in-Some.is)

pub returns-clause-ok : goal.returns-clause-ok
returns-clause-ok c =
    let all : c.loop-index.index ≡ count_in c.args.bytes.now = omega (arith, c.loop-index-test.false, c.loop-index.auto.index-end, c.requires.count) in
    none_wrong c.args.bytes.now (subst (NoFaultBelow c.args.bytes.now) all c.loop-index.invariant)
