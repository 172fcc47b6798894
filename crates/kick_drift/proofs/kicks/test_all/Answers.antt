use Rattle.std.proofs.Common.{get_or, ap, ◌∙◌, sym, arith}
use Rattle.fixed_point.specs.Vectors.{origin}
use Rattle.nbody_model.specs.Bodies.{BodyData, only}
use Rattle.nbody_model.specs.Steps.{axis_out, kicked_by}
use Rattle.kick_drift.specs.Parts.{after_kick, ids_at}
use Rattle.kick_drift.proofs.Chosen.{blank}
use Rattle.kick_drift.proofs.FirstOut.{none_leaves, first_leaves, refused}
use Rattle.kick_drift.proofs.kicks.test_all.Goals as goal

pub returns-in-Err-clause-err : goal.returns-in-Err-clause-err
returns-in-Err-clause-err c =
    let B = c.args.set.now in
    let i = get_or c.args.whole.now c.loop-k.k 0 in
    let b : BodyData = get_or B i blank in
    let out = only (after_kick c.args.h c.args.whole.now c.args.f.now c.args.fast.now c.args.g.now B) (ids_at B c.args.whole.now) in
    refused out b.id (kicked_by c.args.h b.motion.mom c.change_at-change.result) c.in-Err.refusal (c.in-Err.ensures.err blank)
    (λ axis e. first_leaves c.args.h c.args.whole.now c.args.f.now c.args.fast.now c.args.g.now B c.ids_ascend.ensures c.requires.whole c.requires.fast c.requires.equal c.loop-k.k blank origin axis c.loop-k-test.true c.loop-k.invariant
    (ap (λ v. axis_out (kicked_by c.args.h b.motion.mom v)) (sym c.change_at-change.ensures) ∙ e))

pub returns-clause-ok : goal.returns-clause-ok
returns-clause-ok c =
    none_leaves c.args.h c.args.whole.now c.args.f.now c.args.fast.now c.args.g.now c.args.set.now c.ids_ascend.ensures c.requires.whole c.requires.fast c.requires.equal (λ j lt. c.loop-k.invariant j (omega (arith, lt, c.loop-k-test.false)))
