use Rattle.std.proofs.Common.{◌≡◌, List, ap, sym, ◌∙◌, subst, option_copied}
use Rattle.nbody_model.specs.Bodies.{BodyData, only}
use Rattle.nbody_model.specs.Steps.{without}
use Rattle.model_laws.specs.Nests.{ids_of}
use Rattle.kick_drift.specs.Parts.{ids_at}
use Rattle.step_engine.specs.Told.{AreForcesAmong}
use Rattle.step_engine.proofs.Closing.{forces_still}
use Rattle.rewind_laws.specs.Back.{undrift}
use Rattle.rewind.proofs.Halves.{close_reached, close_failed, same_ids, undrift_ids, forces_apart, named_same}
use Rattle.rewind.proofs.stages.undo_close.Goals as goal

pub returns-in-Err-clause-err : goal.returns-in-Err-clause-err
returns-in-Err-clause-err g c =
    close_failed (g.F.Forces.gravity c.args._forces.now) (option_copied c.args.course.now.expansion) c.args.split.now.bin (ids_at c.args.set.now c.args.split.now.part.now) (ids_at c.args.set.now c.args.split.now.fast.now) c.args.split.now.tick c.last_factor-h.result c.args.set.now c.in-Err.e
    c.last_factor-h.ensures.value c.in-Err.ensures.err

pub returns-in-Ok-undrift_slow-clause-ok : goal.returns-in-Ok-undrift_slow-clause-ok
returns-in-Ok-undrift_slow-clause-ok g c =
    let gr = g.F.Forces.gravity c.args._forces.now in
    let s = c.args.course.now.setup.now in
    let B : List BodyData = c.args.set.now in
    let C : List BodyData = c.unkick_part.new.set in
    let part = c.args.split.now.part.now in
    let fast = c.args.split.now.fast.now in
    let ids = same_ids B C c.in-Ok.ensures.places in
    let two : c.undrift_slow.new.set ≡ undrift s (without (ids_at B fast) (ids_at B part)) c.drift_ticks-ticks.result C = c.in-Ok-undrift_slow.ensures ∙ (λ i. undrift s (without (named_same B C fast ids i) (named_same B C part ids i)) c.drift_ticks-ticks.result C) in
    close_reached gr (option_copied c.args.course.now.expansion) s c.args.split.now.bin (ids_at B part) (ids_at B fast) c.args.split.now.tick c.last_factor-h.result c.drift_ticks-ticks.result B C c.undrift_slow.new.set c.requires.stands.setup c.last_factor-h.ensures.value c.drift_ticks-ticks.ensures.value c.in-Ok.ensures.ok two

pub returns-in-Ok-undrift_slow-clause-ids : goal.returns-in-Ok-undrift_slow-clause-ids
returns-in-Ok-undrift_slow-clause-ids g c =
    let s = c.args.course.now.setup.now in
    let B : List BodyData = c.args.set.now in
    let C : List BodyData = c.unkick_part.new.set in
    ap ids_of c.in-Ok-undrift_slow.ensures ∙ undrift_ids s (without (ids_at C c.args.split.now.fast.now) (ids_at C c.args.split.now.part.now)) c.drift_ticks-ticks.result C ∙ same_ids B C c.in-Ok.ensures.places

pub returns-in-Ok-undrift_slow-clause-quick : goal.returns-in-Ok-undrift_slow-clause-quick
returns-in-Ok-undrift_slow-clause-quick g c =
    let gr = g.F.Forces.gravity c.args._forces.now in
    let s = c.args.course.now.setup.now in
    let B : List BodyData = c.args.set.now in
    let C : List BodyData = c.unkick_part.new.set in
    let part = c.args.split.now.part.now in
    let fast = c.args.split.now.fast.now in
    let ids = same_ids B C c.in-Ok.ensures.places in
    let two : c.undrift_slow.new.set ≡ undrift s (without (ids_at B fast) (ids_at B part)) c.drift_ticks-ticks.result C = c.in-Ok-undrift_slow.ensures ∙ (λ i. undrift s (without (named_same B C fast ids i) (named_same B C part ids i)) c.drift_ticks-ticks.result C) in
    subst (λ (D : List BodyData). AreForcesAmong gr (only D (ids_at B fast)) c.args.quick.now) (sym two)
    (forces_apart gr s (ids_at B fast) (ids_at B part) c.drift_ticks-ticks.result c.args.quick.now C (forces_still gr (ids_at B fast) c.args.quick.now B C c.in-Ok.ensures.places c.requires.quick))
