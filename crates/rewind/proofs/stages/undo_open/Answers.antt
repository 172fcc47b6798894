use Rattle.std.proofs.Common.{◌≡◌, List, ap, sym, ◌∙◌, subst, option_copied}
use Rattle.nbody_model.specs.Bodies.{BodyData, only}
use Rattle.nbody_model.specs.Tables.{Gravity}
use Rattle.kick_drift.specs.Parts.{ids_at}
use Rattle.step_engine.specs.Told.{AreForcesAmong}
use Rattle.step_engine.proofs.Closing.{forces_still}
use Rattle.rewind_laws.specs.Back.{Reached, back_kick, as_told}
use Rattle.rewind.specs.Rewinding.{IsRefusedBy}
use Rattle.rewind.proofs.Halves.{open_reached, open_told_failed, same_ids, named_same, ascending_same}
use Rattle.rewind.proofs.stages.undo_open.Goals as goal

pub look_at_fast-requires-clause-whole : goal.look_at_fast-requires-clause-whole
look_at_fast-requires-clause-whole g c =
    let gr = g.F.Forces.gravity c.args.forces.now in
    let B : List BodyData = c.args.set.now in
    let C : List BodyData = c.unkick_part.new.set in
    let part = c.args.split.now.part.now in
    let ids = same_ids B C c.in-Ok-unkick_part.ensures.places in
    let kept : AreForcesAmong gr (only C (ids_at C part)) c.in-Ok.whole = subst (λ Q. AreForcesAmong gr (only C Q) c.in-Ok.whole) (sym (named_same B C part ids)) (forces_still gr (ids_at B part) c.in-Ok.whole B C c.in-Ok-unkick_part.ensures.places c.in-Ok.ensures.forces) in
    record { places = ascending_same B C part ids c.requires.part; forces = subst (λ (x : Gravity). AreForcesAmong x (only C (ids_at C part)) c.in-Ok.whole) (sym c.in-Ok.ensures.same_gravity) kept }

pub returns-in-Ok-look_at_fast-clause-forces : goal.returns-in-Ok-look_at_fast-clause-forces
returns-in-Ok-look_at_fast-clause-forces g c =
    forces_still (g.F.Forces.gravity c.args.forces.now) (ids_at c.args.set.now c.args.split.now.part.now) c.in-Ok.whole c.args.set.now c.unkick_part.new.set c.in-Ok-unkick_part.ensures.places c.in-Ok.ensures.forces

pub returns-in-Ok-look_at_fast-clause-ok : goal.returns-in-Ok-look_at_fast-clause-ok
returns-in-Ok-look_at_fast-clause-ok g c =
    let gr = g.F.Forces.gravity c.args.forces.now in
    let B : List BodyData = c.args.set.now in
    let C : List BodyData = c.unkick_part.new.set in
    let P = ids_at B c.args.split.now.part.now in
    let F = ids_at B c.args.split.now.fast.now in
    let bin = c.args.split.now.bin in
    let t = c.args.split.now.tick in
    let ids = same_ids B C c.in-Ok-unkick_part.ensures.places in
    let same = c.in-Ok.ensures.same_gravity in
    let kick : back_kick gr P F c.first_factor-h.result B ≡ Reached C = ap (λ x. back_kick x P F c.first_factor-h.result B) (sym same) ∙ c.in-Ok-unkick_part.ensures.ok in
    let told : as_told gr bin P F t C ≡ Reached C = (λ i. as_told (sym same i) bin (sym (named_same B C c.args.split.now.part.now ids) i) (sym (named_same B C c.args.split.now.fast.now ids) i) t C) ∙ c.in-Ok-look_at_fast.ensures.ok in
    open_reached gr (option_copied c.args.course.now.expansion) bin P F t c.first_factor-h.result B C c.first_factor-h.ensures.value kick told

pub returns-in-Ok-look_at_fast-clause-ids : goal.returns-in-Ok-look_at_fast-clause-ids
returns-in-Ok-look_at_fast-clause-ids g c = same_ids c.args.set.now c.unkick_part.new.set c.in-Ok-unkick_part.ensures.places

pub returns-in-Err-look_at_fast-clause-err : goal.returns-in-Err-look_at_fast-clause-err
returns-in-Err-look_at_fast-clause-err g c =
    let gr = g.F.Forces.gravity c.args.forces.now in
    let B : List BodyData = c.args.set.now in
    let C : List BodyData = c.unkick_part.new.set in
    let P = ids_at B c.args.split.now.part.now in
    let F = ids_at B c.args.split.now.fast.now in
    let bin = c.args.split.now.bin in
    let t = c.args.split.now.tick in
    let ids = same_ids B C c.in-Ok-unkick_part.ensures.places in
    let same = c.in-Ok.ensures.same_gravity in
    let kick : back_kick gr P F c.first_factor-h.result B ≡ Reached C = ap (λ x. back_kick x P F c.first_factor-h.result B) (sym same) ∙ c.in-Ok-unkick_part.ensures.ok in
    let told : as_told (g.F.Forces.gravity c.ask_whole.new.forces) bin (ids_at C c.args.split.now.part.now) (ids_at C c.args.split.now.fast.now) t C ≡ as_told gr bin P F t C = (λ i. as_told (same i) bin (named_same B C c.args.split.now.part.now ids i) (named_same B C c.args.split.now.fast.now ids i) t C) in
    open_told_failed gr (option_copied c.args.course.now.expansion) bin P F t c.first_factor-h.result B C c.in-Err-look_at_fast.e c.first_factor-h.ensures.value kick
    (subst (λ x. IsRefusedBy x c.in-Err-look_at_fast.e) told c.in-Err-look_at_fast.ensures.err)
