use Rattle.std.proofs.Common.{◌≡◌, ◌≤◌, ℕ, List, length, ap, sym, ◌∙◌, subst, rules}
use Rattle.nbody_model.specs.Bodies.{BodyData, only}
use Rattle.nbody_model.specs.Fields.{FieldData}
use Rattle.nbody_model.specs.Force.{forces}
use Rattle.nbody_model.specs.Steps.{fast}
use Rattle.model_laws.specs.Laws.{AreBodies}
use Rattle.model_laws.proofs.Kept.{only_bodies}
use Rattle.kick_drift.specs.Parts.{ids_at}
use Rattle.step_engine.proofs.Changes.{forces_length}
use Rattle.rewind_laws.specs.Back.{first_other}
use Rattle.rewind.proofs.Unkicked.{told_reached, told_failed}
use Rattle.rewind.proofs.undo.look_at_fast.Goals as goal

pub fast_part-requires-clause-few : goal.fast_part-requires-clause-few
fast_part-requires-clause-few g c =
    let bodies : AreBodies c.args.set.now = search rules in
    subst (λ (C : List BodyData). length C ≤ 1048576) (sym (c.deref.ensures.value ∙ c.in_ok-gather.ensures)) (only_bodies (ids_at c.args.set.now c.args.split.now.part.now) c.args.set.now bodies).valid.few

pub fast_part-requires-clause-equal : goal.fast_part-requires-clause-equal
fast_part-requires-clause-equal g c =
    ap length (c.deref-2.ensures.value ∙ ap (λ (f : FieldData). f.forces) c.whole.view_is) ∙ forces_length (g.F.Forces.gravity c.args._forces.now) (only c.args.set.now (ids_at c.args.set.now c.args.split.now.part.now)) c.args.whole.now c.requires.whole.forces ∙
    ap length (sym (c.deref.ensures.value ∙ c.in_ok-gather.ensures))

pub returns-in-None-clause-ok : goal.returns-in-None-clause-ok
returns-in-None-clause-ok g c =
    let gr = g.F.Forces.gravity c.args._forces.now in
    let B : List BodyData = c.args.set.now in
    let P : List ℕ = ids_at B c.args.split.now.part.now in
    let bodies : c.deref.result.now ≡ only B P = c.deref.ensures.value ∙ c.in_ok-gather.ensures in
    let again : c.deref-3.result.now ≡ only B P = c.deref-3.ensures.value ∙ c.in_ok-gather.ensures in
    let found : c.deref-2.result.now ≡ forces gr (only B P) = c.deref-2.ensures.value ∙ ap (λ (f : FieldData). f.forces) c.whole.view_is ∙ c.requires.whole.forces.forces in
    let are : ids_at c.deref.result.now c.in_ok-chosen.chosen.items ≡ fast gr c.args.split.now.bin c.deref.result.now = c.in_ok-chosen.ensures.fast gr c.requires.stands.setup (found ∙ ap (forces gr) (sym bodies)) in
    let quick : c.deref-6.result.now ≡ fast gr c.args.split.now.bin (only B P) =
    c.deref-6.ensures.value ∙ c.in_ok-fast.ensures ∙ (λ i. ids_at ((again ∙ sym bodies) i) (c.deref-4.ensures.value i)) ∙ are ∙ ap (fast gr c.args.split.now.bin) bodies in
    let told : c.deref-5.result.now ≡ ids_at B c.args.split.now.fast.now = c.deref-5.ensures.value ∙ c.in_ok-told.ensures in
    let other : first_other (ids_at B c.args.split.now.fast.now) (fast gr c.args.split.now.bin (only B P)) ≡ c.first_other.result = (λ i. first_other (sym told i) (sym quick i)) ∙ sym c.first_other.ensures in
    told_reached gr c.args.split.now.bin P (ids_at B c.args.split.now.fast.now) c.args.split.now.tick B (other ∙ c.in-None.is)

pub returns-clause-err : goal.returns-clause-err
returns-clause-err g c =
    let gr = g.F.Forces.gravity c.args._forces.now in
    let B : List BodyData = c.args.set.now in
    let P : List ℕ = ids_at B c.args.split.now.part.now in
    let bodies : c.deref.result.now ≡ only B P = c.deref.ensures.value ∙ c.in_ok-gather.ensures in
    let again : c.deref-3.result.now ≡ only B P = c.deref-3.ensures.value ∙ c.in_ok-gather.ensures in
    let found : c.deref-2.result.now ≡ forces gr (only B P) = c.deref-2.ensures.value ∙ ap (λ (f : FieldData). f.forces) c.whole.view_is ∙ c.requires.whole.forces.forces in
    let are : ids_at c.deref.result.now c.in_ok-chosen.chosen.items ≡ fast gr c.args.split.now.bin c.deref.result.now = c.in_ok-chosen.ensures.fast gr c.requires.stands.setup (found ∙ ap (forces gr) (sym bodies)) in
    let quick : c.deref-6.result.now ≡ fast gr c.args.split.now.bin (only B P) =
    c.deref-6.ensures.value ∙ c.in_ok-fast.ensures ∙ (λ i. ids_at ((again ∙ sym bodies) i) (c.deref-4.ensures.value i)) ∙ are ∙ ap (fast gr c.args.split.now.bin) bodies in
    let told : c.deref-5.result.now ≡ ids_at B c.args.split.now.fast.now = c.deref-5.ensures.value ∙ c.in_ok-told.ensures in
    let other : first_other (ids_at B c.args.split.now.fast.now) (fast gr c.args.split.now.bin (only B P)) ≡ c.first_other.result = (λ i. first_other (sym told i) (sym quick i)) ∙ sym c.first_other.ensures in
    told_failed gr c.args.split.now.bin P (ids_at B c.args.split.now.fast.now) c.args.split.now.tick B c.in-Some.id (other ∙ c.in-Some.is)
