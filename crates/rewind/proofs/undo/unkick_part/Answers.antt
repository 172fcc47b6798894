use Rattle.std.proofs.Common.{◌≡◌, List, ℕ, ap, sym, ◌∙◌, subst, rules}
use Rattle.fixed_point.specs.declared.V3.{V3}
use Rattle.nbody_model.specs.Bodies.{BodyData, only}
use Rattle.nbody_model.specs.Setups.{IsSetup}
use Rattle.nbody_model.specs.Fields.{FieldData}
use Rattle.nbody_model.specs.Tables.{Gravity}
use Rattle.nbody_model.specs.Steps.{change}
use Rattle.model_laws.specs.Laws.{AreBodies}
use Rattle.kick_drift.specs.Parts.{ids_at, AreAscending}
use Rattle.step_engine.specs.Told.{AreForcesAmong}
use Rattle.step_engine.specs.Stands.{HasEach}
use Rattle.step_engine.proofs.Ending.{corrects_little}
use Rattle.step_engine.proofs.Changes.{has_each}
use Rattle.rewind_laws.specs.Back.{unkicked_bodies}
use Rattle.rewind.specs.Undoing.{before_kick}
use Rattle.rewind.proofs.Unkicked.{before_is, kick_reached, kick_failed, kick_still}
use Rattle.rewind.proofs.undo.unkick_part.Goals as goal

pub unkick-requires-clause-slow : goal.unkick-requires-clause-slow
unkick-requires-clause-slow g c =
    let gr = g.F.Forces.gravity c.args._forces.now in
    let bodies : AreBodies c.args.set.now = search rules in
    let kinds = c.keep_limits.ensures.kinds in
    let f : c.deref.result.now ≡ c.args.whole.now.forces = c.deref.ensures.value ∙ ap (λ (x : FieldData). x.forces) c.whole.view_is in
    subst (HasEach c.args.split.now.part.now) (sym f)
    (has_each gr c.args.set.now c.args.split.now.part.now c.args.whole.now (subst IsSetup (sym c.requires.stands.setup) c.keeps_setup.ensures) (corrects_little gr.table c.requires.stands.table) bodies (search rules) c.requires.whole.places c.requires.whole.forces)

pub unkick-requires-clause-quick : goal.unkick-requires-clause-quick
unkick-requires-clause-quick g c =
    let gr = g.F.Forces.gravity c.args._forces.now in
    let bodies : AreBodies c.args.set.now = search rules in
    let q : c.deref-2.result.now ≡ c.args.quick.now.forces = c.deref-2.ensures.value ∙ ap (λ (x : FieldData). x.forces) c.quick.view_is in
    subst (HasEach c.args.split.now.fast.now) (sym q)
    (has_each gr c.args.set.now c.args.split.now.fast.now c.args.quick.now (subst IsSetup (sym c.requires.stands.setup) c.keeps_setup.ensures) (corrects_little gr.table c.requires.stands.table) bodies (search rules) c.requires.fast.places c.requires.quick)

before : (gr : Gravity) (h : ℕ) (whole fast : List ℕ) (f q : FieldData) (fs qs : List V3) (B : List BodyData) → AreBodies B → fs ≡ f.forces → qs ≡ q.forces → AreAscending B whole → AreAscending B fast → AreForcesAmong gr (only B (ids_at B whole)) f → AreForcesAmong gr (only B (ids_at B fast)) q →
    before_kick h whole fs fast qs B ≡ unkicked_bodies h (ids_at B whole) (change gr (ids_at B whole) (ids_at B fast) B) B
before gr h whole fast f q fs qs B bodies e k w a l m = (λ i. before_kick h whole (e i) fast (k i) B) ∙ before_is gr h whole fast f q B bodies w a l m

pub returns-in-Ok-clause-ok : goal.returns-in-Ok-clause-ok
returns-in-Ok-clause-ok g c =
    let gr = g.F.Forces.gravity c.args._forces.now in
    let B = c.args.set.now in
    let whole = c.args.split.now.part.now in
    let fast = c.args.split.now.fast.now in
    let bodies : AreBodies B = search rules in
    let f : c.deref.result.now ≡ c.args.whole.now.forces = c.deref.ensures.value ∙ ap (λ (x : FieldData). x.forces) c.whole.view_is in
    let q : c.deref-2.result.now ≡ c.args.quick.now.forces = c.deref-2.ensures.value ∙ ap (λ (x : FieldData). x.forces) c.quick.view_is in
    kick_reached gr (ids_at B whole) (ids_at B fast) c.args.h B c.unkick.new.set
    (c.in-Ok.ensures.ok ∙ before gr c.args.h whole fast c.args.whole.now c.args.quick.now c.deref.result.now c.deref-2.result.now B bodies f q c.requires.whole.places c.requires.fast.places c.requires.whole.forces c.requires.quick) c.in-Ok.ensures.in_range

pub returns-in-Ok-clause-places : goal.returns-in-Ok-clause-places
returns-in-Ok-clause-places g c =
    let gr = g.F.Forces.gravity c.args._forces.now in
    let B = c.args.set.now in
    let whole = c.args.split.now.part.now in
    let fast = c.args.split.now.fast.now in
    let bodies : AreBodies B = search rules in
    let f : c.deref.result.now ≡ c.args.whole.now.forces = c.deref.ensures.value ∙ ap (λ (x : FieldData). x.forces) c.whole.view_is in
    let q : c.deref-2.result.now ≡ c.args.quick.now.forces = c.deref-2.ensures.value ∙ ap (λ (x : FieldData). x.forces) c.quick.view_is in
    kick_still gr (ids_at B whole) (ids_at B fast) c.args.h B c.unkick.new.set
    (c.in-Ok.ensures.ok ∙ before gr c.args.h whole fast c.args.whole.now c.args.quick.now c.deref.result.now c.deref-2.result.now B bodies f q c.requires.whole.places c.requires.fast.places c.requires.whole.forces c.requires.quick)

pub returns-in-Err-clause-err : goal.returns-in-Err-clause-err
returns-in-Err-clause-err g c =
    let gr = g.F.Forces.gravity c.args._forces.now in
    let B = c.args.set.now in
    let whole = c.args.split.now.part.now in
    let fast = c.args.split.now.fast.now in
    let bodies : AreBodies B = search rules in
    let f : c.deref.result.now ≡ c.args.whole.now.forces = c.deref.ensures.value ∙ ap (λ (x : FieldData). x.forces) c.whole.view_is in
    let q : c.deref-2.result.now ≡ c.args.quick.now.forces = c.deref-2.ensures.value ∙ ap (λ (x : FieldData). x.forces) c.quick.view_is in
    kick_failed gr (ids_at B whole) (ids_at B fast) c.args.h B (before_kick c.args.h whole c.deref.result.now fast c.deref-2.result.now B) c.in-Err.e
    (before gr c.args.h whole fast c.args.whole.now c.args.quick.now c.deref.result.now c.deref-2.result.now B bodies f q c.requires.whole.places c.requires.fast.places c.requires.whole.forces c.requires.quick) c.in-Err.ensures.err
