use Rattle.std.proofs.Common.{◌≡◌, ℕ, ℤ, List, [], length, map, Some, None, Err, refl, ap, sym, ◌∙◌, subst, arith, option_copied}
use Rattle.nbody_model.specs.declared.kicks.Record.{Record}
use Rattle.nbody_model.specs.Bodies.{BodyData, only, total, components}
use Rattle.nbody_model.specs.Setups.{SetupData, IsSetup}
use Rattle.nbody_model.specs.Tables.{Gravity, Rules}
use Rattle.nbody_model.specs.Fields.{FieldData}
use Rattle.nbody_model.specs.Steps.{change, kicked_bodies}
use Rattle.nbody_model.specs.Evolve.{kick, record_of}
use Rattle.kick_drift.specs.declared.kicks.KickErr.{KickErr}
use Rattle.kick_drift.specs.declared.kicks.KickErr.TheVariants.{MomRange}
use Rattle.kick_drift.specs.Parts.{ids_at, after_kick, AreAscending}
use Rattle.model_laws.specs.Laws.{AreBodies}
use Rattle.model_laws.specs.Conserved.{IsConserved}
use Rattle.model_laws.specs.Still.{still, SamePlaces}
use Rattle.model_laws.proofs.Still.{kicks_move_nothing}
use Rattle.step_engine.specs.Told.{Finder, AreForcesAmong}
use Rattle.step_engine.specs.Stands.{now, Now, IsReady, out_after, IsRefusedBy}
use Rattle.step_engine.specs.Halts.{refusal_of}
use Rattle.step_engine.specs.Ends.{Makes}
use Rattle.step_engine.proofs.Picks.{length_only_at}
use Rattle.step_engine.proofs.Changes.{has_each, made_is, after_is, places_few}
use Rattle.step_engine.proofs.Keeps.{kick_conserves}
use Rattle.step_engine.proofs.Leaves.{Leads, kick_refused, kick_broken, kick_made}
use Rattle.step_engine.proofs.kicks.kick_part.Goals as goal

pub kick_unless_none-requires-clause-slow : goal.kick_unless_none-requires-clause-slow
kick_unless_none-requires-clause-slow g c =
    has_each (g.F.Forces.gravity c.args._forces.now) c.args.set.now c.args.at.now.whole.now c.args.f.now (subst IsSetup (sym c.requires.ready.setup) c.keeps_setup.ensures) c.requires.ready.table c.requires.ready.bodies c.requires.ready.kinds c.requires.whole.places c.requires.whole.forces

pub kick_unless_none-requires-clause-quick : goal.kick_unless_none-requires-clause-quick
kick_unless_none-requires-clause-quick g c =
    has_each (g.F.Forces.gravity c.args._forces.now) c.args.set.now c.args.at.now.fast.now c.args.quick.now (subst IsSetup (sym c.requires.ready.setup) c.keeps_setup.ensures) c.requires.ready.table c.requires.ready.bodies c.requires.ready.kinds c.requires.fast.places c.requires.quick

pub overflow_cast-entry : goal.overflow_cast-entry
overflow_cast-entry g c = let few = places_few c.args.set.now c.args.at.now.whole.now c.requires.ready.bodies c.requires.whole.places in omega (arith, few)

pub overflow_cast-entry-2 : goal.overflow_cast-entry-2
overflow_cast-entry-2 g c = let few = places_few c.args.set.now c.args.at.now.fast.now c.requires.ready.bodies c.requires.fast.places in omega (arith, few)

-- the refusal of the code is that of the definition
refused_out : (gr : Gravity) (h : ℕ) (whole fast : List ℕ) (f q : FieldData) (B : List BodyData) (id axis : ℕ) → AreBodies B → AreAscending B whole → AreAscending B fast → AreForcesAmong gr (only B (ids_at B whole)) f → AreForcesAmong gr (only B (ids_at B fast)) q →
    out_after h (ids_at B whole) (after_kick h whole f.forces fast q.forces B) ≡ Some (id, axis) → out_after h (ids_at B whole) (kicked_bodies h (ids_at B whole) (change gr (ids_at B whole) (ids_at B fast) B) B) ≡ Some (id, axis)
refused_out gr h whole fast f q B id axis b w a k l e = ap (out_after h (ids_at B whole)) (sym (after_is gr h whole fast f q B b w a k l)) ∙ e

refused : (passes : Finder) (n t : ℕ) (r : Rules) (s : SetupData) (sum : List ℤ) (bin : ℕ) (whole fast : List ℕ) (f q : FieldData) (h : ℕ) (e : KickErr) (A : Now) (S : List BodyData) → IsReady s sum A → r.gravity ≡ A.gravity → AreAscending A.bodies whole → AreAscending A.bodies fast →
    AreForcesAmong A.gravity (only A.bodies (ids_at A.bodies whole)) f → AreForcesAmong A.gravity (only A.bodies (ids_at A.bodies fast)) q → IsRefusedBy (out_after h (ids_at A.bodies whole) (after_kick h whole f.forces fast q.forces A.bodies)) e → S ≡ A.bodies →
    Makes {T = Unit {0}} passes n 1 t t (λ stop p. kick r bin (ids_at A.bodies whole) (ids_at A.bodies fast) t h p) (Err (refusal_of t bin e)) A (record A { bodies = S })
refused passes n t r s sum bin whole fast f q h (MomRange id axis) A S ready g w a k l e same =
    subst (λ B. Makes {T = Unit {0}} passes n 1 t t (λ stop p. kick r bin (ids_at A.bodies whole) (ids_at A.bodies fast) t h p) (Err (refusal_of t bin (MomRange id axis))) A (record A { bodies = B })) (sym same)
    (kick_refused passes (Unit {0}) n t r bin (ids_at A.bodies whole) (ids_at A.bodies fast) t h id axis A ready.bodies g (refused_out A.gravity h whole fast f q A.bodies id axis ready.bodies w a k l e))

pub returns-in-Err-clause-makes : goal.returns-in-Err-clause-makes
returns-in-Err-clause-makes g c = λ n.
    let r : Rules = record { gravity = g.F.Forces.gravity c.args._forces.now; expansion = option_copied c.args.course.now.expansion } in
    let a = now c.args.set.now (g.F.Forces.gravity c.args._forces.now) (g.F.Forces.fixed c.args._forces.now) (g.F.Forces.state c.args._forces.now) (g.O.KickOut.faults c.args.out.now) (g.O.KickOut.yes c.args.out.now) (g.O.KickOut.took c.args.out.now) c.args.work.now in
    rw c.refusal_of.ensures
    (refused g.F.Forces.passes n c.args.at.now.tick r c.args.course.now.setup.now c.args.course.now.total c.args.at.now.bin c.args.at.now.whole.now c.args.at.now.fast.now c.args.f.now c.args.quick.now c.args.at.now.h c.in-Err.refusal a c.kick_unless_none.new.set
    c.requires.ready refl c.requires.whole.places c.requires.fast.places c.requires.whole.forces c.requires.quick c.in-Err.ensures.refused c.in-Err.ensures.unchanged)

still_made : (gr : Gravity) (h : ℕ) (whole fast : List ℕ) (B S : List BodyData) → S ≡ kicked_bodies h (ids_at B whole) (change gr (ids_at B whole) (ids_at B fast) B) B → SamePlaces S B
still_made gr h whole fast B S e = subst (λ C. SamePlaces C B) (sym e) (kicks_move_nothing h (ids_at B whole) (change gr (ids_at B whole) (ids_at B fast) B) B)

-- what the code and the definition tell of a kick
entry_is : (r : Rules) (tick bin : ℕ) (whole fast : List ℕ) (f q : FieldData) (pairs fast_pairs : ℕ) (sum : List ℤ) (B S : List BodyData) → pairs ≡ f.interactions → fast_pairs ≡ q.interactions → AreBodies B → AreAscending B whole → AreAscending B fast → AreForcesAmong r.gravity (only B (ids_at B whole)) f → AreForcesAmong r.gravity (only B (ids_at B fast)) q →
    sum ≡ components (total B) → IsConserved B S [] →
    ◌≡◌ {A = Record} (record { tick = tick; bin = bin; whole = length whole; fast = length fast; pairs = pairs; fast_pairs = fast_pairs; total = sum }) (record_of r tick bin (ids_at B whole) (ids_at B fast) B S)
entry_is r tick bin whole fast f q pairs fast_pairs sum B S m n b w a k l t c =
    let one : length whole ≡ length (only B (ids_at B whole)) = sym (length_only_at B whole b.valid.ascending w) in
    let two : length fast ≡ length (only B (ids_at B fast)) = sym (length_only_at B fast b.valid.ascending a) in
    let three : sum ≡ components (total S) = t ∙ ap components (sym c.momentum) in
    λ i. record { tick = tick; bin = bin; whole = one i; fast = two i; pairs = (m ∙ k.interactions) i; fast_pairs = (n ∙ l.interactions) i; total = three i }

out_none : (gr : Gravity) (h : ℕ) (whole fast : List ℕ) (f q : FieldData) (B S : List BodyData) → AreBodies B → AreAscending B whole → AreAscending B fast → AreForcesAmong gr (only B (ids_at B whole)) f → AreForcesAmong gr (only B (ids_at B fast)) q →
    S ≡ kicked_bodies h (ids_at B whole) (change gr (ids_at B whole) (ids_at B fast) B) B → out_after h (ids_at B whole) (after_kick h whole f.forces fast q.forces B) ≡ None → out_after h (ids_at B whole) S ≡ None
out_none gr h whole fast f q B S b w a k l m e = ap (out_after h (ids_at B whole)) (m ∙ sym (after_is gr h whole fast f q B b w a k l)) ∙ e

pub returns-in-Ok-kicked-clause-makes : goal.returns-in-Ok-kicked-clause-makes
returns-in-Ok-kicked-clause-makes g c = λ n.
    let gr = g.F.Forces.gravity c.args._forces.now in
    let r : Rules = record { gravity = gr; expansion = option_copied c.args.course.now.expansion } in
    let B = c.args.set.now in
    let S = c.kick_unless_none.new.set in
    let whole = c.args.at.now.whole.now in
    let fast = c.args.at.now.fast.now in
    let a = now B gr (g.F.Forces.fixed c.args._forces.now) (g.F.Forces.state c.args._forces.now) (g.O.KickOut.faults c.args.out.now) (g.O.KickOut.yes c.args.out.now) (g.O.KickOut.took c.args.out.now) c.args.work.now in
    let z = now S gr (g.F.Forces.fixed c.args._forces.now) (g.F.Forces.state c.args._forces.now) (g.O.KickOut.faults c.kicked.new.self) (g.O.KickOut.yes c.kicked.new.self) (g.O.KickOut.took c.kicked.new.self) (record c.args.work.now { count = c.count_kick.new.count }) in
    let entry : Record = record { tick = c.args.at.now.tick; bin = c.args.at.now.bin; whole = length whole; fast = length fast; pairs = c.f.inside.interactions; fast_pairs = c.quick.inside.interactions; total = c.args.course.now.total } in
    let made = made_is gr c.args.at.now.h whole fast c.args.f.now c.args.quick.now B S c.requires.ready.bodies c.requires.whole.places c.requires.fast.places c.requires.whole.forces c.requires.quick c.in-Ok.ensures.kicked in
    let kept : IsConserved B S [] = subst (λ C. IsConserved B C []) (sym made) (kick_conserves gr c.args.at.now.h (ids_at B whole) (ids_at B fast) B c.requires.ready.bodies c.requires.fast.part) in
    let l : Leads 1 a z = record { gravity = refl; fixed = refl; conserved = kept; few = omega (arith, c.count_kick.ensures.kicks); counted = λ h. c.count_kick.ensures.counted; yes = c.in-Ok-kicked.ensures.same_yes; depth = refl } in
    kick_made g.F.Forces.passes (Unit {0}) n c.args.at.now.tick r c.args.at.now.bin (ids_at B whole) (ids_at B fast) c.args.at.now.tick c.args.at.now.h entry tt a z l refl refl made
    (out_none gr c.args.at.now.h whole fast c.args.f.now c.args.quick.now B S c.requires.ready.bodies c.requires.whole.places c.requires.fast.places c.requires.whole.forces c.requires.quick made c.in-Ok.ensures.in_range)
    (entry_is r c.args.at.now.tick c.args.at.now.bin whole fast c.args.f.now c.args.quick.now c.f.inside.interactions c.quick.inside.interactions c.args.course.now.total B S (ap (λ (x : FieldData). x.interactions) c.f.view_is) (ap (λ (x : FieldData). x.interactions) c.quick.view_is) c.requires.ready.bodies c.requires.whole.places c.requires.fast.places c.requires.whole.forces c.requires.quick c.requires.ready.total kept)
    c.in-Ok-kicked.ensures.ok c.count_kick.ensures.kicks c.count_kick.ensures.interactions (c.in-Ok-kicked.ensures.cause.kept refl)

pub returns-in-Err-kicked-clause-makes : goal.returns-in-Err-kicked-clause-makes
returns-in-Err-kicked-clause-makes g c = λ n.
    let gr = g.F.Forces.gravity c.args._forces.now in
    let r : Rules = record { gravity = gr; expansion = option_copied c.args.course.now.expansion } in
    let B = c.args.set.now in
    let S = c.kick_unless_none.new.set in
    let whole = c.args.at.now.whole.now in
    let fast = c.args.at.now.fast.now in
    let a = now B gr (g.F.Forces.fixed c.args._forces.now) (g.F.Forces.state c.args._forces.now) (g.O.KickOut.faults c.args.out.now) (g.O.KickOut.yes c.args.out.now) (g.O.KickOut.took c.args.out.now) c.args.work.now in
    let z = now S gr (g.F.Forces.fixed c.args._forces.now) (g.F.Forces.state c.args._forces.now) (g.O.KickOut.faults c.kicked.new.self) (g.O.KickOut.yes c.kicked.new.self) (g.O.KickOut.took c.kicked.new.self) (record c.args.work.now { count = c.count_kick.new.count }) in
    let entry : Record = record { tick = c.args.at.now.tick; bin = c.args.at.now.bin; whole = length whole; fast = length fast; pairs = c.f.inside.interactions; fast_pairs = c.quick.inside.interactions; total = c.args.course.now.total } in
    let made = made_is gr c.args.at.now.h whole fast c.args.f.now c.args.quick.now B S c.requires.ready.bodies c.requires.whole.places c.requires.fast.places c.requires.whole.forces c.requires.quick c.in-Ok.ensures.kicked in
    let kept : IsConserved B S [] = subst (λ C. IsConserved B C []) (sym made) (kick_conserves gr c.args.at.now.h (ids_at B whole) (ids_at B fast) B c.requires.ready.bodies c.requires.fast.part) in
    let l : Leads 1 a z = record { gravity = refl; fixed = refl; conserved = kept; few = omega (arith, c.count_kick.ensures.kicks); counted = λ h. c.count_kick.ensures.counted; yes = c.in-Err-kicked.ensures.same_yes; depth = refl } in
    rw c.halt_for.ensures
    (kick_broken g.F.Forces.passes (Unit {0}) n c.args.at.now.tick r c.args.at.now.bin (ids_at B whole) (ids_at B fast) c.args.at.now.tick c.args.at.now.h entry c.in-Err-kicked.e a z l refl refl made
    (out_none gr c.args.at.now.h whole fast c.args.f.now c.args.quick.now B S c.requires.ready.bodies c.requires.whole.places c.requires.fast.places c.requires.whole.forces c.requires.quick made c.in-Ok.ensures.in_range)
    (entry_is r c.args.at.now.tick c.args.at.now.bin whole fast c.args.f.now c.args.quick.now c.f.inside.interactions c.quick.inside.interactions c.args.course.now.total B S (ap (λ (x : FieldData). x.interactions) c.f.view_is) (ap (λ (x : FieldData). x.interactions) c.quick.view_is) c.requires.ready.bodies c.requires.whole.places c.requires.fast.places c.requires.whole.forces c.requires.quick c.requires.ready.total kept)
    c.in-Err-kicked.ensures.err c.in-Err-kicked.ensures.cause)

pub returns-in-Err-clause-places : goal.returns-in-Err-clause-places
returns-in-Err-clause-places g c = ap (map still) c.in-Err.ensures.unchanged

pub returns-in-Ok-kicked-clause-places : goal.returns-in-Ok-kicked-clause-places
returns-in-Ok-kicked-clause-places g c =
    let gr = g.F.Forces.gravity c.args._forces.now in
    still_made gr c.args.at.now.h c.args.at.now.whole.now c.args.at.now.fast.now c.args.set.now c.kick_unless_none.new.set
    (made_is gr c.args.at.now.h c.args.at.now.whole.now c.args.at.now.fast.now c.args.f.now c.args.quick.now c.args.set.now c.kick_unless_none.new.set c.requires.ready.bodies c.requires.whole.places c.requires.fast.places c.requires.whole.forces c.requires.quick c.in-Ok.ensures.kicked)

pub returns-in-Err-kicked-clause-places : goal.returns-in-Err-kicked-clause-places
returns-in-Err-kicked-clause-places g c =
    let gr = g.F.Forces.gravity c.args._forces.now in
    still_made gr c.args.at.now.h c.args.at.now.whole.now c.args.at.now.fast.now c.args.set.now c.kick_unless_none.new.set
    (made_is gr c.args.at.now.h c.args.at.now.whole.now c.args.at.now.fast.now c.args.f.now c.args.quick.now c.args.set.now c.kick_unless_none.new.set c.requires.ready.bodies c.requires.whole.places c.requires.fast.places c.requires.whole.forces c.requires.quick c.in-Ok.ensures.kicked)
