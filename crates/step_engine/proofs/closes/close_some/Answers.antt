use Rattle.std.proofs.Common.{◌≡◌, ◌≢◌, ◌+◌, ◌-◌, ◌^◌, ℕ, List, [], length, Ok, Err, refl, ap, sym, ◌∙◌, subst, arith, option_copied}
use Rattle.nbody_model.specs.declared.field.Field.{Field}
use Rattle.nbody_model.specs.Bodies.{BodyData, only}
use Rattle.nbody_model.specs.Setups.{SetupData}
use Rattle.nbody_model.specs.Tables.{Gravity, Rules}
use Rattle.nbody_model.specs.Factors.{kick_factor, drift_factor}
use Rattle.nbody_model.specs.Steps.{drift, without}
use Rattle.nbody_model.specs.Evolve.{kick, close}
use Rattle.kick_drift.specs.Parts.{ids_at}
use Rattle.model_laws.specs.Conserved.{IsConserved}
use Rattle.step_engine.specs.declared.halt.Halt.{Halt}
use Rattle.step_engine.specs.Told.{Finder, AreForcesAmong}
use Rattle.step_engine.specs.Stands.{Now, IsReady, now}
use Rattle.step_engine.specs.Ends.{Makes}
use Rattle.step_engine.proofs.Keeps.{drift_conserves, same_places, ascending_on, of_on}
use Rattle.step_engine.proofs.Adds.{close_adds}
use Rattle.step_engine.proofs.Leaves.{Leads, drifting, leads_same, wanting}
use Rattle.step_engine.proofs.Joins.{valued, halt_as}
use Rattle.step_engine.proofs.Closing.{forces_still, forces_apart, retimed, ready_made, closed, closed_asking, moves_on, asks_for, kicks_last}
use Rattle.step_engine.proofs.Picks.{other_lengths}
use Rattle.step_engine.proofs.closes.close_some.Goals as goal

-- the drift of the definition
drift_is : (r : Rules) (s : SetupData) (bin : ℕ) (P F : List ℕ) (t ticks : ℕ) (B S : List BodyData) → r.gravity.setup ≡ s → ticks ≡ drift_factor r.expansion t (t + 2 ^ bin) → S ≡ drift s (without F P) ticks B → S ≡ drift r.gravity.setup (without F P) (drift_factor r.expansion t (t + 2 ^ bin)) B
drift_is r s bin P F t ticks B S e f h = h ∙ (λ i. drift (sym e i) (without F P) (f i) B)

-- room for more kicks
more_kicks : (A Z : Now) → Leads 0 A Z → Leads 1 A Z
more_kicks A Z l = record { gravity = l.gravity; fixed = l.fixed; conserved = l.conserved; few = omega (arith, l.few); counted = l.counted; yes = l.yes; depth = l.depth }

closed_value : (passes : Finder) (n : ℕ) (r : Rules) (bin : ℕ) (P F : List ℕ) (t e : ℕ) (f : Field) (A M N Z : Now) → length F ≢ length P → Makes {T = Unit {0}} passes n 0 e e (moves_on r bin P F t) (Ok tt) A M →
    Makes {T = Field} passes n 0 e e (asks_for P) (Ok f) M N → Makes {T = Unit {0}} passes n 1 e e (kicks_last r bin P F t) (Ok tt) N Z → Makes {T = Field} passes n 1 e e (λ stop p. close r bin P F t p) (Ok f) A Z
closed_value passes n r bin P F t e f A M N Z less one two three =
    valued passes n 1 e e (λ stop p. close r bin P F t p) tt f A Z (closed passes n r bin P F t e tt f (Ok tt) A M N Z less one two three)

closed_halted : (passes : Finder) (n : ℕ) (r : Rules) (bin : ℕ) (P F : List ℕ) (t e : ℕ) (f : Field) (h : Halt) (A M N Z : Now) → length F ≢ length P → Makes {T = Unit {0}} passes n 0 e e (moves_on r bin P F t) (Ok tt) A M →
    Makes {T = Field} passes n 0 e e (asks_for P) (Ok f) M N → Makes {T = Unit {0}} passes n 1 e e (kicks_last r bin P F t) (Err h) N Z → Makes {T = Field} passes n 1 e e (λ stop p. close r bin P F t p) (Err h) A Z
closed_halted passes n r bin P F t e f h A M N Z less one two three =
    halt_as passes {T = Unit {0}} {U = Field} n 1 e e (λ stop p. close r bin P F t p) h A Z (closed passes n r bin P F t e tt f (Err h) A M N Z less one two three)

pub returns-in-Err-clause-makes : goal.returns-in-Err-clause-makes
returns-in-Err-clause-makes g c = λ n.
    let gr = g.F.Forces.gravity c.args.forces.now in
    let e = option_copied c.args.course.now.expansion in
    let r : Rules = record { gravity = gr; expansion = e } in
    let B = c.args.set.now in
    let P = ids_at B c.args.split.now.part.now in
    let F = ids_at B c.args.split.now.fast.now in
    let end = c.args.split.now.tick + 2 ^ c.args.split.now.bin in
    let a = now B gr (g.F.Forces.fixed c.args.forces.now) (g.F.Forces.state c.args.forces.now) (g.O.KickOut.faults c.args.out.now) (g.O.KickOut.yes c.args.out.now) (g.O.KickOut.took c.args.out.now) c.args.work.now in
    let z : Now = record a { bodies = c.drift_slow.new.set } in
    wanting g.F.Forces.passes Field n 1 end end (λ stop p. close r c.args.split.now.bin P F c.args.split.now.tick p) a z
    (more_kicks a z (leads_same a z c.requires.ready.bodies refl refl c.in-Err.ensures.err refl refl refl refl)) (close_adds r c.args.split.now.bin P F c.args.split.now.tick c.requires.fast.part) refl refl

pub ask-requires-clause-bodies : goal.ask-requires-clause-bodies
ask-requires-clause-bodies g c =
    let gr = g.F.Forces.gravity c.args.forces.now in
    let e = option_copied c.args.course.now.expansion in
    let r : Rules = record { gravity = gr; expansion = e } in
    let B = c.args.set.now in
    let P = ids_at B c.args.split.now.part.now in
    let F = ids_at B c.args.split.now.fast.now in
    let end = c.args.split.now.tick + 2 ^ c.args.split.now.bin in
    let a = now B gr (g.F.Forces.fixed c.args.forces.now) (g.F.Forces.state c.args.forces.now) (g.O.KickOut.faults c.args.out.now) (g.O.KickOut.yes c.args.out.now) (g.O.KickOut.took c.args.out.now) c.args.work.now in
    let S = c.drift_slow.new.set in
    let is = drift_is r c.args.course.now.setup.now c.args.split.now.bin P F c.args.split.now.tick c.drift_ticks-ticks.result B S c.requires.ready.setup c.drift_ticks-ticks.ensures.value c.in-Ok.ensures.ok in
    let kept : IsConserved B S [] = subst (λ C. IsConserved B C []) (sym is) (drift_conserves gr.setup (without F P) (drift_factor e c.args.split.now.tick end) B c.requires.ready.bodies) in
    let m : Now = record a { bodies = S } in
    let named : ids_at S c.args.split.now.part.now ≡ P = same_places B S c.args.split.now.part.now kept in
    let quick : ids_at S c.args.split.now.fast.now ≡ F = same_places B S c.args.split.now.fast.now kept in
    let one = λ (n : ℕ). drifting g.F.Forces.passes (Unit {0}) n end gr.setup (without F P) (drift_factor e c.args.split.now.tick end) tt a S kept is in
    kept.bodies

pub returns-in-Err-ask-clause-makes : goal.returns-in-Err-ask-clause-makes
returns-in-Err-ask-clause-makes g c = λ n.
    let gr = g.F.Forces.gravity c.args.forces.now in
    let e = option_copied c.args.course.now.expansion in
    let r : Rules = record { gravity = gr; expansion = e } in
    let B = c.args.set.now in
    let P = ids_at B c.args.split.now.part.now in
    let F = ids_at B c.args.split.now.fast.now in
    let end = c.args.split.now.tick + 2 ^ c.args.split.now.bin in
    let a = now B gr (g.F.Forces.fixed c.args.forces.now) (g.F.Forces.state c.args.forces.now) (g.O.KickOut.faults c.args.out.now) (g.O.KickOut.yes c.args.out.now) (g.O.KickOut.took c.args.out.now) c.args.work.now in
    let S = c.drift_slow.new.set in
    let is = drift_is r c.args.course.now.setup.now c.args.split.now.bin P F c.args.split.now.tick c.drift_ticks-ticks.result B S c.requires.ready.setup c.drift_ticks-ticks.ensures.value c.in-Ok.ensures.ok in
    let kept : IsConserved B S [] = subst (λ C. IsConserved B C []) (sym is) (drift_conserves gr.setup (without F P) (drift_factor e c.args.split.now.tick end) B c.requires.ready.bodies) in
    let m : Now = record a { bodies = S } in
    let named : ids_at S c.args.split.now.part.now ≡ P = same_places B S c.args.split.now.part.now kept in
    let quick : ids_at S c.args.split.now.fast.now ≡ F = same_places B S c.args.split.now.fast.now kept in
    let one = λ (n : ℕ). drifting g.F.Forces.passes (Unit {0}) n end gr.setup (without F P) (drift_factor e c.args.split.now.tick end) tt a S kept is in
    let k = now S (g.F.Forces.gravity c.ask.new.forces) (g.F.Forces.fixed c.ask.new.forces) (g.F.Forces.state c.ask.new.forces) (g.O.KickOut.faults c.ask.new.out) (g.O.KickOut.yes c.ask.new.out) (g.O.KickOut.took c.ask.new.out) c.args.work.now in
    let two = subst (λ Q. Makes {T = Field} g.F.Forces.passes n 0 end end (asks_for Q) (Err c.in-Err-ask.e) m k) named (c.in-Err-ask.ensures.makes c.args.work.now n end) in
    closed_asking g.F.Forces.passes {T = Unit {0}} {U = Field} {V = Field} n r c.args.split.now.bin P F c.args.split.now.tick end tt c.in-Err-ask.e a m k (other_lengths B c.args.split.now.fast.now c.args.split.now.part.now c.requires.some) c.requires.fast.part (one n) two

pub kick_part-requires-clause-ready : goal.kick_part-requires-clause-ready
kick_part-requires-clause-ready g c =
    let gr = g.F.Forces.gravity c.args.forces.now in
    let e = option_copied c.args.course.now.expansion in
    let r : Rules = record { gravity = gr; expansion = e } in
    let B = c.args.set.now in
    let P = ids_at B c.args.split.now.part.now in
    let F = ids_at B c.args.split.now.fast.now in
    let end = c.args.split.now.tick + 2 ^ c.args.split.now.bin in
    let a = now B gr (g.F.Forces.fixed c.args.forces.now) (g.F.Forces.state c.args.forces.now) (g.O.KickOut.faults c.args.out.now) (g.O.KickOut.yes c.args.out.now) (g.O.KickOut.took c.args.out.now) c.args.work.now in
    let S = c.drift_slow.new.set in
    let is = drift_is r c.args.course.now.setup.now c.args.split.now.bin P F c.args.split.now.tick c.drift_ticks-ticks.result B S c.requires.ready.setup c.drift_ticks-ticks.ensures.value c.in-Ok.ensures.ok in
    let kept : IsConserved B S [] = subst (λ C. IsConserved B C []) (sym is) (drift_conserves gr.setup (without F P) (drift_factor e c.args.split.now.tick end) B c.requires.ready.bodies) in
    let m : Now = record a { bodies = S } in
    let named : ids_at S c.args.split.now.part.now ≡ P = same_places B S c.args.split.now.part.now kept in
    let quick : ids_at S c.args.split.now.fast.now ≡ F = same_places B S c.args.split.now.fast.now kept in
    let one = λ (n : ℕ). drifting g.F.Forces.passes (Unit {0}) n end gr.setup (without F P) (drift_factor e c.args.split.now.tick end) tt a S kept is in
    let k = now S (g.F.Forces.gravity c.ask.new.forces) (g.F.Forces.fixed c.ask.new.forces) (g.F.Forces.state c.ask.new.forces) (g.O.KickOut.faults c.ask.new.out) (g.O.KickOut.yes c.ask.new.out) (g.O.KickOut.took c.ask.new.out) c.args.work.now in
    let two = λ (n : ℕ). subst (λ Q. Makes {T = Field} g.F.Forces.passes n 0 end end (asks_for Q) (Ok c.in-Ok-ask.whole) m k) named (c.in-Ok-ask.ensures.makes c.args.work.now n end) in
    let ready : IsReady c.args.course.now.setup.now c.args.course.now.total k = ready_made g.F.Forces.passes 0 0 end end (asks_for P) c.in-Ok-ask.whole c.args.course.now.setup.now c.args.course.now.total m k (two 0)
    (ready_made g.F.Forces.passes 0 0 end end (moves_on r c.args.split.now.bin P F c.args.split.now.tick) tt c.args.course.now.setup.now c.args.course.now.total a m (one 0) c.requires.ready) in
    ready

pub kick_part-requires-clause-whole : goal.kick_part-requires-clause-whole
kick_part-requires-clause-whole g c =
    let gr = g.F.Forces.gravity c.args.forces.now in
    let e = option_copied c.args.course.now.expansion in
    let r : Rules = record { gravity = gr; expansion = e } in
    let B = c.args.set.now in
    let P = ids_at B c.args.split.now.part.now in
    let F = ids_at B c.args.split.now.fast.now in
    let end = c.args.split.now.tick + 2 ^ c.args.split.now.bin in
    let a = now B gr (g.F.Forces.fixed c.args.forces.now) (g.F.Forces.state c.args.forces.now) (g.O.KickOut.faults c.args.out.now) (g.O.KickOut.yes c.args.out.now) (g.O.KickOut.took c.args.out.now) c.args.work.now in
    let S = c.drift_slow.new.set in
    let is = drift_is r c.args.course.now.setup.now c.args.split.now.bin P F c.args.split.now.tick c.drift_ticks-ticks.result B S c.requires.ready.setup c.drift_ticks-ticks.ensures.value c.in-Ok.ensures.ok in
    let kept : IsConserved B S [] = subst (λ C. IsConserved B C []) (sym is) (drift_conserves gr.setup (without F P) (drift_factor e c.args.split.now.tick end) B c.requires.ready.bodies) in
    let m : Now = record a { bodies = S } in
    let named : ids_at S c.args.split.now.part.now ≡ P = same_places B S c.args.split.now.part.now kept in
    let quick : ids_at S c.args.split.now.fast.now ≡ F = same_places B S c.args.split.now.fast.now kept in
    let one = λ (n : ℕ). drifting g.F.Forces.passes (Unit {0}) n end gr.setup (without F P) (drift_factor e c.args.split.now.tick end) tt a S kept is in
    let k = now S (g.F.Forces.gravity c.ask.new.forces) (g.F.Forces.fixed c.ask.new.forces) (g.F.Forces.state c.ask.new.forces) (g.O.KickOut.faults c.ask.new.out) (g.O.KickOut.yes c.ask.new.out) (g.O.KickOut.took c.ask.new.out) c.args.work.now in
    let two = λ (n : ℕ). subst (λ Q. Makes {T = Field} g.F.Forces.passes n 0 end end (asks_for Q) (Ok c.in-Ok-ask.whole) m k) named (c.in-Ok-ask.ensures.makes c.args.work.now n end) in
    record {
      places = ascending_on B S c.args.split.now.part.now kept c.requires.part;
      forces = subst (λ (x : Gravity). AreForcesAmong x (only S (ids_at S c.args.split.now.part.now)) c.in-Ok-ask.whole) (sym (two 0).gravity) c.in-Ok-ask.ensures.forces;
    }

pub kick_part-requires-clause-fast : goal.kick_part-requires-clause-fast
kick_part-requires-clause-fast g c =
    let gr = g.F.Forces.gravity c.args.forces.now in
    let e = option_copied c.args.course.now.expansion in
    let r : Rules = record { gravity = gr; expansion = e } in
    let B = c.args.set.now in
    let P = ids_at B c.args.split.now.part.now in
    let F = ids_at B c.args.split.now.fast.now in
    let end = c.args.split.now.tick + 2 ^ c.args.split.now.bin in
    let a = now B gr (g.F.Forces.fixed c.args.forces.now) (g.F.Forces.state c.args.forces.now) (g.O.KickOut.faults c.args.out.now) (g.O.KickOut.yes c.args.out.now) (g.O.KickOut.took c.args.out.now) c.args.work.now in
    let S = c.drift_slow.new.set in
    let is = drift_is r c.args.course.now.setup.now c.args.split.now.bin P F c.args.split.now.tick c.drift_ticks-ticks.result B S c.requires.ready.setup c.drift_ticks-ticks.ensures.value c.in-Ok.ensures.ok in
    let kept : IsConserved B S [] = subst (λ C. IsConserved B C []) (sym is) (drift_conserves gr.setup (without F P) (drift_factor e c.args.split.now.tick end) B c.requires.ready.bodies) in
    let m : Now = record a { bodies = S } in
    let named : ids_at S c.args.split.now.part.now ≡ P = same_places B S c.args.split.now.part.now kept in
    let quick : ids_at S c.args.split.now.fast.now ≡ F = same_places B S c.args.split.now.fast.now kept in
    let one = λ (n : ℕ). drifting g.F.Forces.passes (Unit {0}) n end gr.setup (without F P) (drift_factor e c.args.split.now.tick end) tt a S kept is in
    of_on B S c.args.split.now.part.now c.args.split.now.fast.now kept c.requires.fast

pub kick_part-requires-clause-quick : goal.kick_part-requires-clause-quick
kick_part-requires-clause-quick g c =
    let gr = g.F.Forces.gravity c.args.forces.now in
    let e = option_copied c.args.course.now.expansion in
    let r : Rules = record { gravity = gr; expansion = e } in
    let B = c.args.set.now in
    let P = ids_at B c.args.split.now.part.now in
    let F = ids_at B c.args.split.now.fast.now in
    let end = c.args.split.now.tick + 2 ^ c.args.split.now.bin in
    let a = now B gr (g.F.Forces.fixed c.args.forces.now) (g.F.Forces.state c.args.forces.now) (g.O.KickOut.faults c.args.out.now) (g.O.KickOut.yes c.args.out.now) (g.O.KickOut.took c.args.out.now) c.args.work.now in
    let S = c.drift_slow.new.set in
    let is = drift_is r c.args.course.now.setup.now c.args.split.now.bin P F c.args.split.now.tick c.drift_ticks-ticks.result B S c.requires.ready.setup c.drift_ticks-ticks.ensures.value c.in-Ok.ensures.ok in
    let kept : IsConserved B S [] = subst (λ C. IsConserved B C []) (sym is) (drift_conserves gr.setup (without F P) (drift_factor e c.args.split.now.tick end) B c.requires.ready.bodies) in
    let m : Now = record a { bodies = S } in
    let named : ids_at S c.args.split.now.part.now ≡ P = same_places B S c.args.split.now.part.now kept in
    let quick : ids_at S c.args.split.now.fast.now ≡ F = same_places B S c.args.split.now.fast.now kept in
    let one = λ (n : ℕ). drifting g.F.Forces.passes (Unit {0}) n end gr.setup (without F P) (drift_factor e c.args.split.now.tick end) tt a S kept is in
    let k = now S (g.F.Forces.gravity c.ask.new.forces) (g.F.Forces.fixed c.ask.new.forces) (g.F.Forces.state c.ask.new.forces) (g.O.KickOut.faults c.ask.new.out) (g.O.KickOut.yes c.ask.new.out) (g.O.KickOut.took c.ask.new.out) c.args.work.now in
    let two = λ (n : ℕ). subst (λ Q. Makes {T = Field} g.F.Forces.passes n 0 end end (asks_for Q) (Ok c.in-Ok-ask.whole) m k) named (c.in-Ok-ask.ensures.makes c.args.work.now n end) in
    let apart : AreForcesAmong gr (only S F) c.args.quick.now = subst (λ C. AreForcesAmong gr (only C F) c.args.quick.now) (sym is) (forces_apart gr gr.setup F P (drift_factor e c.args.split.now.tick end) c.args.quick.now B c.requires.quick) in
    subst (λ (x : Gravity). AreForcesAmong x (only S (ids_at S c.args.split.now.fast.now)) c.args.quick.now) (sym (two 0).gravity) (subst (λ Q. AreForcesAmong gr (only S Q) c.args.quick.now) (sym quick) apart)

pub returns-in-Ok-kick_part-clause-forces : goal.returns-in-Ok-kick_part-clause-forces
returns-in-Ok-kick_part-clause-forces g c =
    let gr = g.F.Forces.gravity c.args.forces.now in
    let e = option_copied c.args.course.now.expansion in
    let r : Rules = record { gravity = gr; expansion = e } in
    let B = c.args.set.now in
    let P = ids_at B c.args.split.now.part.now in
    let F = ids_at B c.args.split.now.fast.now in
    let end = c.args.split.now.tick + 2 ^ c.args.split.now.bin in
    let a = now B gr (g.F.Forces.fixed c.args.forces.now) (g.F.Forces.state c.args.forces.now) (g.O.KickOut.faults c.args.out.now) (g.O.KickOut.yes c.args.out.now) (g.O.KickOut.took c.args.out.now) c.args.work.now in
    let S = c.drift_slow.new.set in
    let is = drift_is r c.args.course.now.setup.now c.args.split.now.bin P F c.args.split.now.tick c.drift_ticks-ticks.result B S c.requires.ready.setup c.drift_ticks-ticks.ensures.value c.in-Ok.ensures.ok in
    let kept : IsConserved B S [] = subst (λ C. IsConserved B C []) (sym is) (drift_conserves gr.setup (without F P) (drift_factor e c.args.split.now.tick end) B c.requires.ready.bodies) in
    let m : Now = record a { bodies = S } in
    let named : ids_at S c.args.split.now.part.now ≡ P = same_places B S c.args.split.now.part.now kept in
    let quick : ids_at S c.args.split.now.fast.now ≡ F = same_places B S c.args.split.now.fast.now kept in
    let one = λ (n : ℕ). drifting g.F.Forces.passes (Unit {0}) n end gr.setup (without F P) (drift_factor e c.args.split.now.tick end) tt a S kept is in
    let Z = c.kick_part.new.set in
    let again : ids_at Z c.args.split.now.part.now ≡ ids_at S c.args.split.now.part.now = same_places S Z c.args.split.now.part.now (c.in-Ok-kick_part.ensures.makes 0).conserved in
    forces_still gr (ids_at Z c.args.split.now.part.now) c.in-Ok-ask.whole S Z c.in-Ok-kick_part.ensures.places (subst (λ Q. AreForcesAmong gr (only S Q) c.in-Ok-ask.whole) (sym again) c.in-Ok-ask.ensures.forces)

pub returns-in-Ok-kick_part-clause-makes : goal.returns-in-Ok-kick_part-clause-makes
returns-in-Ok-kick_part-clause-makes g c = λ n.
    let gr = g.F.Forces.gravity c.args.forces.now in
    let e = option_copied c.args.course.now.expansion in
    let r : Rules = record { gravity = gr; expansion = e } in
    let B = c.args.set.now in
    let P = ids_at B c.args.split.now.part.now in
    let F = ids_at B c.args.split.now.fast.now in
    let end = c.args.split.now.tick + 2 ^ c.args.split.now.bin in
    let a = now B gr (g.F.Forces.fixed c.args.forces.now) (g.F.Forces.state c.args.forces.now) (g.O.KickOut.faults c.args.out.now) (g.O.KickOut.yes c.args.out.now) (g.O.KickOut.took c.args.out.now) c.args.work.now in
    let S = c.drift_slow.new.set in
    let is = drift_is r c.args.course.now.setup.now c.args.split.now.bin P F c.args.split.now.tick c.drift_ticks-ticks.result B S c.requires.ready.setup c.drift_ticks-ticks.ensures.value c.in-Ok.ensures.ok in
    let kept : IsConserved B S [] = subst (λ C. IsConserved B C []) (sym is) (drift_conserves gr.setup (without F P) (drift_factor e c.args.split.now.tick end) B c.requires.ready.bodies) in
    let m : Now = record a { bodies = S } in
    let named : ids_at S c.args.split.now.part.now ≡ P = same_places B S c.args.split.now.part.now kept in
    let quick : ids_at S c.args.split.now.fast.now ≡ F = same_places B S c.args.split.now.fast.now kept in
    let one = λ (n : ℕ). drifting g.F.Forces.passes (Unit {0}) n end gr.setup (without F P) (drift_factor e c.args.split.now.tick end) tt a S kept is in
    let k = now S (g.F.Forces.gravity c.ask.new.forces) (g.F.Forces.fixed c.ask.new.forces) (g.F.Forces.state c.ask.new.forces) (g.O.KickOut.faults c.ask.new.out) (g.O.KickOut.yes c.ask.new.out) (g.O.KickOut.took c.ask.new.out) c.args.work.now in
    let two = λ (n : ℕ). subst (λ Q. Makes {T = Field} g.F.Forces.passes n 0 end end (asks_for Q) (Ok c.in-Ok-ask.whole) m k) named (c.in-Ok-ask.ensures.makes c.args.work.now n end) in
    let z = now c.kick_part.new.set (g.F.Forces.gravity c.ask.new.forces) (g.F.Forces.fixed c.ask.new.forces) (g.F.Forces.state c.ask.new.forces) (g.O.KickOut.faults c.kick_part.new.out) (g.O.KickOut.yes c.kick_part.new.out) (g.O.KickOut.took c.kick_part.new.out) c.kick_part.new.work in
    let h : ℕ = kick_factor e (c.args.split.now.tick + 2 ^ (c.args.split.now.bin - 1)) end in
    let q : Rules = record { gravity = g.F.Forces.gravity c.ask.new.forces; expansion = e } in
    let three = λ (n : ℕ). subst (λ (x : Rules). Makes {T = Unit {0}} g.F.Forces.passes n 1 end end (λ stop p. kick x c.args.split.now.bin P F end h p) (Ok tt) k z) (λ i. record { gravity = (two 0).gravity i; expansion = e })
    (subst (λ Q. Makes {T = Unit {0}} g.F.Forces.passes n 1 end end (λ stop p. kick q c.args.split.now.bin P Q end h p) (Ok tt) k z) quick
    (subst (λ Q. Makes {T = Unit {0}} g.F.Forces.passes n 1 end end (λ stop p. kick q c.args.split.now.bin Q (ids_at S c.args.split.now.fast.now) end h p) (Ok tt) k z) named
    (retimed g.F.Forces.passes n q c.args.split.now.bin (ids_at S c.args.split.now.part.now) (ids_at S c.args.split.now.fast.now) (c.args.split.now.tick + c.power.result) end c.last_factor-h.result h (Ok tt) k z (ap (λ x. c.args.split.now.tick + x) c.power.ensures) c.last_factor-h.ensures.value (c.in-Ok-kick_part.ensures.makes n)))) in
    closed_value g.F.Forces.passes n r c.args.split.now.bin P F c.args.split.now.tick end c.in-Ok-ask.whole a m k z (other_lengths B c.args.split.now.fast.now c.args.split.now.part.now c.requires.some) (one n) (two n) (three n)

pub returns-in-Err-kick_part-clause-makes : goal.returns-in-Err-kick_part-clause-makes
returns-in-Err-kick_part-clause-makes g c = λ n.
    let gr = g.F.Forces.gravity c.args.forces.now in
    let e = option_copied c.args.course.now.expansion in
    let r : Rules = record { gravity = gr; expansion = e } in
    let B = c.args.set.now in
    let P = ids_at B c.args.split.now.part.now in
    let F = ids_at B c.args.split.now.fast.now in
    let end = c.args.split.now.tick + 2 ^ c.args.split.now.bin in
    let a = now B gr (g.F.Forces.fixed c.args.forces.now) (g.F.Forces.state c.args.forces.now) (g.O.KickOut.faults c.args.out.now) (g.O.KickOut.yes c.args.out.now) (g.O.KickOut.took c.args.out.now) c.args.work.now in
    let S = c.drift_slow.new.set in
    let is = drift_is r c.args.course.now.setup.now c.args.split.now.bin P F c.args.split.now.tick c.drift_ticks-ticks.result B S c.requires.ready.setup c.drift_ticks-ticks.ensures.value c.in-Ok.ensures.ok in
    let kept : IsConserved B S [] = subst (λ C. IsConserved B C []) (sym is) (drift_conserves gr.setup (without F P) (drift_factor e c.args.split.now.tick end) B c.requires.ready.bodies) in
    let m : Now = record a { bodies = S } in
    let named : ids_at S c.args.split.now.part.now ≡ P = same_places B S c.args.split.now.part.now kept in
    let quick : ids_at S c.args.split.now.fast.now ≡ F = same_places B S c.args.split.now.fast.now kept in
    let one = λ (n : ℕ). drifting g.F.Forces.passes (Unit {0}) n end gr.setup (without F P) (drift_factor e c.args.split.now.tick end) tt a S kept is in
    let k = now S (g.F.Forces.gravity c.ask.new.forces) (g.F.Forces.fixed c.ask.new.forces) (g.F.Forces.state c.ask.new.forces) (g.O.KickOut.faults c.ask.new.out) (g.O.KickOut.yes c.ask.new.out) (g.O.KickOut.took c.ask.new.out) c.args.work.now in
    let two = λ (n : ℕ). subst (λ Q. Makes {T = Field} g.F.Forces.passes n 0 end end (asks_for Q) (Ok c.in-Ok-ask.whole) m k) named (c.in-Ok-ask.ensures.makes c.args.work.now n end) in
    let z = now c.kick_part.new.set (g.F.Forces.gravity c.ask.new.forces) (g.F.Forces.fixed c.ask.new.forces) (g.F.Forces.state c.ask.new.forces) (g.O.KickOut.faults c.kick_part.new.out) (g.O.KickOut.yes c.kick_part.new.out) (g.O.KickOut.took c.kick_part.new.out) c.kick_part.new.work in
    let h : ℕ = kick_factor e (c.args.split.now.tick + 2 ^ (c.args.split.now.bin - 1)) end in
    let q : Rules = record { gravity = g.F.Forces.gravity c.ask.new.forces; expansion = e } in
    let three = λ (n : ℕ). subst (λ (x : Rules). Makes {T = Unit {0}} g.F.Forces.passes n 1 end end (λ stop p. kick x c.args.split.now.bin P F end h p) (Err c.in-Err-kick_part.e) k z) (λ i. record { gravity = (two 0).gravity i; expansion = e })
    (subst (λ Q. Makes {T = Unit {0}} g.F.Forces.passes n 1 end end (λ stop p. kick q c.args.split.now.bin P Q end h p) (Err c.in-Err-kick_part.e) k z) quick
    (subst (λ Q. Makes {T = Unit {0}} g.F.Forces.passes n 1 end end (λ stop p. kick q c.args.split.now.bin Q (ids_at S c.args.split.now.fast.now) end h p) (Err c.in-Err-kick_part.e) k z) named
    (retimed g.F.Forces.passes n q c.args.split.now.bin (ids_at S c.args.split.now.part.now) (ids_at S c.args.split.now.fast.now) (c.args.split.now.tick + c.power.result) end c.last_factor-h.result h (Err c.in-Err-kick_part.e) k z (ap (λ x. c.args.split.now.tick + x) c.power.ensures) c.last_factor-h.ensures.value (c.in-Err-kick_part.ensures.makes n)))) in
    closed_halted g.F.Forces.passes n r c.args.split.now.bin P F c.args.split.now.tick end c.in-Ok-ask.whole c.in-Err-kick_part.e a m k z (other_lengths B c.args.split.now.fast.now c.args.split.now.part.now c.requires.some) (one n) (two n) (three n)
