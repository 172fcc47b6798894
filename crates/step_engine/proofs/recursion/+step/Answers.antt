use Rattle.std.proofs.Common.{◌≡◌, ◌≤◌, ◌==◌, ◌&&◌, not, ◌+◌, ◌-◌, ◌^◌, ℕ, Bool, List, [], ◌∷◌, length, Result, Ok, Err, refl, ap, sym, ◌∙◌, subst, arith, rules as found, option_copied}
use Rattle.std.specs.Prelude.{IfOk}
use Rattle.std.proofs.lemmas.List.{length-map}
use Rattle.nbody_model.specs.declared.field.Field.{Field}
use Rattle.nbody_model.specs.Bodies.{BodyData, only}
use Rattle.nbody_model.specs.Setups.{SetupData}
use Rattle.nbody_model.specs.Tables.{Gravity}
use Rattle.nbody_model.specs.Fields.{FieldData}
use Rattle.nbody_model.specs.Factors.{kick_factor}
use Rattle.nbody_model.specs.Evolve.{is_empty, kick, rest, evolve}
use Rattle.kick_drift.specs.Parts.{ids_at}
use Rattle.kick_drift.proofs.Chosen.{id_at}
use Rattle.step_engine.specs.declared.halt.Halt.{Halt}
use Rattle.step_engine.specs.Told.{AreForcesAmong}
use Rattle.step_engine.specs.Stands.{IsReady, IsGiven, IsTimely, AreFastOf, now}
use Rattle.step_engine.specs.Stages.{rules, first_kick, inner, asks_fast, from_kick}
use Rattle.step_engine.specs.Ends.{Makes}
use Rattle.step_engine.proofs.Times.{timely_first, timely_second, room_after}
use Rattle.step_engine.proofs.Picks.{length_only_at, other_lengths}
use Rattle.step_engine.proofs.Changes.{forces_length}
use Rattle.step_engine.proofs.Keeps.{same_places, ascending_on, of_on}
use Rattle.step_engine.proofs.Joins.{valued, halt_as, conserved_on}
use Rattle.step_engine.proofs.Leaves.{leads_any, conserved_same}
use Rattle.step_engine.proofs.Closing.{forces_still, ready_made}
use Rattle.step_engine.proofs.Deepening.{room_of}
use Rattle.step_engine.proofs.Stepping.{most_of, two_first, two_rest, two_whole, between_none, between_made, between_halted, kick_halts, inner_halts, step_ends, ask_halts, ask_goes, evolve_wants, evolve_refused, tell_halts, evolve_all, evolve_some}
use Rattle.step_engine.proofs.recursion.+step.Goals as goal

-- the test of the code is that of the definition
test_is : (bin : ℕ) (s s' : SetupData) (B : List BodyData) (fast : List ℕ) (t : Bool) → s ≡ s' → t ≡ (bin == s'.low_bin && not (is_empty fast)) → (bin == s.low_bin && not (is_empty (ids_at B fast))) ≡ t
test_is bin s s' B [] t e f = (λ i. bin == (e i).low_bin && not (is_empty (ids_at B []))) ∙ sym f
test_is bin s s' B (p ∷ ps) t e f = (λ i. bin == (e i).low_bin && not (is_empty (ids_at B (p ∷ ps)))) ∙ sym f

same_lengths : (B : List BodyData) (xs ys : List ℕ) → length xs ≡ length ys → length (ids_at B xs) ≡ length (ids_at B ys)
same_lengths B xs ys e = length-map xs (id_at B) ∙ e ∙ sym (length-map ys (id_at B))

if_forces : (r : Result FieldData Halt) (g h : Gravity) (B : List BodyData) → g ≡ h → IfOk r (AreForcesAmong g B) → IfOk r (AreForcesAmong h B)
if_forces r g h B e k = subst (λ x. IfOk r (AreForcesAmong x B)) e k

pub two_finer-evolve-requires : goal.two_finer-evolve-requires
two_finer-evolve-requires g t' c κs within =
    let gr = g.F.Forces.gravity c.args.forces.now in
    let e = option_copied c.args.course.now.expansion in
    let bin = c.args.split.now.bin in
    let t = c.args.split.now.tick in
    let two : 2 ≤ bin = omega (arith, c.requires.low, c.requires.finer) in
    let timely : IsTimely e (bin - 1) t c.args.work.now.count.kicks = timely_first e bin t c.args.work.now.count.kicks c.requires.timely two c.requires.room in
    let high : c.args.course.now.setup.now.low_bin ≤ bin - 1 = omega (arith, c.requires.finer) in
    search found

pub two_finer-returns-in-Err-clause-makes : goal.two_finer-returns-in-Err-clause-makes
two_finer-returns-in-Err-clause-makes g t' c =
    let gr = g.F.Forces.gravity c.args.forces.now in
    let e = option_copied c.args.course.now.expansion in
    let bin = c.args.split.now.bin in
    let t = c.args.split.now.tick in
    let a = now c.args.set.now (g.F.Forces.gravity c.args.forces.now) (g.F.Forces.fixed c.args.forces.now) (g.F.Forces.state c.args.forces.now) (g.O.KickOut.faults c.args.out.now) (g.O.KickOut.yes c.args.out.now) (g.O.KickOut.took c.args.out.now) c.args.work.now in
    let b = now c.evolve.new.set (g.F.Forces.gravity c.evolve.new.forces) (g.F.Forces.fixed c.evolve.new.forces) (g.F.Forces.state c.evolve.new.forces) (g.O.KickOut.faults c.evolve.new.out) (g.O.KickOut.yes c.evolve.new.out) (g.O.KickOut.took c.evolve.new.out) c.evolve.new.work in
    two_first g.F.Forces.passes {T = Field} {U = Field} e bin (ids_at c.args.set.now c.args.split.now.fast.now) t c.in-Err.e gr a b c.requires.timely.some c.in-Err.ensures.makes

pub two_finer-returns-in-Err-rest-clause-makes : goal.two_finer-returns-in-Err-rest-clause-makes
two_finer-returns-in-Err-rest-clause-makes g t' c =
    let gr = g.F.Forces.gravity c.args.forces.now in
    let e = option_copied c.args.course.now.expansion in
    let bin = c.args.split.now.bin in
    let t = c.args.split.now.tick in
    let a = now c.args.set.now (g.F.Forces.gravity c.args.forces.now) (g.F.Forces.fixed c.args.forces.now) (g.F.Forces.state c.args.forces.now) (g.O.KickOut.faults c.args.out.now) (g.O.KickOut.yes c.args.out.now) (g.O.KickOut.took c.args.out.now) c.args.work.now in
    let b = now c.evolve.new.set (g.F.Forces.gravity c.evolve.new.forces) (g.F.Forces.fixed c.evolve.new.forces) (g.F.Forces.state c.evolve.new.forces) (g.O.KickOut.faults c.evolve.new.out) (g.O.KickOut.yes c.evolve.new.out) (g.O.KickOut.took c.evolve.new.out) c.evolve.new.work in
    let one = c.in-Ok.ensures.makes in
    let ready : IsReady c.args.course.now.setup.now c.args.course.now.total b = ready_made g.F.Forces.passes (bin - 1) (most_of (bin - 1)) t (t + 2 ^ (bin - 1)) (λ stop p. evolve (rules gr e) stop (bin - 1) (ids_at c.args.set.now c.args.split.now.fast.now) t p) c.in-Ok.half c.args.course.now.setup.now c.args.course.now.total a b one c.requires.ready in
    let middle : t + c.power.result ≡ t + 2 ^ (bin - 1) = ap (λ x. t + x) c.power.ensures in
    let d = now c.evolve.new.set (g.F.Forces.gravity c.evolve.new.forces) (g.F.Forces.fixed c.evolve.new.forces) (g.F.Forces.state c.evolve.new.forces) (g.O.KickOut.faults c.rest.new.out) (g.O.KickOut.yes c.rest.new.out) (g.O.KickOut.took c.rest.new.out) c.evolve.new.work in
    two_rest g.F.Forces.passes {T = Field} {U = Unit {0}} {V = Field} e bin (ids_at c.args.set.now c.args.split.now.fast.now) t (t + c.power.result) c.in-Ok.half c.in-Err-rest.e gr a b d c.requires.timely.some middle one (c.in-Err-rest.ensures.makes c.evolve.new.set (g.F.Forces.gravity c.evolve.new.forces) (g.F.Forces.fixed c.evolve.new.forces) (g.F.Forces.state c.evolve.new.forces) c.evolve.new.work (bin - 1) ready.bodies ready.depth)

pub two_finer-evolve-requires-2 : goal.two_finer-evolve-requires-2
two_finer-evolve-requires-2 g t' c κs within =
    let gr = g.F.Forces.gravity c.args.forces.now in
    let e = option_copied c.args.course.now.expansion in
    let bin = c.args.split.now.bin in
    let t = c.args.split.now.tick in
    let a = now c.args.set.now (g.F.Forces.gravity c.args.forces.now) (g.F.Forces.fixed c.args.forces.now) (g.F.Forces.state c.args.forces.now) (g.O.KickOut.faults c.args.out.now) (g.O.KickOut.yes c.args.out.now) (g.O.KickOut.took c.args.out.now) c.args.work.now in
    let b = now c.evolve.new.set (g.F.Forces.gravity c.evolve.new.forces) (g.F.Forces.fixed c.evolve.new.forces) (g.F.Forces.state c.evolve.new.forces) (g.O.KickOut.faults c.evolve.new.out) (g.O.KickOut.yes c.evolve.new.out) (g.O.KickOut.took c.evolve.new.out) c.evolve.new.work in
    let one = c.in-Ok.ensures.makes in
    let ready : IsReady c.args.course.now.setup.now c.args.course.now.total b = ready_made g.F.Forces.passes (bin - 1) (most_of (bin - 1)) t (t + 2 ^ (bin - 1)) (λ stop p. evolve (rules gr e) stop (bin - 1) (ids_at c.args.set.now c.args.split.now.fast.now) t p) c.in-Ok.half c.args.course.now.setup.now c.args.course.now.total a b one c.requires.ready in
    let middle : t + c.power.result ≡ t + 2 ^ (bin - 1) = ap (λ x. t + x) c.power.ensures in
    let d = now c.evolve.new.set (g.F.Forces.gravity c.evolve.new.forces) (g.F.Forces.fixed c.evolve.new.forces) (g.F.Forces.state c.evolve.new.forces) (g.O.KickOut.faults c.rest.new.out) (g.O.KickOut.yes c.rest.new.out) (g.O.KickOut.took c.rest.new.out) c.evolve.new.work in
    let pause = c.in-Ok-rest.ensures.makes c.evolve.new.set (g.F.Forces.gravity c.evolve.new.forces) (g.F.Forces.fixed c.evolve.new.forces) (g.F.Forces.state c.evolve.new.forces) c.evolve.new.work (bin - 1) ready.bodies ready.depth in
    let two : 2 ≤ bin = omega (arith, c.requires.low, c.requires.finer) in
    let given : IsGiven (g.F.Forces.gravity c.evolve.new.forces) c.evolve.new.set c.args.split.now.fast.now c.in-Ok.half = record { places = ascending_on c.args.set.now c.evolve.new.set c.args.split.now.fast.now one.conserved c.requires.quick.places; forces = subst (λ (x : Gravity). AreForcesAmong x (only c.evolve.new.set (ids_at c.evolve.new.set c.args.split.now.fast.now)) c.in-Ok.half) (sym one.gravity) c.in-Ok.ensures.forces } in
    let ready' : IsReady c.args.course.now.setup.now c.args.course.now.total d = ready_made g.F.Forces.passes (bin - 1) 0 (t + c.power.result - 1) (t + c.power.result + 1) (λ stop p. rest stop (t + c.power.result) p) tt c.args.course.now.setup.now c.args.course.now.total b d pause ready in
    let timely : IsTimely e (bin - 1) (t + c.power.result) c.evolve.new.work.count.kicks = timely_second e bin t (t + c.power.result) c.args.work.now.count.kicks c.evolve.new.work.count.kicks c.requires.timely two middle c.requires.room one.few in
    let high : c.args.course.now.setup.now.low_bin ≤ bin - 1 = omega (arith, c.requires.finer) in
    search found

pub two_finer-returns-clause-makes : goal.two_finer-returns-clause-makes
two_finer-returns-clause-makes g t' c =
    let gr = g.F.Forces.gravity c.args.forces.now in
    let e = option_copied c.args.course.now.expansion in
    let bin = c.args.split.now.bin in
    let t = c.args.split.now.tick in
    let a = now c.args.set.now (g.F.Forces.gravity c.args.forces.now) (g.F.Forces.fixed c.args.forces.now) (g.F.Forces.state c.args.forces.now) (g.O.KickOut.faults c.args.out.now) (g.O.KickOut.yes c.args.out.now) (g.O.KickOut.took c.args.out.now) c.args.work.now in
    let b = now c.evolve.new.set (g.F.Forces.gravity c.evolve.new.forces) (g.F.Forces.fixed c.evolve.new.forces) (g.F.Forces.state c.evolve.new.forces) (g.O.KickOut.faults c.evolve.new.out) (g.O.KickOut.yes c.evolve.new.out) (g.O.KickOut.took c.evolve.new.out) c.evolve.new.work in
    let one = c.in-Ok.ensures.makes in
    let ready : IsReady c.args.course.now.setup.now c.args.course.now.total b = ready_made g.F.Forces.passes (bin - 1) (most_of (bin - 1)) t (t + 2 ^ (bin - 1)) (λ stop p. evolve (rules gr e) stop (bin - 1) (ids_at c.args.set.now c.args.split.now.fast.now) t p) c.in-Ok.half c.args.course.now.setup.now c.args.course.now.total a b one c.requires.ready in
    let middle : t + c.power.result ≡ t + 2 ^ (bin - 1) = ap (λ x. t + x) c.power.ensures in
    let d = now c.evolve.new.set (g.F.Forces.gravity c.evolve.new.forces) (g.F.Forces.fixed c.evolve.new.forces) (g.F.Forces.state c.evolve.new.forces) (g.O.KickOut.faults c.rest.new.out) (g.O.KickOut.yes c.rest.new.out) (g.O.KickOut.took c.rest.new.out) c.evolve.new.work in
    let pause = c.in-Ok-rest.ensures.makes c.evolve.new.set (g.F.Forces.gravity c.evolve.new.forces) (g.F.Forces.fixed c.evolve.new.forces) (g.F.Forces.state c.evolve.new.forces) c.evolve.new.work (bin - 1) ready.bodies ready.depth in
    let z = now c.evolve-2.new.set (g.F.Forces.gravity c.evolve-2.new.forces) (g.F.Forces.fixed c.evolve-2.new.forces) (g.F.Forces.state c.evolve-2.new.forces) (g.O.KickOut.faults c.evolve-2.new.out) (g.O.KickOut.yes c.evolve-2.new.out) (g.O.KickOut.took c.evolve-2.new.out) c.evolve-2.new.work in
    two_whole g.F.Forces.passes {T = Field} {U = Unit {0}} {V = Field} e bin c.args.split.now.fast.now t (t + c.power.result) c.in-Ok.half tt c.evolve-2.result a b d z c.requires.timely.some middle one pause c.evolve-2.ensures.makes

pub between-returns-then-is_empty-clause-makes : goal.between-returns-then-is_empty-clause-makes
between-returns-then-is_empty-clause-makes g t' c =
    let gr = g.F.Forces.gravity c.args.forces.now in
    let e = option_copied c.args.course.now.expansion in
    let bin = c.args.split.now.bin in
    let t = c.args.split.now.tick in
    let a = now c.args.set.now (g.F.Forces.gravity c.args.forces.now) (g.F.Forces.fixed c.args.forces.now) (g.F.Forces.state c.args.forces.now) (g.O.KickOut.faults c.args.out.now) (g.O.KickOut.yes c.args.out.now) (g.O.KickOut.took c.args.out.now) c.args.work.now in
    between_none g.F.Forces.passes bin (2 ^ (bin + 1) - 4) t (t + 2 ^ bin) (rules gr e) bin c.args.split.now.fast.now t c.args.quick a (conserved_same c.args.set.now c.requires.ready.bodies) (sym c.is_empty.ensures ∙ c.if-is_empty.true)

pub between-deepen-requires-clause-room : goal.between-deepen-requires-clause-room
between-deepen-requires-clause-room g t' c =
    let gr = g.F.Forces.gravity c.args.forces.now in
    let e = option_copied c.args.course.now.expansion in
    let bin = c.args.split.now.bin in
    let t = c.args.split.now.tick in
    let a = now c.args.set.now (g.F.Forces.gravity c.args.forces.now) (g.F.Forces.fixed c.args.forces.now) (g.F.Forces.state c.args.forces.now) (g.O.KickOut.faults c.args.out.now) (g.O.KickOut.yes c.args.out.now) (g.O.KickOut.took c.args.out.now) c.args.work.now in
    let b = now c.two_finer.new.set (g.F.Forces.gravity c.two_finer.new.forces) (g.F.Forces.fixed c.two_finer.new.forces) (g.F.Forces.state c.two_finer.new.forces) (g.O.KickOut.faults c.two_finer.new.out) (g.O.KickOut.yes c.two_finer.new.out) (g.O.KickOut.took c.two_finer.new.out) c.two_finer.new.work in
    room_of (bin - 1) Field c.in-Err.halt c.args.split.now.fast.now a b (omega (arith, c.requires.timely.short)) (ascending_on c.args.set.now c.two_finer.new.set c.args.split.now.fast.now c.in-Err.ensures.makes.conserved c.requires.quick.places).within c.in-Err.ensures.makes.cause

pub between-returns-in-Ok-clause-makes : goal.between-returns-in-Ok-clause-makes
between-returns-in-Ok-clause-makes g t' c =
    let gr = g.F.Forces.gravity c.args.forces.now in
    let e = option_copied c.args.course.now.expansion in
    let bin = c.args.split.now.bin in
    let t = c.args.split.now.tick in
    let a = now c.args.set.now (g.F.Forces.gravity c.args.forces.now) (g.F.Forces.fixed c.args.forces.now) (g.F.Forces.state c.args.forces.now) (g.O.KickOut.faults c.args.out.now) (g.O.KickOut.yes c.args.out.now) (g.O.KickOut.took c.args.out.now) c.args.work.now in
    let b = now c.two_finer.new.set (g.F.Forces.gravity c.two_finer.new.forces) (g.F.Forces.fixed c.two_finer.new.forces) (g.F.Forces.state c.two_finer.new.forces) (g.O.KickOut.faults c.two_finer.new.out) (g.O.KickOut.yes c.two_finer.new.out) (g.O.KickOut.took c.two_finer.new.out) c.two_finer.new.work in
    between_made g.F.Forces.passes (2 ^ (bin + 1) - 4) t (t + 2 ^ bin) (rules gr e) bin c.args.split.now.fast.now t c.in-Ok.quick a b c.requires.timely.some (sym c.is_empty.ensures ∙ c.if-is_empty.false) c.in-Ok.ensures.makes

pub between-returns-in-Err-clause-makes : goal.between-returns-in-Err-clause-makes
between-returns-in-Err-clause-makes g t' c =
    let gr = g.F.Forces.gravity c.args.forces.now in
    let e = option_copied c.args.course.now.expansion in
    let bin = c.args.split.now.bin in
    let t = c.args.split.now.tick in
    let a = now c.args.set.now (g.F.Forces.gravity c.args.forces.now) (g.F.Forces.fixed c.args.forces.now) (g.F.Forces.state c.args.forces.now) (g.O.KickOut.faults c.args.out.now) (g.O.KickOut.yes c.args.out.now) (g.O.KickOut.took c.args.out.now) c.args.work.now in
    let b = now c.two_finer.new.set (g.F.Forces.gravity c.two_finer.new.forces) (g.F.Forces.fixed c.two_finer.new.forces) (g.F.Forces.state c.two_finer.new.forces) (g.O.KickOut.faults c.two_finer.new.out) (g.O.KickOut.yes c.two_finer.new.out) (g.O.KickOut.took c.two_finer.new.out) c.two_finer.new.work in
    rw c.deepen.ensures.same
    (between_halted g.F.Forces.passes {T = Field} (2 ^ (bin + 1) - 4) t (t + 2 ^ bin) (rules gr e) bin c.args.split.now.fast.now t c.in-Err.halt a b c.deepen.new.depth.items c.requires.timely.some (sym c.is_empty.ensures ∙ c.if-is_empty.false) c.requires.quick.places c.deepen.ensures.deeper c.in-Err.ensures.makes)

pub step_all-returns-in-Err-clause-makes : goal.step_all-returns-in-Err-clause-makes
step_all-returns-in-Err-clause-makes g t' c =
    let gr = g.F.Forces.gravity c.args.forces.now in
    let e = option_copied c.args.course.now.expansion in
    let bin = c.args.split.now.bin in
    let t = c.args.split.now.tick in
    let P = ids_at c.args.set.now c.args.split.now.part.now in
    let F = ids_at c.args.set.now c.args.split.now.fast.now in
    let a = now c.args.set.now (g.F.Forces.gravity c.args.forces.now) (g.F.Forces.fixed c.args.forces.now) (g.F.Forces.state c.args.forces.now) (g.O.KickOut.faults c.args.out.now) (g.O.KickOut.yes c.args.out.now) (g.O.KickOut.took c.args.out.now) c.args.work.now in
    let b = now c.kick_part.new.set (g.F.Forces.gravity c.args.forces.now) (g.F.Forces.fixed c.args.forces.now) (g.F.Forces.state c.args.forces.now) (g.O.KickOut.faults c.kick_part.new.out) (g.O.KickOut.yes c.kick_part.new.out) (g.O.KickOut.took c.kick_part.new.out) c.kick_part.new.work in
    let h : c.first_factor-h.result ≡ kick_factor e t (t + 2 ^ (bin - 1)) = c.first_factor-h.ensures.value in
    kick_halts g.F.Forces.passes {T = Unit {0}} {U = Field} e bin P F t c.in-Err.e gr a b c.requires.timely.some c.requires.fast.part (subst (λ x. Makes {T = Unit {0}} g.F.Forces.passes bin 1 t t (λ stop p. kick (rules (g.F.Forces.gravity c.args.forces.now) e) bin P F t x p) (Err c.in-Err.e) a b) h (c.in-Err.ensures.makes bin))

pub step_all-between-requires : goal.step_all-between-requires
step_all-between-requires g t' c κs within =
    let gr = g.F.Forces.gravity c.args.forces.now in
    let e = option_copied c.args.course.now.expansion in
    let bin = c.args.split.now.bin in
    let t = c.args.split.now.tick in
    let P = ids_at c.args.set.now c.args.split.now.part.now in
    let F = ids_at c.args.set.now c.args.split.now.fast.now in
    let a = now c.args.set.now (g.F.Forces.gravity c.args.forces.now) (g.F.Forces.fixed c.args.forces.now) (g.F.Forces.state c.args.forces.now) (g.O.KickOut.faults c.args.out.now) (g.O.KickOut.yes c.args.out.now) (g.O.KickOut.took c.args.out.now) c.args.work.now in
    let b = now c.kick_part.new.set (g.F.Forces.gravity c.args.forces.now) (g.F.Forces.fixed c.args.forces.now) (g.F.Forces.state c.args.forces.now) (g.O.KickOut.faults c.kick_part.new.out) (g.O.KickOut.yes c.kick_part.new.out) (g.O.KickOut.took c.kick_part.new.out) c.kick_part.new.work in
    let h : c.first_factor-h.result ≡ kick_factor e t (t + 2 ^ (bin - 1)) = c.first_factor-h.ensures.value in
    let one = (subst (λ x. Makes {T = Unit {0}} g.F.Forces.passes bin 1 t t (λ stop p. kick (rules (g.F.Forces.gravity c.args.forces.now) e) bin P F t x p) (Ok tt) a b) h (c.in-Ok.ensures.makes bin)) in
    let ready : IsReady c.args.course.now.setup.now c.args.course.now.total b = ready_made g.F.Forces.passes bin 1 t t (first_kick (rules gr e) bin P F t) tt c.args.course.now.setup.now c.args.course.now.total a b one c.requires.ready in
    let named : ids_at c.kick_part.new.set c.args.split.now.fast.now ≡ F = same_places c.args.set.now c.kick_part.new.set c.args.split.now.fast.now one.conserved in
    let given : IsGiven gr c.kick_part.new.set c.args.split.now.fast.now c.args.known = record { places = ascending_on c.args.set.now c.kick_part.new.set c.args.split.now.fast.now one.conserved c.requires.fast.places; forces = forces_still gr (ids_at c.kick_part.new.set c.args.split.now.fast.now) c.args.known c.args.set.now c.kick_part.new.set c.in-Ok.ensures.places (subst (λ Q. AreForcesAmong gr (only c.args.set.now Q) c.args.known) (sym (named ∙ c.requires.fast.all c.requires.all)) c.requires.known.forces) } in
    let room : c.kick_part.new.work.count.kicks + 2 ^ (bin + 1) ≤ 2 ^ 40 + 1 = omega (arith, one.few, c.requires.room) in
    search found

pub step_all-returns-in-Err-between-clause-makes : goal.step_all-returns-in-Err-between-clause-makes
step_all-returns-in-Err-between-clause-makes g t' c =
    let gr = g.F.Forces.gravity c.args.forces.now in
    let e = option_copied c.args.course.now.expansion in
    let bin = c.args.split.now.bin in
    let t = c.args.split.now.tick in
    let P = ids_at c.args.set.now c.args.split.now.part.now in
    let F = ids_at c.args.set.now c.args.split.now.fast.now in
    let a = now c.args.set.now (g.F.Forces.gravity c.args.forces.now) (g.F.Forces.fixed c.args.forces.now) (g.F.Forces.state c.args.forces.now) (g.O.KickOut.faults c.args.out.now) (g.O.KickOut.yes c.args.out.now) (g.O.KickOut.took c.args.out.now) c.args.work.now in
    let b = now c.kick_part.new.set (g.F.Forces.gravity c.args.forces.now) (g.F.Forces.fixed c.args.forces.now) (g.F.Forces.state c.args.forces.now) (g.O.KickOut.faults c.kick_part.new.out) (g.O.KickOut.yes c.kick_part.new.out) (g.O.KickOut.took c.kick_part.new.out) c.kick_part.new.work in
    let h : c.first_factor-h.result ≡ kick_factor e t (t + 2 ^ (bin - 1)) = c.first_factor-h.ensures.value in
    let one = (subst (λ x. Makes {T = Unit {0}} g.F.Forces.passes bin 1 t t (λ stop p. kick (rules (g.F.Forces.gravity c.args.forces.now) e) bin P F t x p) (Ok tt) a b) h (c.in-Ok.ensures.makes bin)) in
    let d = now c.between.new.set (g.F.Forces.gravity c.between.new.forces) (g.F.Forces.fixed c.between.new.forces) (g.F.Forces.state c.between.new.forces) (g.O.KickOut.faults c.between.new.out) (g.O.KickOut.yes c.between.new.out) (g.O.KickOut.took c.between.new.out) c.between.new.work in
    inner_halts g.F.Forces.passes {T = Unit {0}} {U = Field} {V = Field} e bin c.args.split.now.part.now c.args.split.now.fast.now t tt c.in-Err-between.e a b d c.requires.timely.some c.requires.fast.part one c.in-Err-between.ensures.makes

pub step_all-close_all-requires-clause-ready : goal.step_all-close_all-requires-clause-ready
step_all-close_all-requires-clause-ready g t' c =
    let gr = g.F.Forces.gravity c.args.forces.now in
    let e = option_copied c.args.course.now.expansion in
    let bin = c.args.split.now.bin in
    let t = c.args.split.now.tick in
    let P = ids_at c.args.set.now c.args.split.now.part.now in
    let F = ids_at c.args.set.now c.args.split.now.fast.now in
    let a = now c.args.set.now (g.F.Forces.gravity c.args.forces.now) (g.F.Forces.fixed c.args.forces.now) (g.F.Forces.state c.args.forces.now) (g.O.KickOut.faults c.args.out.now) (g.O.KickOut.yes c.args.out.now) (g.O.KickOut.took c.args.out.now) c.args.work.now in
    let b = now c.kick_part.new.set (g.F.Forces.gravity c.args.forces.now) (g.F.Forces.fixed c.args.forces.now) (g.F.Forces.state c.args.forces.now) (g.O.KickOut.faults c.kick_part.new.out) (g.O.KickOut.yes c.kick_part.new.out) (g.O.KickOut.took c.kick_part.new.out) c.kick_part.new.work in
    let h : c.first_factor-h.result ≡ kick_factor e t (t + 2 ^ (bin - 1)) = c.first_factor-h.ensures.value in
    let one = (subst (λ x. Makes {T = Unit {0}} g.F.Forces.passes bin 1 t t (λ stop p. kick (rules (g.F.Forces.gravity c.args.forces.now) e) bin P F t x p) (Ok tt) a b) h (c.in-Ok.ensures.makes bin)) in
    let ready : IsReady c.args.course.now.setup.now c.args.course.now.total b = ready_made g.F.Forces.passes bin 1 t t (first_kick (rules gr e) bin P F t) tt c.args.course.now.setup.now c.args.course.now.total a b one c.requires.ready in
    let d = now c.between.new.set (g.F.Forces.gravity c.between.new.forces) (g.F.Forces.fixed c.between.new.forces) (g.F.Forces.state c.between.new.forces) (g.O.KickOut.faults c.between.new.out) (g.O.KickOut.yes c.between.new.out) (g.O.KickOut.took c.between.new.out) c.between.new.work in
    let two = c.in-Ok-between.ensures.makes in
    let kept = conserved_on c.args.set.now c.kick_part.new.set c.between.new.set one.conserved two.conserved in
    ready_made g.F.Forces.passes bin (2 ^ (bin + 1) - 4) t (t + 2 ^ bin) (inner (rules gr e) bin (ids_at c.kick_part.new.set c.args.split.now.fast.now) t) c.in-Ok-between.quick c.args.course.now.setup.now c.args.course.now.total b d two ready

pub step_all-close_all-requires-clause-part : goal.step_all-close_all-requires-clause-part
step_all-close_all-requires-clause-part g t' c =
    let gr = g.F.Forces.gravity c.args.forces.now in
    let e = option_copied c.args.course.now.expansion in
    let bin = c.args.split.now.bin in
    let t = c.args.split.now.tick in
    let P = ids_at c.args.set.now c.args.split.now.part.now in
    let F = ids_at c.args.set.now c.args.split.now.fast.now in
    let a = now c.args.set.now (g.F.Forces.gravity c.args.forces.now) (g.F.Forces.fixed c.args.forces.now) (g.F.Forces.state c.args.forces.now) (g.O.KickOut.faults c.args.out.now) (g.O.KickOut.yes c.args.out.now) (g.O.KickOut.took c.args.out.now) c.args.work.now in
    let b = now c.kick_part.new.set (g.F.Forces.gravity c.args.forces.now) (g.F.Forces.fixed c.args.forces.now) (g.F.Forces.state c.args.forces.now) (g.O.KickOut.faults c.kick_part.new.out) (g.O.KickOut.yes c.kick_part.new.out) (g.O.KickOut.took c.kick_part.new.out) c.kick_part.new.work in
    let h : c.first_factor-h.result ≡ kick_factor e t (t + 2 ^ (bin - 1)) = c.first_factor-h.ensures.value in
    let one = (subst (λ x. Makes {T = Unit {0}} g.F.Forces.passes bin 1 t t (λ stop p. kick (rules (g.F.Forces.gravity c.args.forces.now) e) bin P F t x p) (Ok tt) a b) h (c.in-Ok.ensures.makes bin)) in
    let ready : IsReady c.args.course.now.setup.now c.args.course.now.total b = ready_made g.F.Forces.passes bin 1 t t (first_kick (rules gr e) bin P F t) tt c.args.course.now.setup.now c.args.course.now.total a b one c.requires.ready in
    let d = now c.between.new.set (g.F.Forces.gravity c.between.new.forces) (g.F.Forces.fixed c.between.new.forces) (g.F.Forces.state c.between.new.forces) (g.O.KickOut.faults c.between.new.out) (g.O.KickOut.yes c.between.new.out) (g.O.KickOut.took c.between.new.out) c.between.new.work in
    let two = c.in-Ok-between.ensures.makes in
    let kept = conserved_on c.args.set.now c.kick_part.new.set c.between.new.set one.conserved two.conserved in
    ascending_on c.args.set.now c.between.new.set c.args.split.now.part.now kept c.requires.known.places

pub step_all-close_all-requires-clause-fast : goal.step_all-close_all-requires-clause-fast
step_all-close_all-requires-clause-fast g t' c =
    let gr = g.F.Forces.gravity c.args.forces.now in
    let e = option_copied c.args.course.now.expansion in
    let bin = c.args.split.now.bin in
    let t = c.args.split.now.tick in
    let P = ids_at c.args.set.now c.args.split.now.part.now in
    let F = ids_at c.args.set.now c.args.split.now.fast.now in
    let a = now c.args.set.now (g.F.Forces.gravity c.args.forces.now) (g.F.Forces.fixed c.args.forces.now) (g.F.Forces.state c.args.forces.now) (g.O.KickOut.faults c.args.out.now) (g.O.KickOut.yes c.args.out.now) (g.O.KickOut.took c.args.out.now) c.args.work.now in
    let b = now c.kick_part.new.set (g.F.Forces.gravity c.args.forces.now) (g.F.Forces.fixed c.args.forces.now) (g.F.Forces.state c.args.forces.now) (g.O.KickOut.faults c.kick_part.new.out) (g.O.KickOut.yes c.kick_part.new.out) (g.O.KickOut.took c.kick_part.new.out) c.kick_part.new.work in
    let h : c.first_factor-h.result ≡ kick_factor e t (t + 2 ^ (bin - 1)) = c.first_factor-h.ensures.value in
    let one = (subst (λ x. Makes {T = Unit {0}} g.F.Forces.passes bin 1 t t (λ stop p. kick (rules (g.F.Forces.gravity c.args.forces.now) e) bin P F t x p) (Ok tt) a b) h (c.in-Ok.ensures.makes bin)) in
    let ready : IsReady c.args.course.now.setup.now c.args.course.now.total b = ready_made g.F.Forces.passes bin 1 t t (first_kick (rules gr e) bin P F t) tt c.args.course.now.setup.now c.args.course.now.total a b one c.requires.ready in
    let d = now c.between.new.set (g.F.Forces.gravity c.between.new.forces) (g.F.Forces.fixed c.between.new.forces) (g.F.Forces.state c.between.new.forces) (g.O.KickOut.faults c.between.new.out) (g.O.KickOut.yes c.between.new.out) (g.O.KickOut.took c.between.new.out) c.between.new.work in
    let two = c.in-Ok-between.ensures.makes in
    let kept = conserved_on c.args.set.now c.kick_part.new.set c.between.new.set one.conserved two.conserved in
    of_on c.args.set.now c.between.new.set c.args.split.now.part.now c.args.split.now.fast.now kept c.requires.fast

pub step_all-close_all-requires-clause-room : goal.step_all-close_all-requires-clause-room
step_all-close_all-requires-clause-room g t' c =
    let gr = g.F.Forces.gravity c.args.forces.now in
    let e = option_copied c.args.course.now.expansion in
    let bin = c.args.split.now.bin in
    let t = c.args.split.now.tick in
    let P = ids_at c.args.set.now c.args.split.now.part.now in
    let F = ids_at c.args.set.now c.args.split.now.fast.now in
    let a = now c.args.set.now (g.F.Forces.gravity c.args.forces.now) (g.F.Forces.fixed c.args.forces.now) (g.F.Forces.state c.args.forces.now) (g.O.KickOut.faults c.args.out.now) (g.O.KickOut.yes c.args.out.now) (g.O.KickOut.took c.args.out.now) c.args.work.now in
    let b = now c.kick_part.new.set (g.F.Forces.gravity c.args.forces.now) (g.F.Forces.fixed c.args.forces.now) (g.F.Forces.state c.args.forces.now) (g.O.KickOut.faults c.kick_part.new.out) (g.O.KickOut.yes c.kick_part.new.out) (g.O.KickOut.took c.kick_part.new.out) c.kick_part.new.work in
    let h : c.first_factor-h.result ≡ kick_factor e t (t + 2 ^ (bin - 1)) = c.first_factor-h.ensures.value in
    let one = (subst (λ x. Makes {T = Unit {0}} g.F.Forces.passes bin 1 t t (λ stop p. kick (rules (g.F.Forces.gravity c.args.forces.now) e) bin P F t x p) (Ok tt) a b) h (c.in-Ok.ensures.makes bin)) in
    let ready : IsReady c.args.course.now.setup.now c.args.course.now.total b = ready_made g.F.Forces.passes bin 1 t t (first_kick (rules gr e) bin P F t) tt c.args.course.now.setup.now c.args.course.now.total a b one c.requires.ready in
    let d = now c.between.new.set (g.F.Forces.gravity c.between.new.forces) (g.F.Forces.fixed c.between.new.forces) (g.F.Forces.state c.between.new.forces) (g.O.KickOut.faults c.between.new.out) (g.O.KickOut.yes c.between.new.out) (g.O.KickOut.took c.between.new.out) c.between.new.work in
    let two = c.in-Ok-between.ensures.makes in
    let kept = conserved_on c.args.set.now c.kick_part.new.set c.between.new.set one.conserved two.conserved in
    room_after bin c.args.work.now.count.kicks c.kick_part.new.work.count.kicks c.between.new.work.count.kicks c.requires.timely.some c.requires.room one.few two.few

pub step_all-returns-in-Ok-close_all-clause-makes : goal.step_all-returns-in-Ok-close_all-clause-makes
step_all-returns-in-Ok-close_all-clause-makes g t' c =
    let gr = g.F.Forces.gravity c.args.forces.now in
    let e = option_copied c.args.course.now.expansion in
    let bin = c.args.split.now.bin in
    let t = c.args.split.now.tick in
    let P = ids_at c.args.set.now c.args.split.now.part.now in
    let F = ids_at c.args.set.now c.args.split.now.fast.now in
    let a = now c.args.set.now (g.F.Forces.gravity c.args.forces.now) (g.F.Forces.fixed c.args.forces.now) (g.F.Forces.state c.args.forces.now) (g.O.KickOut.faults c.args.out.now) (g.O.KickOut.yes c.args.out.now) (g.O.KickOut.took c.args.out.now) c.args.work.now in
    let b = now c.kick_part.new.set (g.F.Forces.gravity c.args.forces.now) (g.F.Forces.fixed c.args.forces.now) (g.F.Forces.state c.args.forces.now) (g.O.KickOut.faults c.kick_part.new.out) (g.O.KickOut.yes c.kick_part.new.out) (g.O.KickOut.took c.kick_part.new.out) c.kick_part.new.work in
    let h : c.first_factor-h.result ≡ kick_factor e t (t + 2 ^ (bin - 1)) = c.first_factor-h.ensures.value in
    let one = (subst (λ x. Makes {T = Unit {0}} g.F.Forces.passes bin 1 t t (λ stop p. kick (rules (g.F.Forces.gravity c.args.forces.now) e) bin P F t x p) (Ok tt) a b) h (c.in-Ok.ensures.makes bin)) in
    let ready : IsReady c.args.course.now.setup.now c.args.course.now.total b = ready_made g.F.Forces.passes bin 1 t t (first_kick (rules gr e) bin P F t) tt c.args.course.now.setup.now c.args.course.now.total a b one c.requires.ready in
    let d = now c.between.new.set (g.F.Forces.gravity c.between.new.forces) (g.F.Forces.fixed c.between.new.forces) (g.F.Forces.state c.between.new.forces) (g.O.KickOut.faults c.between.new.out) (g.O.KickOut.yes c.between.new.out) (g.O.KickOut.took c.between.new.out) c.between.new.work in
    let two = c.in-Ok-between.ensures.makes in
    let kept = conserved_on c.args.set.now c.kick_part.new.set c.between.new.set one.conserved two.conserved in
    let z = now c.close_all.new.set (g.F.Forces.gravity c.between.new.forces) (g.F.Forces.fixed c.between.new.forces) (g.F.Forces.state c.between.new.forces) (g.O.KickOut.faults c.close_all.new.out) (g.O.KickOut.yes c.close_all.new.out) (g.O.KickOut.took c.close_all.new.out) c.close_all.new.work in
    valued g.F.Forces.passes bin (most_of bin) t (t + 2 ^ bin) (from_kick (rules gr e) bin P F t) tt c.in-Ok-between.quick a z
    (step_ends g.F.Forces.passes {T = Unit {0}} {U = Field} {V = Unit {0}} e bin c.args.split.now.part.now c.args.split.now.fast.now t tt c.in-Ok-between.quick (Ok tt) a b d z c.requires.timely.some one two (c.in-Ok-close_all.ensures.makes bin))

pub step_all-returns-in-Err-close_all-clause-makes : goal.step_all-returns-in-Err-close_all-clause-makes
step_all-returns-in-Err-close_all-clause-makes g t' c =
    let gr = g.F.Forces.gravity c.args.forces.now in
    let e = option_copied c.args.course.now.expansion in
    let bin = c.args.split.now.bin in
    let t = c.args.split.now.tick in
    let P = ids_at c.args.set.now c.args.split.now.part.now in
    let F = ids_at c.args.set.now c.args.split.now.fast.now in
    let a = now c.args.set.now (g.F.Forces.gravity c.args.forces.now) (g.F.Forces.fixed c.args.forces.now) (g.F.Forces.state c.args.forces.now) (g.O.KickOut.faults c.args.out.now) (g.O.KickOut.yes c.args.out.now) (g.O.KickOut.took c.args.out.now) c.args.work.now in
    let b = now c.kick_part.new.set (g.F.Forces.gravity c.args.forces.now) (g.F.Forces.fixed c.args.forces.now) (g.F.Forces.state c.args.forces.now) (g.O.KickOut.faults c.kick_part.new.out) (g.O.KickOut.yes c.kick_part.new.out) (g.O.KickOut.took c.kick_part.new.out) c.kick_part.new.work in
    let h : c.first_factor-h.result ≡ kick_factor e t (t + 2 ^ (bin - 1)) = c.first_factor-h.ensures.value in
    let one = (subst (λ x. Makes {T = Unit {0}} g.F.Forces.passes bin 1 t t (λ stop p. kick (rules (g.F.Forces.gravity c.args.forces.now) e) bin P F t x p) (Ok tt) a b) h (c.in-Ok.ensures.makes bin)) in
    let ready : IsReady c.args.course.now.setup.now c.args.course.now.total b = ready_made g.F.Forces.passes bin 1 t t (first_kick (rules gr e) bin P F t) tt c.args.course.now.setup.now c.args.course.now.total a b one c.requires.ready in
    let d = now c.between.new.set (g.F.Forces.gravity c.between.new.forces) (g.F.Forces.fixed c.between.new.forces) (g.F.Forces.state c.between.new.forces) (g.O.KickOut.faults c.between.new.out) (g.O.KickOut.yes c.between.new.out) (g.O.KickOut.took c.between.new.out) c.between.new.work in
    let two = c.in-Ok-between.ensures.makes in
    let kept = conserved_on c.args.set.now c.kick_part.new.set c.between.new.set one.conserved two.conserved in
    let z = now c.close_all.new.set (g.F.Forces.gravity c.between.new.forces) (g.F.Forces.fixed c.between.new.forces) (g.F.Forces.state c.between.new.forces) (g.O.KickOut.faults c.close_all.new.out) (g.O.KickOut.yes c.close_all.new.out) (g.O.KickOut.took c.close_all.new.out) c.close_all.new.work in
    halt_as g.F.Forces.passes {T = Unit {0}} {U = Field} bin (most_of bin) t (t + 2 ^ bin) (from_kick (rules gr e) bin P F t) c.in-Err-close_all.e a z
    (step_ends g.F.Forces.passes {T = Unit {0}} {U = Field} {V = Unit {0}} e bin c.args.split.now.part.now c.args.split.now.fast.now t tt c.in-Ok-between.quick (Err c.in-Err-close_all.e) a b d z c.requires.timely.some one two (c.in-Err-close_all.ensures.makes bin))

pub step_some-returns-in-Err-clause-makes : goal.step_some-returns-in-Err-clause-makes
step_some-returns-in-Err-clause-makes g t' c =
    let gr = g.F.Forces.gravity c.args.forces.now in
    let e = option_copied c.args.course.now.expansion in
    let bin = c.args.split.now.bin in
    let t = c.args.split.now.tick in
    let P = ids_at c.args.set.now c.args.split.now.part.now in
    let F = ids_at c.args.set.now c.args.split.now.fast.now in
    let a = now c.args.set.now (g.F.Forces.gravity c.args.forces.now) (g.F.Forces.fixed c.args.forces.now) (g.F.Forces.state c.args.forces.now) (g.O.KickOut.faults c.args.out.now) (g.O.KickOut.yes c.args.out.now) (g.O.KickOut.took c.args.out.now) c.args.work.now in
    let b = now c.args.set.now (g.F.Forces.gravity c.ask_fast.new.forces) (g.F.Forces.fixed c.ask_fast.new.forces) (g.F.Forces.state c.ask_fast.new.forces) (g.O.KickOut.faults c.ask_fast.new.out) (g.O.KickOut.yes c.ask_fast.new.out) (g.O.KickOut.took c.ask_fast.new.out) c.args.work.now in
    ask_halts g.F.Forces.passes {T = Field} {U = Field} e bin P F t c.in-Err.e gr a b c.requires.fast.part (c.in-Err.ensures.makes c.args.work.now bin t)

pub step_some-kick_part-requires-clause-ready : goal.step_some-kick_part-requires-clause-ready
step_some-kick_part-requires-clause-ready g t' c =
    let gr = g.F.Forces.gravity c.args.forces.now in
    let e = option_copied c.args.course.now.expansion in
    let bin = c.args.split.now.bin in
    let t = c.args.split.now.tick in
    let P = ids_at c.args.set.now c.args.split.now.part.now in
    let F = ids_at c.args.set.now c.args.split.now.fast.now in
    let a = now c.args.set.now (g.F.Forces.gravity c.args.forces.now) (g.F.Forces.fixed c.args.forces.now) (g.F.Forces.state c.args.forces.now) (g.O.KickOut.faults c.args.out.now) (g.O.KickOut.yes c.args.out.now) (g.O.KickOut.took c.args.out.now) c.args.work.now in
    let b = now c.args.set.now (g.F.Forces.gravity c.ask_fast.new.forces) (g.F.Forces.fixed c.ask_fast.new.forces) (g.F.Forces.state c.ask_fast.new.forces) (g.O.KickOut.faults c.ask_fast.new.out) (g.O.KickOut.yes c.ask_fast.new.out) (g.O.KickOut.took c.ask_fast.new.out) c.args.work.now in
    let one = c.in-Ok.ensures.makes c.args.work.now bin t in
    let ready : IsReady c.args.course.now.setup.now c.args.course.now.total b = ready_made g.F.Forces.passes bin 0 t t (asks_fast F) c.in-Ok.quick c.args.course.now.setup.now c.args.course.now.total a b one c.requires.ready in
    ready

pub step_some-kick_part-requires-clause-whole : goal.step_some-kick_part-requires-clause-whole
step_some-kick_part-requires-clause-whole g t' c =
    let gr = g.F.Forces.gravity c.args.forces.now in
    let e = option_copied c.args.course.now.expansion in
    let bin = c.args.split.now.bin in
    let t = c.args.split.now.tick in
    let P = ids_at c.args.set.now c.args.split.now.part.now in
    let F = ids_at c.args.set.now c.args.split.now.fast.now in
    let a = now c.args.set.now (g.F.Forces.gravity c.args.forces.now) (g.F.Forces.fixed c.args.forces.now) (g.F.Forces.state c.args.forces.now) (g.O.KickOut.faults c.args.out.now) (g.O.KickOut.yes c.args.out.now) (g.O.KickOut.took c.args.out.now) c.args.work.now in
    let b = now c.args.set.now (g.F.Forces.gravity c.ask_fast.new.forces) (g.F.Forces.fixed c.ask_fast.new.forces) (g.F.Forces.state c.ask_fast.new.forces) (g.O.KickOut.faults c.ask_fast.new.out) (g.O.KickOut.yes c.ask_fast.new.out) (g.O.KickOut.took c.ask_fast.new.out) c.args.work.now in
    let one = c.in-Ok.ensures.makes c.args.work.now bin t in
    record { places = c.requires.known.places; forces = subst (λ (x : Gravity). AreForcesAmong x (only c.args.set.now P) c.args.known.now) (sym one.gravity) c.requires.known.forces }

pub step_some-kick_part-requires-clause-quick : goal.step_some-kick_part-requires-clause-quick
step_some-kick_part-requires-clause-quick g t' c =
    let gr = g.F.Forces.gravity c.args.forces.now in
    let e = option_copied c.args.course.now.expansion in
    let bin = c.args.split.now.bin in
    let t = c.args.split.now.tick in
    let P = ids_at c.args.set.now c.args.split.now.part.now in
    let F = ids_at c.args.set.now c.args.split.now.fast.now in
    let a = now c.args.set.now (g.F.Forces.gravity c.args.forces.now) (g.F.Forces.fixed c.args.forces.now) (g.F.Forces.state c.args.forces.now) (g.O.KickOut.faults c.args.out.now) (g.O.KickOut.yes c.args.out.now) (g.O.KickOut.took c.args.out.now) c.args.work.now in
    let b = now c.args.set.now (g.F.Forces.gravity c.ask_fast.new.forces) (g.F.Forces.fixed c.ask_fast.new.forces) (g.F.Forces.state c.ask_fast.new.forces) (g.O.KickOut.faults c.ask_fast.new.out) (g.O.KickOut.yes c.ask_fast.new.out) (g.O.KickOut.took c.ask_fast.new.out) c.args.work.now in
    let one = c.in-Ok.ensures.makes c.args.work.now bin t in
    subst (λ (x : Gravity). AreForcesAmong x (only c.args.set.now F) c.in-Ok.quick) (sym one.gravity) c.in-Ok.ensures.forces

pub step_some-returns-in-Err-kick_part-clause-makes : goal.step_some-returns-in-Err-kick_part-clause-makes
step_some-returns-in-Err-kick_part-clause-makes g t' c =
    let gr = g.F.Forces.gravity c.args.forces.now in
    let e = option_copied c.args.course.now.expansion in
    let bin = c.args.split.now.bin in
    let t = c.args.split.now.tick in
    let P = ids_at c.args.set.now c.args.split.now.part.now in
    let F = ids_at c.args.set.now c.args.split.now.fast.now in
    let a = now c.args.set.now (g.F.Forces.gravity c.args.forces.now) (g.F.Forces.fixed c.args.forces.now) (g.F.Forces.state c.args.forces.now) (g.O.KickOut.faults c.args.out.now) (g.O.KickOut.yes c.args.out.now) (g.O.KickOut.took c.args.out.now) c.args.work.now in
    let b = now c.args.set.now (g.F.Forces.gravity c.ask_fast.new.forces) (g.F.Forces.fixed c.ask_fast.new.forces) (g.F.Forces.state c.ask_fast.new.forces) (g.O.KickOut.faults c.ask_fast.new.out) (g.O.KickOut.yes c.ask_fast.new.out) (g.O.KickOut.took c.ask_fast.new.out) c.args.work.now in
    let one = c.in-Ok.ensures.makes c.args.work.now bin t in
    let d = now c.kick_part.new.set (g.F.Forces.gravity c.ask_fast.new.forces) (g.F.Forces.fixed c.ask_fast.new.forces) (g.F.Forces.state c.ask_fast.new.forces) (g.O.KickOut.faults c.kick_part.new.out) (g.O.KickOut.yes c.kick_part.new.out) (g.O.KickOut.took c.kick_part.new.out) c.kick_part.new.work in
    let h : c.first_factor-h.result ≡ kick_factor e t (t + 2 ^ (bin - 1)) = c.first_factor-h.ensures.value in
    ask_goes g.F.Forces.passes {T = Field} {U = Field} e bin c.args.split.now.part.now c.args.split.now.fast.now t c.in-Ok.quick (Err c.in-Err-kick_part.e) a b d one
    (kick_halts g.F.Forces.passes {T = Unit {0}} {U = Field} e bin P F t c.in-Err-kick_part.e (g.F.Forces.gravity c.ask_fast.new.forces) b d c.requires.timely.some c.requires.fast.part (subst (λ x. Makes {T = Unit {0}} g.F.Forces.passes bin 1 t t (λ stop p. kick (rules (g.F.Forces.gravity c.ask_fast.new.forces) e) bin P F t x p) (Err c.in-Err-kick_part.e) b d) h (c.in-Err-kick_part.ensures.makes bin)))

pub step_some-between-requires : goal.step_some-between-requires
step_some-between-requires g t' c κs within =
    let ready' : IsReady c.args.course.now.setup.now c.args.course.now.total (now c.kick_part.new.set (g.F.Forces.gravity c.ask_fast.new.forces) (g.F.Forces.fixed c.ask_fast.new.forces) (g.F.Forces.state c.ask_fast.new.forces) (g.O.KickOut.faults c.kick_part.new.out) (g.O.KickOut.yes c.kick_part.new.out) (g.O.KickOut.took c.kick_part.new.out) c.kick_part.new.work) = (
    let gr = g.F.Forces.gravity c.args.forces.now in
    let e = option_copied c.args.course.now.expansion in
    let bin = c.args.split.now.bin in
    let t = c.args.split.now.tick in
    let P = ids_at c.args.set.now c.args.split.now.part.now in
    let F = ids_at c.args.set.now c.args.split.now.fast.now in
    let a = now c.args.set.now (g.F.Forces.gravity c.args.forces.now) (g.F.Forces.fixed c.args.forces.now) (g.F.Forces.state c.args.forces.now) (g.O.KickOut.faults c.args.out.now) (g.O.KickOut.yes c.args.out.now) (g.O.KickOut.took c.args.out.now) c.args.work.now in
    let b = now c.args.set.now (g.F.Forces.gravity c.ask_fast.new.forces) (g.F.Forces.fixed c.ask_fast.new.forces) (g.F.Forces.state c.ask_fast.new.forces) (g.O.KickOut.faults c.ask_fast.new.out) (g.O.KickOut.yes c.ask_fast.new.out) (g.O.KickOut.took c.ask_fast.new.out) c.args.work.now in
    let one = c.in-Ok.ensures.makes c.args.work.now bin t in
    let ready : IsReady c.args.course.now.setup.now c.args.course.now.total b = ready_made g.F.Forces.passes bin 0 t t (asks_fast F) c.in-Ok.quick c.args.course.now.setup.now c.args.course.now.total a b one c.requires.ready in
    let d = now c.kick_part.new.set (g.F.Forces.gravity c.ask_fast.new.forces) (g.F.Forces.fixed c.ask_fast.new.forces) (g.F.Forces.state c.ask_fast.new.forces) (g.O.KickOut.faults c.kick_part.new.out) (g.O.KickOut.yes c.kick_part.new.out) (g.O.KickOut.took c.kick_part.new.out) c.kick_part.new.work in
    let h : c.first_factor-h.result ≡ kick_factor e t (t + 2 ^ (bin - 1)) = c.first_factor-h.ensures.value in
    let two = (subst (λ x. Makes {T = Unit {0}} g.F.Forces.passes bin 1 t t (λ stop p. kick (rules (g.F.Forces.gravity c.ask_fast.new.forces) e) bin P F t x p) (Ok tt) b d) h (c.in-Ok-kick_part.ensures.makes bin)) in
    let ready2 : IsReady c.args.course.now.setup.now c.args.course.now.total d = ready_made g.F.Forces.passes bin 1 t t (first_kick (rules (g.F.Forces.gravity c.ask_fast.new.forces) e) bin P F t) tt c.args.course.now.setup.now c.args.course.now.total b d two ready in
    ready2) in
    let given : IsGiven (g.F.Forces.gravity c.ask_fast.new.forces) c.kick_part.new.set c.args.split.now.fast.now c.in-Ok.quick = (
    let gr = g.F.Forces.gravity c.args.forces.now in
    let e = option_copied c.args.course.now.expansion in
    let bin = c.args.split.now.bin in
    let t = c.args.split.now.tick in
    let P = ids_at c.args.set.now c.args.split.now.part.now in
    let F = ids_at c.args.set.now c.args.split.now.fast.now in
    let a = now c.args.set.now (g.F.Forces.gravity c.args.forces.now) (g.F.Forces.fixed c.args.forces.now) (g.F.Forces.state c.args.forces.now) (g.O.KickOut.faults c.args.out.now) (g.O.KickOut.yes c.args.out.now) (g.O.KickOut.took c.args.out.now) c.args.work.now in
    let b = now c.args.set.now (g.F.Forces.gravity c.ask_fast.new.forces) (g.F.Forces.fixed c.ask_fast.new.forces) (g.F.Forces.state c.ask_fast.new.forces) (g.O.KickOut.faults c.ask_fast.new.out) (g.O.KickOut.yes c.ask_fast.new.out) (g.O.KickOut.took c.ask_fast.new.out) c.args.work.now in
    let one = c.in-Ok.ensures.makes c.args.work.now bin t in
    let ready : IsReady c.args.course.now.setup.now c.args.course.now.total b = ready_made g.F.Forces.passes bin 0 t t (asks_fast F) c.in-Ok.quick c.args.course.now.setup.now c.args.course.now.total a b one c.requires.ready in
    let d = now c.kick_part.new.set (g.F.Forces.gravity c.ask_fast.new.forces) (g.F.Forces.fixed c.ask_fast.new.forces) (g.F.Forces.state c.ask_fast.new.forces) (g.O.KickOut.faults c.kick_part.new.out) (g.O.KickOut.yes c.kick_part.new.out) (g.O.KickOut.took c.kick_part.new.out) c.kick_part.new.work in
    let h : c.first_factor-h.result ≡ kick_factor e t (t + 2 ^ (bin - 1)) = c.first_factor-h.ensures.value in
    let two = (subst (λ x. Makes {T = Unit {0}} g.F.Forces.passes bin 1 t t (λ stop p. kick (rules (g.F.Forces.gravity c.ask_fast.new.forces) e) bin P F t x p) (Ok tt) b d) h (c.in-Ok-kick_part.ensures.makes bin)) in
    let ready2 : IsReady c.args.course.now.setup.now c.args.course.now.total d = ready_made g.F.Forces.passes bin 1 t t (first_kick (rules (g.F.Forces.gravity c.ask_fast.new.forces) e) bin P F t) tt c.args.course.now.setup.now c.args.course.now.total b d two ready in
    let named : ids_at c.kick_part.new.set c.args.split.now.fast.now ≡ F = same_places c.args.set.now c.kick_part.new.set c.args.split.now.fast.now two.conserved in
    let found : AreForcesAmong (g.F.Forces.gravity c.ask_fast.new.forces) (only c.args.set.now F) c.in-Ok.quick = subst (λ (x : Gravity). AreForcesAmong x (only c.args.set.now F) c.in-Ok.quick) (sym one.gravity) c.in-Ok.ensures.forces in
    record { places = ascending_on c.args.set.now c.kick_part.new.set c.args.split.now.fast.now two.conserved c.requires.fast.places; forces = forces_still (g.F.Forces.gravity c.ask_fast.new.forces) (ids_at c.kick_part.new.set c.args.split.now.fast.now) c.in-Ok.quick c.args.set.now c.kick_part.new.set c.in-Ok-kick_part.ensures.places (subst (λ Q. AreForcesAmong (g.F.Forces.gravity c.ask_fast.new.forces) (only c.args.set.now Q) c.in-Ok.quick) (sym named) found) }) in
    let room : c.kick_part.new.work.count.kicks + 2 ^ (c.args.split.now.bin + 1) ≤ 2 ^ 40 + 1 = (
    let gr = g.F.Forces.gravity c.args.forces.now in
    let e = option_copied c.args.course.now.expansion in
    let bin = c.args.split.now.bin in
    let t = c.args.split.now.tick in
    let P = ids_at c.args.set.now c.args.split.now.part.now in
    let F = ids_at c.args.set.now c.args.split.now.fast.now in
    let a = now c.args.set.now (g.F.Forces.gravity c.args.forces.now) (g.F.Forces.fixed c.args.forces.now) (g.F.Forces.state c.args.forces.now) (g.O.KickOut.faults c.args.out.now) (g.O.KickOut.yes c.args.out.now) (g.O.KickOut.took c.args.out.now) c.args.work.now in
    let b = now c.args.set.now (g.F.Forces.gravity c.ask_fast.new.forces) (g.F.Forces.fixed c.ask_fast.new.forces) (g.F.Forces.state c.ask_fast.new.forces) (g.O.KickOut.faults c.ask_fast.new.out) (g.O.KickOut.yes c.ask_fast.new.out) (g.O.KickOut.took c.ask_fast.new.out) c.args.work.now in
    let one = c.in-Ok.ensures.makes c.args.work.now bin t in
    let ready : IsReady c.args.course.now.setup.now c.args.course.now.total b = ready_made g.F.Forces.passes bin 0 t t (asks_fast F) c.in-Ok.quick c.args.course.now.setup.now c.args.course.now.total a b one c.requires.ready in
    let d = now c.kick_part.new.set (g.F.Forces.gravity c.ask_fast.new.forces) (g.F.Forces.fixed c.ask_fast.new.forces) (g.F.Forces.state c.ask_fast.new.forces) (g.O.KickOut.faults c.kick_part.new.out) (g.O.KickOut.yes c.kick_part.new.out) (g.O.KickOut.took c.kick_part.new.out) c.kick_part.new.work in
    let h : c.first_factor-h.result ≡ kick_factor e t (t + 2 ^ (bin - 1)) = c.first_factor-h.ensures.value in
    let two = (subst (λ x. Makes {T = Unit {0}} g.F.Forces.passes bin 1 t t (λ stop p. kick (rules (g.F.Forces.gravity c.ask_fast.new.forces) e) bin P F t x p) (Ok tt) b d) h (c.in-Ok-kick_part.ensures.makes bin)) in
    let ready2 : IsReady c.args.course.now.setup.now c.args.course.now.total d = ready_made g.F.Forces.passes bin 1 t t (first_kick (rules (g.F.Forces.gravity c.ask_fast.new.forces) e) bin P F t) tt c.args.course.now.setup.now c.args.course.now.total b d two ready in
    omega (arith, two.few, one.few, c.requires.room)) in
    search found

pub step_some-returns-in-Err-between-clause-makes : goal.step_some-returns-in-Err-between-clause-makes
step_some-returns-in-Err-between-clause-makes g t' c =
    let gr = g.F.Forces.gravity c.args.forces.now in
    let e = option_copied c.args.course.now.expansion in
    let bin = c.args.split.now.bin in
    let t = c.args.split.now.tick in
    let P = ids_at c.args.set.now c.args.split.now.part.now in
    let F = ids_at c.args.set.now c.args.split.now.fast.now in
    let a = now c.args.set.now (g.F.Forces.gravity c.args.forces.now) (g.F.Forces.fixed c.args.forces.now) (g.F.Forces.state c.args.forces.now) (g.O.KickOut.faults c.args.out.now) (g.O.KickOut.yes c.args.out.now) (g.O.KickOut.took c.args.out.now) c.args.work.now in
    let b = now c.args.set.now (g.F.Forces.gravity c.ask_fast.new.forces) (g.F.Forces.fixed c.ask_fast.new.forces) (g.F.Forces.state c.ask_fast.new.forces) (g.O.KickOut.faults c.ask_fast.new.out) (g.O.KickOut.yes c.ask_fast.new.out) (g.O.KickOut.took c.ask_fast.new.out) c.args.work.now in
    let one = c.in-Ok.ensures.makes c.args.work.now bin t in
    let ready : IsReady c.args.course.now.setup.now c.args.course.now.total b = ready_made g.F.Forces.passes bin 0 t t (asks_fast F) c.in-Ok.quick c.args.course.now.setup.now c.args.course.now.total a b one c.requires.ready in
    let d = now c.kick_part.new.set (g.F.Forces.gravity c.ask_fast.new.forces) (g.F.Forces.fixed c.ask_fast.new.forces) (g.F.Forces.state c.ask_fast.new.forces) (g.O.KickOut.faults c.kick_part.new.out) (g.O.KickOut.yes c.kick_part.new.out) (g.O.KickOut.took c.kick_part.new.out) c.kick_part.new.work in
    let h : c.first_factor-h.result ≡ kick_factor e t (t + 2 ^ (bin - 1)) = c.first_factor-h.ensures.value in
    let two = (subst (λ x. Makes {T = Unit {0}} g.F.Forces.passes bin 1 t t (λ stop p. kick (rules (g.F.Forces.gravity c.ask_fast.new.forces) e) bin P F t x p) (Ok tt) b d) h (c.in-Ok-kick_part.ensures.makes bin)) in
    let ready2 : IsReady c.args.course.now.setup.now c.args.course.now.total d = ready_made g.F.Forces.passes bin 1 t t (first_kick (rules (g.F.Forces.gravity c.ask_fast.new.forces) e) bin P F t) tt c.args.course.now.setup.now c.args.course.now.total b d two ready in
    let k = now c.between.new.set (g.F.Forces.gravity c.between.new.forces) (g.F.Forces.fixed c.between.new.forces) (g.F.Forces.state c.between.new.forces) (g.O.KickOut.faults c.between.new.out) (g.O.KickOut.yes c.between.new.out) (g.O.KickOut.took c.between.new.out) c.between.new.work in
    ask_goes g.F.Forces.passes {T = Field} {U = Field} e bin c.args.split.now.part.now c.args.split.now.fast.now t c.in-Ok.quick (Err c.in-Err-between.e) a b k one
    (inner_halts g.F.Forces.passes {T = Unit {0}} {U = Field} {V = Field} e bin c.args.split.now.part.now c.args.split.now.fast.now t tt c.in-Err-between.e b d k c.requires.timely.some c.requires.fast.part two c.in-Err-between.ensures.makes)

pub step_some-close_some-requires-clause-ready : goal.step_some-close_some-requires-clause-ready
step_some-close_some-requires-clause-ready g t' c =
    let gr = g.F.Forces.gravity c.args.forces.now in
    let e = option_copied c.args.course.now.expansion in
    let bin = c.args.split.now.bin in
    let t = c.args.split.now.tick in
    let P = ids_at c.args.set.now c.args.split.now.part.now in
    let F = ids_at c.args.set.now c.args.split.now.fast.now in
    let a = now c.args.set.now (g.F.Forces.gravity c.args.forces.now) (g.F.Forces.fixed c.args.forces.now) (g.F.Forces.state c.args.forces.now) (g.O.KickOut.faults c.args.out.now) (g.O.KickOut.yes c.args.out.now) (g.O.KickOut.took c.args.out.now) c.args.work.now in
    let b = now c.args.set.now (g.F.Forces.gravity c.ask_fast.new.forces) (g.F.Forces.fixed c.ask_fast.new.forces) (g.F.Forces.state c.ask_fast.new.forces) (g.O.KickOut.faults c.ask_fast.new.out) (g.O.KickOut.yes c.ask_fast.new.out) (g.O.KickOut.took c.ask_fast.new.out) c.args.work.now in
    let one = c.in-Ok.ensures.makes c.args.work.now bin t in
    let ready : IsReady c.args.course.now.setup.now c.args.course.now.total b = ready_made g.F.Forces.passes bin 0 t t (asks_fast F) c.in-Ok.quick c.args.course.now.setup.now c.args.course.now.total a b one c.requires.ready in
    let d = now c.kick_part.new.set (g.F.Forces.gravity c.ask_fast.new.forces) (g.F.Forces.fixed c.ask_fast.new.forces) (g.F.Forces.state c.ask_fast.new.forces) (g.O.KickOut.faults c.kick_part.new.out) (g.O.KickOut.yes c.kick_part.new.out) (g.O.KickOut.took c.kick_part.new.out) c.kick_part.new.work in
    let h : c.first_factor-h.result ≡ kick_factor e t (t + 2 ^ (bin - 1)) = c.first_factor-h.ensures.value in
    let two = (subst (λ x. Makes {T = Unit {0}} g.F.Forces.passes bin 1 t t (λ stop p. kick (rules (g.F.Forces.gravity c.ask_fast.new.forces) e) bin P F t x p) (Ok tt) b d) h (c.in-Ok-kick_part.ensures.makes bin)) in
    let ready2 : IsReady c.args.course.now.setup.now c.args.course.now.total d = ready_made g.F.Forces.passes bin 1 t t (first_kick (rules (g.F.Forces.gravity c.ask_fast.new.forces) e) bin P F t) tt c.args.course.now.setup.now c.args.course.now.total b d two ready in
    let k = now c.between.new.set (g.F.Forces.gravity c.between.new.forces) (g.F.Forces.fixed c.between.new.forces) (g.F.Forces.state c.between.new.forces) (g.O.KickOut.faults c.between.new.out) (g.O.KickOut.yes c.between.new.out) (g.O.KickOut.took c.between.new.out) c.between.new.work in
    let three = c.in-Ok-between.ensures.makes in
    let kept = conserved_on c.args.set.now c.kick_part.new.set c.between.new.set two.conserved three.conserved in
    ready_made g.F.Forces.passes bin (2 ^ (bin + 1) - 4) t (t + 2 ^ bin) (inner (rules (g.F.Forces.gravity c.ask_fast.new.forces) e) bin (ids_at c.kick_part.new.set c.args.split.now.fast.now) t) c.in-Ok-between.quick c.args.course.now.setup.now c.args.course.now.total d k three ready2

pub step_some-close_some-requires-clause-part : goal.step_some-close_some-requires-clause-part
step_some-close_some-requires-clause-part g t' c =
    let gr = g.F.Forces.gravity c.args.forces.now in
    let e = option_copied c.args.course.now.expansion in
    let bin = c.args.split.now.bin in
    let t = c.args.split.now.tick in
    let P = ids_at c.args.set.now c.args.split.now.part.now in
    let F = ids_at c.args.set.now c.args.split.now.fast.now in
    let a = now c.args.set.now (g.F.Forces.gravity c.args.forces.now) (g.F.Forces.fixed c.args.forces.now) (g.F.Forces.state c.args.forces.now) (g.O.KickOut.faults c.args.out.now) (g.O.KickOut.yes c.args.out.now) (g.O.KickOut.took c.args.out.now) c.args.work.now in
    let b = now c.args.set.now (g.F.Forces.gravity c.ask_fast.new.forces) (g.F.Forces.fixed c.ask_fast.new.forces) (g.F.Forces.state c.ask_fast.new.forces) (g.O.KickOut.faults c.ask_fast.new.out) (g.O.KickOut.yes c.ask_fast.new.out) (g.O.KickOut.took c.ask_fast.new.out) c.args.work.now in
    let one = c.in-Ok.ensures.makes c.args.work.now bin t in
    let ready : IsReady c.args.course.now.setup.now c.args.course.now.total b = ready_made g.F.Forces.passes bin 0 t t (asks_fast F) c.in-Ok.quick c.args.course.now.setup.now c.args.course.now.total a b one c.requires.ready in
    let d = now c.kick_part.new.set (g.F.Forces.gravity c.ask_fast.new.forces) (g.F.Forces.fixed c.ask_fast.new.forces) (g.F.Forces.state c.ask_fast.new.forces) (g.O.KickOut.faults c.kick_part.new.out) (g.O.KickOut.yes c.kick_part.new.out) (g.O.KickOut.took c.kick_part.new.out) c.kick_part.new.work in
    let h : c.first_factor-h.result ≡ kick_factor e t (t + 2 ^ (bin - 1)) = c.first_factor-h.ensures.value in
    let two = (subst (λ x. Makes {T = Unit {0}} g.F.Forces.passes bin 1 t t (λ stop p. kick (rules (g.F.Forces.gravity c.ask_fast.new.forces) e) bin P F t x p) (Ok tt) b d) h (c.in-Ok-kick_part.ensures.makes bin)) in
    let ready2 : IsReady c.args.course.now.setup.now c.args.course.now.total d = ready_made g.F.Forces.passes bin 1 t t (first_kick (rules (g.F.Forces.gravity c.ask_fast.new.forces) e) bin P F t) tt c.args.course.now.setup.now c.args.course.now.total b d two ready in
    let k = now c.between.new.set (g.F.Forces.gravity c.between.new.forces) (g.F.Forces.fixed c.between.new.forces) (g.F.Forces.state c.between.new.forces) (g.O.KickOut.faults c.between.new.out) (g.O.KickOut.yes c.between.new.out) (g.O.KickOut.took c.between.new.out) c.between.new.work in
    let three = c.in-Ok-between.ensures.makes in
    let kept = conserved_on c.args.set.now c.kick_part.new.set c.between.new.set two.conserved three.conserved in
    ascending_on c.args.set.now c.between.new.set c.args.split.now.part.now kept c.requires.known.places

pub step_some-close_some-requires-clause-fast : goal.step_some-close_some-requires-clause-fast
step_some-close_some-requires-clause-fast g t' c =
    let gr = g.F.Forces.gravity c.args.forces.now in
    let e = option_copied c.args.course.now.expansion in
    let bin = c.args.split.now.bin in
    let t = c.args.split.now.tick in
    let P = ids_at c.args.set.now c.args.split.now.part.now in
    let F = ids_at c.args.set.now c.args.split.now.fast.now in
    let a = now c.args.set.now (g.F.Forces.gravity c.args.forces.now) (g.F.Forces.fixed c.args.forces.now) (g.F.Forces.state c.args.forces.now) (g.O.KickOut.faults c.args.out.now) (g.O.KickOut.yes c.args.out.now) (g.O.KickOut.took c.args.out.now) c.args.work.now in
    let b = now c.args.set.now (g.F.Forces.gravity c.ask_fast.new.forces) (g.F.Forces.fixed c.ask_fast.new.forces) (g.F.Forces.state c.ask_fast.new.forces) (g.O.KickOut.faults c.ask_fast.new.out) (g.O.KickOut.yes c.ask_fast.new.out) (g.O.KickOut.took c.ask_fast.new.out) c.args.work.now in
    let one = c.in-Ok.ensures.makes c.args.work.now bin t in
    let ready : IsReady c.args.course.now.setup.now c.args.course.now.total b = ready_made g.F.Forces.passes bin 0 t t (asks_fast F) c.in-Ok.quick c.args.course.now.setup.now c.args.course.now.total a b one c.requires.ready in
    let d = now c.kick_part.new.set (g.F.Forces.gravity c.ask_fast.new.forces) (g.F.Forces.fixed c.ask_fast.new.forces) (g.F.Forces.state c.ask_fast.new.forces) (g.O.KickOut.faults c.kick_part.new.out) (g.O.KickOut.yes c.kick_part.new.out) (g.O.KickOut.took c.kick_part.new.out) c.kick_part.new.work in
    let h : c.first_factor-h.result ≡ kick_factor e t (t + 2 ^ (bin - 1)) = c.first_factor-h.ensures.value in
    let two = (subst (λ x. Makes {T = Unit {0}} g.F.Forces.passes bin 1 t t (λ stop p. kick (rules (g.F.Forces.gravity c.ask_fast.new.forces) e) bin P F t x p) (Ok tt) b d) h (c.in-Ok-kick_part.ensures.makes bin)) in
    let ready2 : IsReady c.args.course.now.setup.now c.args.course.now.total d = ready_made g.F.Forces.passes bin 1 t t (first_kick (rules (g.F.Forces.gravity c.ask_fast.new.forces) e) bin P F t) tt c.args.course.now.setup.now c.args.course.now.total b d two ready in
    let k = now c.between.new.set (g.F.Forces.gravity c.between.new.forces) (g.F.Forces.fixed c.between.new.forces) (g.F.Forces.state c.between.new.forces) (g.O.KickOut.faults c.between.new.out) (g.O.KickOut.yes c.between.new.out) (g.O.KickOut.took c.between.new.out) c.between.new.work in
    let three = c.in-Ok-between.ensures.makes in
    let kept = conserved_on c.args.set.now c.kick_part.new.set c.between.new.set two.conserved three.conserved in
    of_on c.args.set.now c.between.new.set c.args.split.now.part.now c.args.split.now.fast.now kept c.requires.fast

pub step_some-close_some-requires-clause-room : goal.step_some-close_some-requires-clause-room
step_some-close_some-requires-clause-room g t' c =
    let gr = g.F.Forces.gravity c.args.forces.now in
    let e = option_copied c.args.course.now.expansion in
    let bin = c.args.split.now.bin in
    let t = c.args.split.now.tick in
    let P = ids_at c.args.set.now c.args.split.now.part.now in
    let F = ids_at c.args.set.now c.args.split.now.fast.now in
    let a = now c.args.set.now (g.F.Forces.gravity c.args.forces.now) (g.F.Forces.fixed c.args.forces.now) (g.F.Forces.state c.args.forces.now) (g.O.KickOut.faults c.args.out.now) (g.O.KickOut.yes c.args.out.now) (g.O.KickOut.took c.args.out.now) c.args.work.now in
    let b = now c.args.set.now (g.F.Forces.gravity c.ask_fast.new.forces) (g.F.Forces.fixed c.ask_fast.new.forces) (g.F.Forces.state c.ask_fast.new.forces) (g.O.KickOut.faults c.ask_fast.new.out) (g.O.KickOut.yes c.ask_fast.new.out) (g.O.KickOut.took c.ask_fast.new.out) c.args.work.now in
    let one = c.in-Ok.ensures.makes c.args.work.now bin t in
    let ready : IsReady c.args.course.now.setup.now c.args.course.now.total b = ready_made g.F.Forces.passes bin 0 t t (asks_fast F) c.in-Ok.quick c.args.course.now.setup.now c.args.course.now.total a b one c.requires.ready in
    let d = now c.kick_part.new.set (g.F.Forces.gravity c.ask_fast.new.forces) (g.F.Forces.fixed c.ask_fast.new.forces) (g.F.Forces.state c.ask_fast.new.forces) (g.O.KickOut.faults c.kick_part.new.out) (g.O.KickOut.yes c.kick_part.new.out) (g.O.KickOut.took c.kick_part.new.out) c.kick_part.new.work in
    let h : c.first_factor-h.result ≡ kick_factor e t (t + 2 ^ (bin - 1)) = c.first_factor-h.ensures.value in
    let two = (subst (λ x. Makes {T = Unit {0}} g.F.Forces.passes bin 1 t t (λ stop p. kick (rules (g.F.Forces.gravity c.ask_fast.new.forces) e) bin P F t x p) (Ok tt) b d) h (c.in-Ok-kick_part.ensures.makes bin)) in
    let ready2 : IsReady c.args.course.now.setup.now c.args.course.now.total d = ready_made g.F.Forces.passes bin 1 t t (first_kick (rules (g.F.Forces.gravity c.ask_fast.new.forces) e) bin P F t) tt c.args.course.now.setup.now c.args.course.now.total b d two ready in
    let k = now c.between.new.set (g.F.Forces.gravity c.between.new.forces) (g.F.Forces.fixed c.between.new.forces) (g.F.Forces.state c.between.new.forces) (g.O.KickOut.faults c.between.new.out) (g.O.KickOut.yes c.between.new.out) (g.O.KickOut.took c.between.new.out) c.between.new.work in
    let three = c.in-Ok-between.ensures.makes in
    let kept = conserved_on c.args.set.now c.kick_part.new.set c.between.new.set two.conserved three.conserved in
    room_after bin c.args.work.now.count.kicks c.kick_part.new.work.count.kicks c.between.new.work.count.kicks c.requires.timely.some c.requires.room two.few three.few

pub step_some-returns-clause-forces : goal.step_some-returns-clause-forces
step_some-returns-clause-forces g t' c =
    let gr = g.F.Forces.gravity c.args.forces.now in
    let e = option_copied c.args.course.now.expansion in
    let bin = c.args.split.now.bin in
    let t = c.args.split.now.tick in
    let P = ids_at c.args.set.now c.args.split.now.part.now in
    let F = ids_at c.args.set.now c.args.split.now.fast.now in
    let a = now c.args.set.now (g.F.Forces.gravity c.args.forces.now) (g.F.Forces.fixed c.args.forces.now) (g.F.Forces.state c.args.forces.now) (g.O.KickOut.faults c.args.out.now) (g.O.KickOut.yes c.args.out.now) (g.O.KickOut.took c.args.out.now) c.args.work.now in
    let b = now c.args.set.now (g.F.Forces.gravity c.ask_fast.new.forces) (g.F.Forces.fixed c.ask_fast.new.forces) (g.F.Forces.state c.ask_fast.new.forces) (g.O.KickOut.faults c.ask_fast.new.out) (g.O.KickOut.yes c.ask_fast.new.out) (g.O.KickOut.took c.ask_fast.new.out) c.args.work.now in
    let one = c.in-Ok.ensures.makes c.args.work.now bin t in
    let ready : IsReady c.args.course.now.setup.now c.args.course.now.total b = ready_made g.F.Forces.passes bin 0 t t (asks_fast F) c.in-Ok.quick c.args.course.now.setup.now c.args.course.now.total a b one c.requires.ready in
    let d = now c.kick_part.new.set (g.F.Forces.gravity c.ask_fast.new.forces) (g.F.Forces.fixed c.ask_fast.new.forces) (g.F.Forces.state c.ask_fast.new.forces) (g.O.KickOut.faults c.kick_part.new.out) (g.O.KickOut.yes c.kick_part.new.out) (g.O.KickOut.took c.kick_part.new.out) c.kick_part.new.work in
    let h : c.first_factor-h.result ≡ kick_factor e t (t + 2 ^ (bin - 1)) = c.first_factor-h.ensures.value in
    let two = (subst (λ x. Makes {T = Unit {0}} g.F.Forces.passes bin 1 t t (λ stop p. kick (rules (g.F.Forces.gravity c.ask_fast.new.forces) e) bin P F t x p) (Ok tt) b d) h (c.in-Ok-kick_part.ensures.makes bin)) in
    let ready2 : IsReady c.args.course.now.setup.now c.args.course.now.total d = ready_made g.F.Forces.passes bin 1 t t (first_kick (rules (g.F.Forces.gravity c.ask_fast.new.forces) e) bin P F t) tt c.args.course.now.setup.now c.args.course.now.total b d two ready in
    let k = now c.between.new.set (g.F.Forces.gravity c.between.new.forces) (g.F.Forces.fixed c.between.new.forces) (g.F.Forces.state c.between.new.forces) (g.O.KickOut.faults c.between.new.out) (g.O.KickOut.yes c.between.new.out) (g.O.KickOut.took c.between.new.out) c.between.new.work in
    let three = c.in-Ok-between.ensures.makes in
    let kept = conserved_on c.args.set.now c.kick_part.new.set c.between.new.set two.conserved three.conserved in
    if_forces c.close_some.result (g.F.Forces.gravity c.between.new.forces) gr (only c.close_some.new.set (ids_at c.close_some.new.set c.args.split.now.part.now)) (three.gravity ∙ two.gravity ∙ one.gravity) c.close_some.ensures.forces

pub step_some-returns-clause-makes : goal.step_some-returns-clause-makes
step_some-returns-clause-makes g t' c =
    let gr = g.F.Forces.gravity c.args.forces.now in
    let e = option_copied c.args.course.now.expansion in
    let bin = c.args.split.now.bin in
    let t = c.args.split.now.tick in
    let P = ids_at c.args.set.now c.args.split.now.part.now in
    let F = ids_at c.args.set.now c.args.split.now.fast.now in
    let a = now c.args.set.now (g.F.Forces.gravity c.args.forces.now) (g.F.Forces.fixed c.args.forces.now) (g.F.Forces.state c.args.forces.now) (g.O.KickOut.faults c.args.out.now) (g.O.KickOut.yes c.args.out.now) (g.O.KickOut.took c.args.out.now) c.args.work.now in
    let b = now c.args.set.now (g.F.Forces.gravity c.ask_fast.new.forces) (g.F.Forces.fixed c.ask_fast.new.forces) (g.F.Forces.state c.ask_fast.new.forces) (g.O.KickOut.faults c.ask_fast.new.out) (g.O.KickOut.yes c.ask_fast.new.out) (g.O.KickOut.took c.ask_fast.new.out) c.args.work.now in
    let one = c.in-Ok.ensures.makes c.args.work.now bin t in
    let ready : IsReady c.args.course.now.setup.now c.args.course.now.total b = ready_made g.F.Forces.passes bin 0 t t (asks_fast F) c.in-Ok.quick c.args.course.now.setup.now c.args.course.now.total a b one c.requires.ready in
    let d = now c.kick_part.new.set (g.F.Forces.gravity c.ask_fast.new.forces) (g.F.Forces.fixed c.ask_fast.new.forces) (g.F.Forces.state c.ask_fast.new.forces) (g.O.KickOut.faults c.kick_part.new.out) (g.O.KickOut.yes c.kick_part.new.out) (g.O.KickOut.took c.kick_part.new.out) c.kick_part.new.work in
    let h : c.first_factor-h.result ≡ kick_factor e t (t + 2 ^ (bin - 1)) = c.first_factor-h.ensures.value in
    let two = (subst (λ x. Makes {T = Unit {0}} g.F.Forces.passes bin 1 t t (λ stop p. kick (rules (g.F.Forces.gravity c.ask_fast.new.forces) e) bin P F t x p) (Ok tt) b d) h (c.in-Ok-kick_part.ensures.makes bin)) in
    let ready2 : IsReady c.args.course.now.setup.now c.args.course.now.total d = ready_made g.F.Forces.passes bin 1 t t (first_kick (rules (g.F.Forces.gravity c.ask_fast.new.forces) e) bin P F t) tt c.args.course.now.setup.now c.args.course.now.total b d two ready in
    let k = now c.between.new.set (g.F.Forces.gravity c.between.new.forces) (g.F.Forces.fixed c.between.new.forces) (g.F.Forces.state c.between.new.forces) (g.O.KickOut.faults c.between.new.out) (g.O.KickOut.yes c.between.new.out) (g.O.KickOut.took c.between.new.out) c.between.new.work in
    let three = c.in-Ok-between.ensures.makes in
    let kept = conserved_on c.args.set.now c.kick_part.new.set c.between.new.set two.conserved three.conserved in
    let z = now c.close_some.new.set (g.F.Forces.gravity c.close_some.new.forces) (g.F.Forces.fixed c.close_some.new.forces) (g.F.Forces.state c.close_some.new.forces) (g.O.KickOut.faults c.close_some.new.out) (g.O.KickOut.yes c.close_some.new.out) (g.O.KickOut.took c.close_some.new.out) c.close_some.new.work in
    ask_goes g.F.Forces.passes {T = Field} {U = Field} e bin c.args.split.now.part.now c.args.split.now.fast.now t c.in-Ok.quick c.close_some.result a b z one
    (step_ends g.F.Forces.passes {T = Unit {0}} {U = Field} {V = Field} e bin c.args.split.now.part.now c.args.split.now.fast.now t tt c.in-Ok-between.quick c.close_some.result b d k z c.requires.timely.some two three (c.close_some.ensures.makes bin))

pub evolve-fast_places-requires-clause-equal : goal.evolve-fast_places-requires-clause-equal
evolve-fast_places-requires-clause-equal g t' c =
    let gr = g.F.Forces.gravity c.args.forces.now in
    let e = option_copied c.args.course.now.expansion in
    let bin = c.args.step.now.bin in
    let t = c.args.step.now.tick in
    forces_length gr (only c.args.set.now (ids_at c.args.set.now c.args.step.now.part.now)) c.args.known c.requires.known.forces ∙ length_only_at c.args.set.now c.args.step.now.part.now c.requires.ready.bodies.valid.ascending c.requires.known.places

pub evolve-returns-in-Err-clause-makes : goal.evolve-returns-in-Err-clause-makes
evolve-returns-in-Err-clause-makes g t' c =
    let gr = g.F.Forces.gravity c.args.forces.now in
    let e = option_copied c.args.course.now.expansion in
    let bin = c.args.step.now.bin in
    let t = c.args.step.now.tick in
    let P = ids_at c.args.set.now c.args.step.now.part.now in
    let a = now c.args.set.now (g.F.Forces.gravity c.args.forces.now) (g.F.Forces.fixed c.args.forces.now) (g.F.Forces.state c.args.forces.now) (g.O.KickOut.faults c.args.out.now) (g.O.KickOut.yes c.args.out.now) (g.O.KickOut.took c.args.out.now) c.args.work.now in
    evolve_wants g.F.Forces.passes {T = Field} (rules gr e) bin P t a a (leads_any (most_of bin) a c.requires.ready.bodies) refl refl

pub evolve-returns-then-stops-clause-makes : goal.evolve-returns-then-stops-clause-makes
evolve-returns-then-stops-clause-makes g t' c =
    let gr = g.F.Forces.gravity c.args.forces.now in
    let e = option_copied c.args.course.now.expansion in
    let bin = c.args.step.now.bin in
    let t = c.args.step.now.tick in
    let P = ids_at c.args.set.now c.args.step.now.part.now in
    let a = now c.args.set.now (g.F.Forces.gravity c.args.forces.now) (g.F.Forces.fixed c.args.forces.now) (g.F.Forces.state c.args.forces.now) (g.O.KickOut.faults c.args.out.now) (g.O.KickOut.yes c.args.out.now) (g.O.KickOut.took c.args.out.now) c.args.work.now in
    let fast : c.as_slice-fast.result.now ≡ c.in-Ok.found.items = c.as_slice-fast.ensures.value in
    let found : AreFastOf c.args.course.now.setup.now bin c.args.set.now c.args.step.now.part.now c.args.known c.as_slice-fast.result.now = subst (AreFastOf c.args.course.now.setup.now bin c.args.set.now c.args.step.now.part.now c.args.known) (sym fast) c.in-Ok.ensures in
    let F = ids_at c.args.set.now c.as_slice-fast.result.now in
    let is = found.fast gr c.requires.ready.setup c.requires.known.forces in
    let part = found.of gr c.requires.ready.setup c.requires.known.forces in
    let test : (bin == gr.setup.low_bin && not (is_empty F)) ≡ c.stops.result = test_is bin gr.setup c.args.course.now.setup.now c.args.set.now c.as_slice-fast.result.now c.stops.result c.requires.ready.setup c.stops.ensures in
    evolve_refused g.F.Forces.passes {T = Field} (rules gr e) bin P F t c.first_id.result a c.requires.timely.some (conserved_same c.args.set.now c.requires.ready.bodies) is (test ∙ c.if-stops.true) c.first_id.ensures

pub evolve-returns-in-Err-tell_part-clause-makes : goal.evolve-returns-in-Err-tell_part-clause-makes
evolve-returns-in-Err-tell_part-clause-makes g t' c =
    let gr = g.F.Forces.gravity c.args.forces.now in
    let e = option_copied c.args.course.now.expansion in
    let bin = c.args.step.now.bin in
    let t = c.args.step.now.tick in
    let P = ids_at c.args.set.now c.args.step.now.part.now in
    let a = now c.args.set.now (g.F.Forces.gravity c.args.forces.now) (g.F.Forces.fixed c.args.forces.now) (g.F.Forces.state c.args.forces.now) (g.O.KickOut.faults c.args.out.now) (g.O.KickOut.yes c.args.out.now) (g.O.KickOut.took c.args.out.now) c.args.work.now in
    let fast : c.as_slice-fast.result.now ≡ c.in-Ok.found.items = c.as_slice-fast.ensures.value in
    let found : AreFastOf c.args.course.now.setup.now bin c.args.set.now c.args.step.now.part.now c.args.known c.as_slice-fast.result.now = subst (AreFastOf c.args.course.now.setup.now bin c.args.set.now c.args.step.now.part.now c.args.known) (sym fast) c.in-Ok.ensures in
    let F = ids_at c.args.set.now c.as_slice-fast.result.now in
    let is = found.fast gr c.requires.ready.setup c.requires.known.forces in
    let part = found.of gr c.requires.ready.setup c.requires.known.forces in
    let test : (bin == gr.setup.low_bin && not (is_empty F)) ≡ c.stops.result = test_is bin gr.setup c.args.course.now.setup.now c.args.set.now c.as_slice-fast.result.now c.stops.result c.requires.ready.setup c.stops.ensures in
    let b = now c.args.set.now (g.F.Forces.gravity c.args.forces.now) (g.F.Forces.fixed c.args.forces.now) (g.F.Forces.state c.args.forces.now) (g.O.KickOut.faults c.tell_part.new.out) (g.O.KickOut.yes c.tell_part.new.out) (g.O.KickOut.took c.tell_part.new.out) c.args.work.now in
    tell_halts g.F.Forces.passes {T = Unit {0}} {U = Field} (rules gr e) bin P F t c.in-Err-tell_part.e a b c.requires.timely.some part.part is (test ∙ c.if-stops.false) (c.in-Err-tell_part.ensures.makes gr (g.F.Forces.fixed c.args.forces.now) (g.F.Forces.state c.args.forces.now) c.args.work.now bin t)

pub evolve-returns-then-fast-part-clause-makes : goal.evolve-returns-then-fast-part-clause-makes
evolve-returns-then-fast-part-clause-makes g t' c =
    let gr = g.F.Forces.gravity c.args.forces.now in
    let e = option_copied c.args.course.now.expansion in
    let bin = c.args.step.now.bin in
    let t = c.args.step.now.tick in
    let P = ids_at c.args.set.now c.args.step.now.part.now in
    let a = now c.args.set.now (g.F.Forces.gravity c.args.forces.now) (g.F.Forces.fixed c.args.forces.now) (g.F.Forces.state c.args.forces.now) (g.O.KickOut.faults c.args.out.now) (g.O.KickOut.yes c.args.out.now) (g.O.KickOut.took c.args.out.now) c.args.work.now in
    let fast : c.as_slice-fast.result.now ≡ c.in-Ok.found.items = c.as_slice-fast.ensures.value in
    let found : AreFastOf c.args.course.now.setup.now bin c.args.set.now c.args.step.now.part.now c.args.known c.as_slice-fast.result.now = subst (AreFastOf c.args.course.now.setup.now bin c.args.set.now c.args.step.now.part.now c.args.known) (sym fast) c.in-Ok.ensures in
    let F = ids_at c.args.set.now c.as_slice-fast.result.now in
    let is = found.fast gr c.requires.ready.setup c.requires.known.forces in
    let part = found.of gr c.requires.ready.setup c.requires.known.forces in
    let test : (bin == gr.setup.low_bin && not (is_empty F)) ≡ c.stops.result = test_is bin gr.setup c.args.course.now.setup.now c.args.set.now c.as_slice-fast.result.now c.stops.result c.requires.ready.setup c.stops.ensures in
    let b = now c.args.set.now (g.F.Forces.gravity c.args.forces.now) (g.F.Forces.fixed c.args.forces.now) (g.F.Forces.state c.args.forces.now) (g.O.KickOut.faults c.tell_part.new.out) (g.O.KickOut.yes c.tell_part.new.out) (g.O.KickOut.took c.tell_part.new.out) c.args.work.now in
    let z = now c.step_all.new.set (g.F.Forces.gravity c.step_all.new.forces) (g.F.Forces.fixed c.step_all.new.forces) (g.F.Forces.state c.step_all.new.forces) (g.O.KickOut.faults c.step_all.new.out) (g.O.KickOut.yes c.step_all.new.out) (g.O.KickOut.took c.step_all.new.out) c.step_all.new.work in
    evolve_all g.F.Forces.passes {T = Unit {0}} {U = Field} (rules gr e) bin P F t tt c.step_all.result a b z c.requires.timely.some is (test ∙ c.if-stops.false) (same_lengths c.args.set.now c.as_slice-fast.result.now c.args.step.now.part.now c.if-fast-part.true) (c.in-Ok-tell_part.ensures.makes gr (g.F.Forces.fixed c.args.forces.now) (g.F.Forces.state c.args.forces.now) c.args.work.now bin t) c.step_all.ensures.makes

pub evolve-returns-clause-makes : goal.evolve-returns-clause-makes
evolve-returns-clause-makes g t' c =
    let gr = g.F.Forces.gravity c.args.forces.now in
    let e = option_copied c.args.course.now.expansion in
    let bin = c.args.step.now.bin in
    let t = c.args.step.now.tick in
    let P = ids_at c.args.set.now c.args.step.now.part.now in
    let a = now c.args.set.now (g.F.Forces.gravity c.args.forces.now) (g.F.Forces.fixed c.args.forces.now) (g.F.Forces.state c.args.forces.now) (g.O.KickOut.faults c.args.out.now) (g.O.KickOut.yes c.args.out.now) (g.O.KickOut.took c.args.out.now) c.args.work.now in
    let fast : c.as_slice-fast.result.now ≡ c.in-Ok.found.items = c.as_slice-fast.ensures.value in
    let found : AreFastOf c.args.course.now.setup.now bin c.args.set.now c.args.step.now.part.now c.args.known c.as_slice-fast.result.now = subst (AreFastOf c.args.course.now.setup.now bin c.args.set.now c.args.step.now.part.now c.args.known) (sym fast) c.in-Ok.ensures in
    let F = ids_at c.args.set.now c.as_slice-fast.result.now in
    let is = found.fast gr c.requires.ready.setup c.requires.known.forces in
    let part = found.of gr c.requires.ready.setup c.requires.known.forces in
    let test : (bin == gr.setup.low_bin && not (is_empty F)) ≡ c.stops.result = test_is bin gr.setup c.args.course.now.setup.now c.args.set.now c.as_slice-fast.result.now c.stops.result c.requires.ready.setup c.stops.ensures in
    let b = now c.args.set.now (g.F.Forces.gravity c.args.forces.now) (g.F.Forces.fixed c.args.forces.now) (g.F.Forces.state c.args.forces.now) (g.O.KickOut.faults c.tell_part.new.out) (g.O.KickOut.yes c.tell_part.new.out) (g.O.KickOut.took c.tell_part.new.out) c.args.work.now in
    let z = now c.step_some.new.set (g.F.Forces.gravity c.step_some.new.forces) (g.F.Forces.fixed c.step_some.new.forces) (g.F.Forces.state c.step_some.new.forces) (g.O.KickOut.faults c.step_some.new.out) (g.O.KickOut.yes c.step_some.new.out) (g.O.KickOut.took c.step_some.new.out) c.step_some.new.work in
    evolve_some g.F.Forces.passes {T = Unit {0}} {U = Field} (rules gr e) bin P F t tt c.step_some.result a b z c.requires.timely.some is (test ∙ c.if-stops.false) (other_lengths c.args.set.now c.as_slice-fast.result.now c.args.step.now.part.now c.if-fast-part.false) (c.in-Ok-tell_part.ensures.makes gr (g.F.Forces.fixed c.args.forces.now) (g.F.Forces.state c.args.forces.now) c.args.work.now bin t) c.step_some.ensures.makes
