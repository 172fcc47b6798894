use Rattle.std.proofs.Common.{◌≡◌, ◌<◌, ◌≤◌, ℕ, List, Result, Ok, Err, length, get_or, ap, sym, ◌∙◌, subst}
use Rattle.std.specs.Prelude.{IfOk}
use Rattle.fixed_point.specs.declared.V3.{V3}
use Rattle.nbody_model.specs.Bodies.{BodyData, only}
use Rattle.nbody_model.specs.Fields.{FieldData}
use Rattle.kick_drift.specs.Parts.{ids_at}
use Rattle.time_bins.specs.Parts.{AreOfFast}
use Rattle.model_laws.proofs.Kept.{only_bodies}
use Rattle.step_engine.specs.Stands.{AreFastOf}
use Rattle.step_engine.proofs.Picks.{length_only_at}
use Rattle.step_engine.proofs.FastParts.{fast_of, through}
use Rattle.step_engine.proofs.parts.fast_places.Goals as goal

pub fast_part-requires-clause-few : goal.fast_part-requires-clause-few
fast_part-requires-clause-few c =
    subst (λ (C : List BodyData). length C ≤ 1048576) (sym (c.deref.ensures.value ∙ c.in_ok-gather.ensures)) (only_bodies (ids_at c.args.set.now c.args.part.now) c.args.set.now c.requires.bodies).valid.few

pub fast_part-requires-clause-equal : goal.fast_part-requires-clause-equal
fast_part-requires-clause-equal c =
    ap length (c.deref-2.ensures.value ∙ ap (λ (f : FieldData). f.forces) c.known.view_is) ∙ c.requires.equal ∙
    sym (ap length (c.deref.ensures.value ∙ c.in_ok-gather.ensures) ∙ length_only_at c.args.set.now c.args.part.now c.requires.bodies.valid.ascending c.requires.part)

pub placed-requires : goal.placed-requires
placed-requires c =
    subst (λ (xs : List ℕ). (k : ℕ) → k < length xs → get_or xs k 0 < length c.args.part.now) (sym c.deref-3.ensures.value)
    (λ k lt. subst (λ n. get_or c.in_ok-chosen.chosen.items k 0 < n) (ap length (c.deref.ensures.value ∙ c.in_ok-gather.ensures) ∙ length_only_at c.args.set.now c.args.part.now c.requires.bodies.valid.ascending c.requires.part) (c.in_ok-chosen.ensures.within k lt))

if_mapped : {T E : Type 0} (r : Result T E) (P Q : T → Type 0) → ((x : T) → P x → Q x) → IfOk r P → IfOk r Q
if_mapped (Ok x) P Q f h = f x h
if_mapped (Err e) P Q f h = tt

pub returns : goal.returns
returns c =
    let s = c.args.setup.now in
    let bin = c.args.bin in
    let B = c.args.set.now in
    let part = c.args.part.now in
    let f = c.args.known.now in
    let chosen = c.in_ok-chosen.chosen.items in
    let bodies : c.deref.result.now ≡ only B (ids_at B part) = c.deref.ensures.value ∙ c.in_ok-gather.ensures in
    let found : c.deref-2.result.now ≡ f.forces = c.deref-2.ensures.value ∙ ap (λ (f : FieldData). f.forces) c.known.view_is in
    let fast : AreFastOf s bin B part f (through part chosen) =
    fast_of s bin B part chosen f c.requires.bodies c.requires.part c.in_ok-chosen.ensures.ascending (λ k lt. subst (λ n. get_or chosen k 0 < n) (ap length bodies) (c.in_ok-chosen.ensures.within k lt))
    (subst (λ (fs : List V3). AreOfFast s bin (only B (ids_at B part)) fs chosen) found (subst (λ C. AreOfFast s bin C c.deref-2.result.now chosen) bodies c.in_ok-chosen.ensures.fast)) in
    if_mapped c.placed.result (λ v. v.items ≡ through part c.deref-3.result.now) (λ v. AreFastOf s bin B part f v.items)
    (λ v e. subst (AreFastOf s bin B part f) (sym (e ∙ ap (through part) c.deref-3.ensures.value)) fast) c.placed.ensures
