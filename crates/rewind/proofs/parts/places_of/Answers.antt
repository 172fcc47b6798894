use Rattle.std.proofs.Common.{◌≡◌, Result, Ok, Err, ap, sym, ◌∙◌, subst}
use Rattle.std.specs.Prelude.{IfOk}
use Rattle.kick_drift.specs.Parts.{ids_at}
use Rattle.step_engine.specs.Stands.{AreOf}
use Rattle.rewind.proofs.Placed.{placed, placed_are, part_rises}
use Rattle.rewind.proofs.parts.places_of.Goals as goal

if_mapped : {T E : Type 0} (r : Result T E) (P Q : T → Type 0) → ((x : T) → P x → Q x) → IfOk r P → IfOk r Q
if_mapped (Ok x) P Q f h = f x h
if_mapped (Err e) P Q f h = tt

pub returns-clause-ids : goal.returns-clause-ids
returns-clause-ids c =
    let B = c.args.set.now in
    let are = placed_are B c.args.part.now c.args.ids.now c.requires.part (part_rises B c.args.part.now c.ids_ascend.ensures c.requires.part) c.requires.ascending c.requires.of in
    if_mapped c.places_with.result (λ v. v.items ≡ placed B c.args.ids.now c.args.part.now) (λ v. ids_at B v.items ≡ c.args.ids.now) (λ v e. ap (ids_at B) e ∙ are.0) c.places_with.ensures

pub returns-clause-of : goal.returns-clause-of
returns-clause-of c =
    let B = c.args.set.now in
    let are = placed_are B c.args.part.now c.args.ids.now c.requires.part (part_rises B c.args.part.now c.ids_ascend.ensures c.requires.part) c.requires.ascending c.requires.of in
    if_mapped c.places_with.result (λ v. v.items ≡ placed B c.args.ids.now c.args.part.now) (λ v. AreOf B c.args.part.now v.items) (λ v e. subst (AreOf B c.args.part.now) (sym e) are.1) c.places_with.ensures
