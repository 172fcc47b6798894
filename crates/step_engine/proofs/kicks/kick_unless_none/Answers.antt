use Rattle.std.proofs.Common.{◌≡◌, ◌≢◌, ℕ, cond, List, None, Result, Ok, Err, ap, ◌∙◌, subst}
use Rattle.fixed_point.specs.declared.V3.{V3}
use Rattle.std.specs.Prelude.{IfErr}
use Rattle.std.proofs.lemmas.Bool.{ne_eqb}
use Rattle.nbody_model.specs.Bodies.{BodyData, only}
use Rattle.nbody_model.specs.Fields.{FieldData}
use Rattle.nbody_model.specs.Steps.{first_out}
use Rattle.kick_drift.specs.declared.kicks.KickErr.{KickErr}
use Rattle.kick_drift.specs.declared.kicks.KickErr.TheVariants.{MomRange}
use Rattle.kick_drift.specs.Parts.{IsRefusal, after_kick, ids_at}
use Rattle.step_engine.specs.Stands.{IsRefusedBy, out_after}
use Rattle.step_engine.proofs.kicks.kick_unless_none.Goals as goal

refused_by : (h : ℕ) (P : List ℕ) (C : List BodyData) (r : Result (Unit {0}) KickErr) → h ≢ 0 → IfErr r (IsRefusal (only C P)) → IfErr r (IsRefusedBy (out_after h P C))
refused_by h P C (Ok x) some e = tt
refused_by h P C (Err (MomRange id axis)) some e = ap (λ t. cond t None (first_out (only C P))) (ne_eqb h 0 some) ∙ e

refused_on : (h : ℕ) (whole fast : List ℕ) (f f' q q' : List V3) (B : List BodyData) (r : Result (Unit {0}) KickErr) → f ≡ f' → q ≡ q' → h ≢ 0 → IfErr r (IsRefusal (only (after_kick h whole f fast q B) (ids_at B whole))) →
    IfErr r (IsRefusedBy (out_after h (ids_at B whole) (after_kick h whole f' fast q' B)))
refused_on h whole fast f f' q q' B r e k some s =
    subst (λ g. IfErr r (IsRefusedBy (out_after h (ids_at B whole) (after_kick h whole g fast q' B)))) e
    (subst (λ g. IfErr r (IsRefusedBy (out_after h (ids_at B whole) (after_kick h whole f fast g B)))) k (refused_by h (ids_at B whole) (after_kick h whole f fast q B) r some s))

pub returns-clause-refused : goal.returns-clause-refused
returns-clause-refused c =
    refused_on c.args.h c.args.whole.now c.args.fast.now c.deref.result.now c.args.f.now.forces c.deref-2.result.now c.args.quick.now.forces c.args.set.now c.kick.result (c.deref.ensures.value ∙ ap (λ (x : FieldData). x.forces) c.f.view_is) (c.deref-2.ensures.value ∙ ap (λ (x : FieldData). x.forces) c.quick.view_is) c.if-h-eq0.false c.kick.ensures.refused
