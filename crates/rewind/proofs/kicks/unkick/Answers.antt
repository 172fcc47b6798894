use Rattle.std.proofs.Common.{◌≡◌, List, ℕ, map, ap, sym, ◌∙◌, subst, rules}
use Rattle.fixed_point.specs.declared.V3.{V3}
use Rattle.fixed_point.specs.Vectors.{negative}
use Rattle.nbody_model.specs.Bodies.{BodyData, only}
use Rattle.nbody_model.specs.Steps.{first_out}
use Rattle.kick_drift.specs.Parts.{ids_at, after_kick, change_of}
use Rattle.rewind_laws.specs.Back.{unkicked_bodies}
use Rattle.rewind.specs.Undoing.{before_kick, IsOutBefore, out_before}
use Rattle.rewind.proofs.Negated.{kicked_back, unkicked_by_none, none_out, refused_before}
use Rattle.rewind.proofs.kicks.unkick.Goals as goal

pub returns-then-h-eq0-clause-ok : goal.returns-then-h-eq0-clause-ok
returns-then-h-eq0-clause-ok c =
    let B : List BodyData = c.args.set.now in
    let v : BodyData → V3 = change_of (ids_at B c.args.whole.now) c.args.f.now (ids_at B c.args.fast.now) c.args.g.now in
    let none : c.args.h ≡ 0 = search rules in
    unkicked_by_none (ids_at B c.args.whole.now) v B ∙ ap (λ h. unkicked_bodies h (ids_at B c.args.whole.now) v B) (sym none)

pub returns-then-h-eq0-clause-in_range : goal.returns-then-h-eq0-clause-in_range
returns-then-h-eq0-clause-in_range c = none_out (ids_at c.args.set.now c.args.whole.now) c.args.set.now (search rules)

pub returns-in-Ok-clause-ok : goal.returns-in-Ok-clause-ok
returns-in-Ok-clause-ok c =
    let B : List BodyData = c.args.set.now in
    let f : c.deref.result.now ≡ map negative c.args.f.now = search rules in
    let g : c.deref-2.result.now ≡ map negative c.args.g.now = search rules in
    c.in-Ok.ensures.kicked ∙ (λ i. after_kick c.args.h c.args.whole.now (f i) c.args.fast.now (g i) B) ∙ kicked_back c.args.h c.args.whole.now c.args.f.now c.args.fast.now c.args.g.now B

pub returns-in-Ok-clause-in_range : goal.returns-in-Ok-clause-in_range
returns-in-Ok-clause-in_range c =
    ap (λ (C : List BodyData). first_out (only C (ids_at c.args.set.now c.args.whole.now))) c.in-Ok.ensures.kicked ∙ c.in-Ok.ensures.in_range

pub returns-clause-err : goal.returns-clause-err
returns-clause-err c =
    let B : List BodyData = c.args.set.now in
    let P : List ℕ = ids_at B c.args.whole.now in
    let f : c.deref.result.now ≡ map negative c.args.f.now = search rules in
    let g : c.deref-2.result.now ≡ map negative c.args.g.now = search rules in
    let same : after_kick c.args.h c.args.whole.now c.deref.result.now c.args.fast.now c.deref-2.result.now B ≡ before_kick c.args.h c.args.whole.now c.args.f.now c.args.fast.now c.args.g.now B =
    (λ i. after_kick c.args.h c.args.whole.now (f i) c.args.fast.now (g i) B) ∙ kicked_back c.args.h c.args.whole.now c.args.f.now c.args.fast.now c.args.g.now B in
    rw c.out_before.ensures
    (subst (λ (C : List BodyData). IsOutBefore (first_out (only C P)) (out_before c.in-Err.refusal)) same
    (refused_before (only (after_kick c.args.h c.args.whole.now c.deref.result.now c.args.fast.now c.deref-2.result.now B) P) c.in-Err.refusal c.in-Err.ensures.refused))
