use Rattle.std.proofs.Common.{◌≡◌, ◌≤◌, ◌<◌, ◌+◌, ◌-◌, ◌^◌, ℕ, List, [], ◌∷◌, get_or, length, refl, ap, sym, ◌∙◌, subst, arith, rules as found, option_copied}
use Rattle.nbody_model.specs.Bodies.{BodyData, only}
use Rattle.nbody_model.specs.Setups.{SetupData}
use Rattle.nbody_model.specs.Tables.{Gravity}
use Rattle.model_laws.specs.Nests.{ids_of}
use Rattle.kick_drift.specs.Parts.{ids_at}
use Rattle.step_engine.specs.Told.{AreForcesAmong}
use Rattle.step_engine.specs.Stands.{IsGiven, IsTimely, AreOf}
use Rattle.step_engine.specs.Stages.{rules}
use Rattle.step_engine.specs.BaseSteps.{StandsFor}
use Rattle.step_engine.proofs.Times.{timely_first, timely_second}
use Rattle.rewind_laws.specs.Back.{Reached, back_close}
use Rattle.rewind.specs.Rewinding.{IsLeft, IsInside, IsUndone, IsNotUndone, AreUndone, AreNotUndone, IsRefusedBy, back_open}
use Rattle.rewind.proofs.Halves.{named_same, ascending_same, of_same}
use Rattle.rewind.proofs.Undone.{two_left, second_left, first_left, two_undone, second_fails, first_fails, none_between, last_left, next_rises, go_inside, step_undone, step_close_fails, step_between_fails, step_open_fails}
use Rattle.rewind.proofs.steps.+back.Goals as goal

-- ---- the finer steps

nothing_is : (ps : List ℕ) → length ps ≡ 0 → ps ≡ []
nothing_is [] e = refl
nothing_is (p ∷ ps) e = absurd (omega (arith, e))

pub undo_between-returns-then-is_empty-clause-ok : goal.undo_between-returns-then-is_empty-clause-ok
undo_between-returns-then-is_empty-clause-ok g t' c =
    let gr = g.F.Forces.gravity c.args.forces.now in
    let B : List BodyData = c.args.set.now in
    let long : length c.args.split.now.fast.now ≡ 0 = search found in
    let none : c.args.split.now.fast.now ≡ [] = nothing_is c.args.split.now.fast.now long in
    λ a. none_between (rules gr (option_copied c.args.course.now.expansion)) gr.setup.low_bin c.args.split.now.bin (ids_at B c.args.split.now.part.now) (ids_at B c.args.split.now.fast.now) c.args.split.now.tick c.args.course.now.bins.now B c.args.work.now.left (ap (ids_at B) none) a

-- the least bin lies below that of a step with finer ones
two_or_more : (gr : Gravity) (s : SetupData) (bin : ℕ) → gr.setup ≡ s → 1 ≤ s.low_bin → gr.setup.low_bin < bin → 2 ≤ bin
two_or_more gr s bin e some above = let low : gr.setup.low_bin ≡ s.low_bin = ap (λ (s : SetupData). s.low_bin) e in omega (arith, low, some, above)

pub undo_two-undo_step-requires : goal.undo_two-undo_step-requires
undo_two-undo_step-requires g t' c κs within =
    let gr = g.F.Forces.gravity c.args.forces.now in
    let e = option_copied c.args.course.now.expansion in
    let bin = c.args.split.now.bin in
    let t = c.args.split.now.tick in
    let B : List BodyData = c.args.set.now in
    let P = ids_at B c.args.split.now.part.now in
    let F = ids_at B c.args.split.now.fast.now in
    let lists = c.args.course.now.bins.now in
    let w = two_left gr.setup.low_bin bin P F lists c.args.work.now.left c.requires.some c.requires.inside in
    let two : 2 ≤ bin = two_or_more gr c.args.course.now.setup.now bin c.requires.stands.setup c.requires.low w.above in
    let middle : t + c.power.result ≡ t + 2 ^ (bin - 1) = ap (λ x. t + x) c.power.ensures in
    let room : 0 + 2 ^ (bin + 1) ≤ 2 ^ 40 + 1 = omega (arith, c.requires.timely.room) in
    let timely : IsTimely e (bin - 1) (t + c.power.result) 0 = timely_second e bin t (t + c.power.result) 0 0 c.requires.timely two middle room (omega arith) in
    let left : IsLeft gr.setup.low_bin (bin - 1) F lists c.args.work.now.left = second_left gr.setup.low_bin bin P F lists c.args.work.now.left c.requires.some c.requires.inside in
    search found

pub undo_two-returns-in-Err-clause-err : goal.undo_two-returns-in-Err-clause-err
undo_two-returns-in-Err-clause-err g t' c =
    let gr = g.F.Forces.gravity c.args.forces.now in
    let e = option_copied c.args.course.now.expansion in
    let bin = c.args.split.now.bin in
    let t = c.args.split.now.tick in
    let B : List BodyData = c.args.set.now in
    let P = ids_at B c.args.split.now.part.now in
    let F = ids_at B c.args.split.now.fast.now in
    let lists = c.args.course.now.bins.now in
    let r = rules gr e in
    let middle : t + c.power.result ≡ t + 2 ^ (bin - 1) = ap (λ x. t + x) c.power.ensures in
    second_fails r bin P F t lists B c.args.work.now.left c.in-Err.e c.requires.some (subst (λ u. IsNotUndone r (bin - 1) F u lists B c.args.work.now.left c.in-Err.e) middle c.in-Err.ensures.err)

pub undo_two-undo_step-requires-2 : goal.undo_two-undo_step-requires-2
undo_two-undo_step-requires-2 g t' c κs within =
    let gr = g.F.Forces.gravity c.args.forces.now in
    let gs = g.F.Forces.gravity c.undo_step.new.forces in
    let e = option_copied c.args.course.now.expansion in
    let bin = c.args.split.now.bin in
    let t = c.args.split.now.tick in
    let B : List BodyData = c.args.set.now in
    let C : List BodyData = c.undo_step.new.set in
    let fast = c.args.split.now.fast.now in
    let P = ids_at B c.args.split.now.part.now in
    let F = ids_at B fast in
    let lists = c.args.course.now.bins.now in
    let r = rules gr e in
    let same : gs ≡ gr = c.in-Ok.ensures.same_gravity in
    let ids : ids_of C ≡ ids_of B = c.in-Ok.ensures.ids in
    let w = two_left gr.setup.low_bin bin P F lists c.args.work.now.left c.requires.some c.requires.inside in
    let two : 2 ≤ bin = two_or_more gr c.args.course.now.setup.now bin c.requires.stands.setup c.requires.low w.above in
    let middle : t + c.power.result ≡ t + 2 ^ (bin - 1) = ap (λ x. t + x) c.power.ensures in
    let room : 0 + 2 ^ (bin + 1) ≤ 2 ^ 40 + 1 = omega (arith, c.requires.timely.room) in
    let timely : IsTimely e (bin - 1) t 0 = timely_first e bin t 0 c.requires.timely two room in
    let stands : StandsFor gs c.args.course.now.setup.now = subst (λ x. StandsFor x c.args.course.now.setup.now) (sym same) c.requires.stands in
    let among : AreForcesAmong gs (only C (ids_at C fast)) c.in-Ok.half = subst (λ x. AreForcesAmong x (only C (ids_at C fast)) c.in-Ok.half) (sym same) (subst (λ Q. AreForcesAmong gr (only C Q) c.in-Ok.half) (sym (named_same B C fast ids)) c.in-Ok.ensures.forces) in
    let given : IsGiven gs C fast c.in-Ok.half = record { places = ascending_same B C fast ids c.requires.quick.places; forces = among } in
    let one : IsUndone r (bin - 1) F (t + 2 ^ (bin - 1)) lists B c.args.work.now.left C c.undo_step.new.work.left = subst (λ u. IsUndone r (bin - 1) F u lists B c.args.work.now.left C c.undo_step.new.work.left) middle c.in-Ok.ensures.ok in
    let left : IsLeft gs.setup.low_bin (bin - 1) (ids_at C fast) lists c.undo_step.new.work.left =
    subst (λ x. IsLeft x.setup.low_bin (bin - 1) (ids_at C fast) lists c.undo_step.new.work.left) (sym same)
    (subst (λ Q. IsLeft gr.setup.low_bin (bin - 1) Q lists c.undo_step.new.work.left) (sym (named_same B C fast ids)) (first_left r bin P F (t + 2 ^ (bin - 1)) lists B C c.args.work.now.left c.undo_step.new.work.left c.requires.some c.requires.inside one)) in
    search found

pub undo_two-returns-in-Ok-undo_step-clause-ok : goal.undo_two-returns-in-Ok-undo_step-clause-ok
undo_two-returns-in-Ok-undo_step-clause-ok g t' c =
    let gr = g.F.Forces.gravity c.args.forces.now in
    let gs = g.F.Forces.gravity c.undo_step.new.forces in
    let e = option_copied c.args.course.now.expansion in
    let bin = c.args.split.now.bin in
    let t = c.args.split.now.tick in
    let B : List BodyData = c.args.set.now in
    let C : List BodyData = c.undo_step.new.set in
    let D : List BodyData = c.undo_step-2.new.set in
    let fast = c.args.split.now.fast.now in
    let P = ids_at B c.args.split.now.part.now in
    let F = ids_at B fast in
    let lists = c.args.course.now.bins.now in
    let r = rules gr e in
    let same : gs ≡ gr = c.in-Ok.ensures.same_gravity in
    let ids : ids_of C ≡ ids_of B = c.in-Ok.ensures.ids in
    let middle : t + c.power.result ≡ t + 2 ^ (bin - 1) = ap (λ x. t + x) c.power.ensures in
    let one : IsUndone r (bin - 1) F (t + 2 ^ (bin - 1)) lists B c.args.work.now.left C c.undo_step.new.work.left = subst (λ u. IsUndone r (bin - 1) F u lists B c.args.work.now.left C c.undo_step.new.work.left) middle c.in-Ok.ensures.ok in
    let two : IsUndone r (bin - 1) F t lists C c.undo_step.new.work.left D c.undo_step-2.new.work.left =
    subst (λ x. IsUndone (rules x e) (bin - 1) F t lists C c.undo_step.new.work.left D c.undo_step-2.new.work.left) same
    (subst (λ Q. IsUndone (rules gs e) (bin - 1) Q t lists C c.undo_step.new.work.left D c.undo_step-2.new.work.left) (named_same B C fast ids) c.in-Ok-undo_step.ensures.ok) in
    two_undone r bin P F t lists B C D c.args.work.now.left c.undo_step.new.work.left c.undo_step-2.new.work.left c.requires.some one two

pub undo_two-returns-in-Err-undo_step-clause-err : goal.undo_two-returns-in-Err-undo_step-clause-err
undo_two-returns-in-Err-undo_step-clause-err g t' c =
    let gr = g.F.Forces.gravity c.args.forces.now in
    let gs = g.F.Forces.gravity c.undo_step.new.forces in
    let e = option_copied c.args.course.now.expansion in
    let bin = c.args.split.now.bin in
    let t = c.args.split.now.tick in
    let B : List BodyData = c.args.set.now in
    let C : List BodyData = c.undo_step.new.set in
    let fast = c.args.split.now.fast.now in
    let P = ids_at B c.args.split.now.part.now in
    let F = ids_at B fast in
    let lists = c.args.course.now.bins.now in
    let r = rules gr e in
    let same : gs ≡ gr = c.in-Ok.ensures.same_gravity in
    let ids : ids_of C ≡ ids_of B = c.in-Ok.ensures.ids in
    let middle : t + c.power.result ≡ t + 2 ^ (bin - 1) = ap (λ x. t + x) c.power.ensures in
    let err = c.in-Err-undo_step.e in
    let one : IsUndone r (bin - 1) F (t + 2 ^ (bin - 1)) lists B c.args.work.now.left C c.undo_step.new.work.left = subst (λ u. IsUndone r (bin - 1) F u lists B c.args.work.now.left C c.undo_step.new.work.left) middle c.in-Ok.ensures.ok in
    let two : IsNotUndone r (bin - 1) F t lists C c.undo_step.new.work.left err =
    subst (λ x. IsNotUndone (rules x e) (bin - 1) F t lists C c.undo_step.new.work.left err) same (subst (λ Q. IsNotUndone (rules gs e) (bin - 1) Q t lists C c.undo_step.new.work.left err) (named_same B C fast ids) c.in-Err-undo_step.ensures.err) in
    first_fails r bin P F t lists B C c.args.work.now.left c.undo_step.new.work.left err c.requires.some one two

pub undo_two-returns-in-Ok-undo_step-clause-forces : goal.undo_two-returns-in-Ok-undo_step-clause-forces
undo_two-returns-in-Ok-undo_step-clause-forces g t' c =
    let gs = g.F.Forces.gravity c.undo_step.new.forces in
    let B : List BodyData = c.args.set.now in
    let C : List BodyData = c.undo_step.new.set in
    let D : List BodyData = c.undo_step-2.new.set in
    let fast = c.args.split.now.fast.now in
    subst (λ x. AreForcesAmong x (only D (ids_at B fast)) c.in-Ok-undo_step.known) c.in-Ok.ensures.same_gravity
    (subst (λ Q. AreForcesAmong gs (only D Q) c.in-Ok-undo_step.known) (named_same B C fast c.in-Ok.ensures.ids) c.in-Ok-undo_step.ensures.forces)

pub undo_two-returns-in-Ok-undo_step-clause-ids : goal.undo_two-returns-in-Ok-undo_step-clause-ids
undo_two-returns-in-Ok-undo_step-clause-ids g t' c = c.in-Ok-undo_step.ensures.ids ∙ c.in-Ok.ensures.ids

-- ---- a step

pub undo_step-next_fast-requires-clause-some : goal.undo_step-next_fast-requires-clause-some
undo_step-next_fast-requires-clause-some g t' c =
    let gr = g.F.Forces.gravity c.args.forces.now in
    let e = option_copied c.args.course.now.expansion in
    let bin = c.args.step.now.bin in
    let t = c.args.step.now.tick in
    let A : List BodyData = c.args.set.now in
    let part = c.args.step.now.part.now in
    let lists = c.args.course.now.bins.now in
    let left = c.args.work.now.left in
    let P = ids_at A part in
    let r = rules gr e in
    (last_left gr.setup.low_bin bin P lists left c.requires.left).some

pub undo_step-next_fast-requires-clause-of : goal.undo_step-next_fast-requires-clause-of
undo_step-next_fast-requires-clause-of g t' c =
    let gr = g.F.Forces.gravity c.args.forces.now in
    let e = option_copied c.args.course.now.expansion in
    let bin = c.args.step.now.bin in
    let t = c.args.step.now.tick in
    let A : List BodyData = c.args.set.now in
    let part = c.args.step.now.part.now in
    let lists = c.args.course.now.bins.now in
    let left = c.args.work.now.left in
    let P = ids_at A part in
    let r = rules gr e in
    (next_rises gr.setup.low_bin bin P lists left c.requires.left).1

pub undo_step-next_fast-requires-clause-ascending : goal.undo_step-next_fast-requires-clause-ascending
undo_step-next_fast-requires-clause-ascending g t' c =
    let gr = g.F.Forces.gravity c.args.forces.now in
    let e = option_copied c.args.course.now.expansion in
    let bin = c.args.step.now.bin in
    let t = c.args.step.now.tick in
    let A : List BodyData = c.args.set.now in
    let part = c.args.step.now.part.now in
    let lists = c.args.course.now.bins.now in
    let left = c.args.work.now.left in
    let P = ids_at A part in
    let r = rules gr e in
    (next_rises gr.setup.low_bin bin P lists left c.requires.left).0

pub undo_step-returns-in-Err-undo_close-clause-err : goal.undo_step-returns-in-Err-undo_close-clause-err
undo_step-returns-in-Err-undo_close-clause-err g t' c =
    let gr = g.F.Forces.gravity c.args.forces.now in
    let e = option_copied c.args.course.now.expansion in
    let bin = c.args.step.now.bin in
    let t = c.args.step.now.tick in
    let A : List BodyData = c.args.set.now in
    let part = c.args.step.now.part.now in
    let lists = c.args.course.now.bins.now in
    let left = c.args.work.now.left in
    let P = ids_at A part in
    let r = rules gr e in
    let fast = c.as_slice.result.now in
    let F = ids_at A fast in
    let told : F ≡ get_or lists (left - 1) [] = ap (ids_at A) c.as_slice.ensures.value ∙ c.in-Ok.ensures.fast in
    let of : AreOf A part fast = subst (AreOf A part) (sym c.as_slice.ensures.value) c.in-Ok.ensures.of in
    let g1 = g.F.Forces.gravity c.ask_fast.new.forces in
    let same1 : g1 ≡ gr = c.in-Ok-ask_fast.ensures.same_gravity in
    let err = c.in-Err-undo_close.e in
    step_close_fails r bin P F t lists A left err c.requires.timely.some told (subst (λ x. IsRefusedBy (back_close (rules x e) bin P F t A) err) same1 c.in-Err-undo_close.ensures.err)

pub undo_step-undo_between-requires : goal.undo_step-undo_between-requires
undo_step-undo_between-requires g t' c κs within =
    let gr = g.F.Forces.gravity c.args.forces.now in
    let e = option_copied c.args.course.now.expansion in
    let bin = c.args.step.now.bin in
    let t = c.args.step.now.tick in
    let A : List BodyData = c.args.set.now in
    let part = c.args.step.now.part.now in
    let lists = c.args.course.now.bins.now in
    let left = c.args.work.now.left in
    let P = ids_at A part in
    let r = rules gr e in
    let fast = c.as_slice.result.now in
    let F = ids_at A fast in
    let told : F ≡ get_or lists (left - 1) [] = ap (ids_at A) c.as_slice.ensures.value ∙ c.in-Ok.ensures.fast in
    let of : AreOf A part fast = subst (AreOf A part) (sym c.as_slice.ensures.value) c.in-Ok.ensures.of in
    let g1 = g.F.Forces.gravity c.ask_fast.new.forces in
    let same1 : g1 ≡ gr = c.in-Ok-ask_fast.ensures.same_gravity in
    let B : List BodyData = c.undo_close.new.set in
    let ids1 : ids_of B ≡ ids_of A = c.in-Ok-undo_close.ensures.ids in
    let close : back_close r bin P F t A ≡ Reached B = ap (λ x. back_close (rules x e) bin P F t A) (sym same1) ∙ c.in-Ok-undo_close.ensures.ok in
    let stands : StandsFor g1 c.args.course.now.setup.now = subst (λ x. StandsFor x c.args.course.now.setup.now) (sym same1) c.requires.stands in
    let given : IsGiven g1 B fast c.in-Ok-ask_fast.quick = record { places = ascending_same A B fast ids1 of.places; forces = subst (λ Q. AreForcesAmong g1 (only B Q) c.in-Ok-ask_fast.quick) (sym (named_same A B fast ids1)) c.in-Ok-undo_close.ensures.quick } in
    let inside : IsInside g1.setup.low_bin bin (ids_at B part) (ids_at B fast) lists c.next_fast.new.work.left =
    subst (λ x. IsInside x.setup.low_bin bin (ids_at B part) (ids_at B fast) lists c.next_fast.new.work.left) (sym same1)
    (subst (λ n. IsInside gr.setup.low_bin bin (ids_at B part) (ids_at B fast) lists n) (sym c.in-Ok.ensures.left)
    (subst (λ Q. IsInside gr.setup.low_bin bin Q (ids_at B fast) lists (left - 1)) (sym (named_same A B part ids1))
    (subst (λ Q. IsInside gr.setup.low_bin bin P Q lists (left - 1)) (sym (named_same A B fast ids1)) (go_inside gr.setup.low_bin bin P F lists left told c.requires.left)))) in
    search found

pub undo_step-returns-in-Err-undo_between-clause-err : goal.undo_step-returns-in-Err-undo_between-clause-err
undo_step-returns-in-Err-undo_between-clause-err g t' c =
    let gr = g.F.Forces.gravity c.args.forces.now in
    let e = option_copied c.args.course.now.expansion in
    let bin = c.args.step.now.bin in
    let t = c.args.step.now.tick in
    let A : List BodyData = c.args.set.now in
    let part = c.args.step.now.part.now in
    let lists = c.args.course.now.bins.now in
    let left = c.args.work.now.left in
    let P = ids_at A part in
    let r = rules gr e in
    let fast = c.as_slice.result.now in
    let F = ids_at A fast in
    let told : F ≡ get_or lists (left - 1) [] = ap (ids_at A) c.as_slice.ensures.value ∙ c.in-Ok.ensures.fast in
    let of : AreOf A part fast = subst (AreOf A part) (sym c.as_slice.ensures.value) c.in-Ok.ensures.of in
    let g1 = g.F.Forces.gravity c.ask_fast.new.forces in
    let same1 : g1 ≡ gr = c.in-Ok-ask_fast.ensures.same_gravity in
    let B : List BodyData = c.undo_close.new.set in
    let ids1 : ids_of B ≡ ids_of A = c.in-Ok-undo_close.ensures.ids in
    let close : back_close r bin P F t A ≡ Reached B = ap (λ x. back_close (rules x e) bin P F t A) (sym same1) ∙ c.in-Ok-undo_close.ensures.ok in
    let err = c.in-Err-undo_between.e in
    let inner : AreNotUndone r bin P F t lists B (left - 1) err =
    subst (λ x. AreNotUndone (rules x e) bin P F t lists B (left - 1) err) same1
    (subst (λ n. AreNotUndone (rules g1 e) bin P F t lists B n err) c.in-Ok.ensures.left
    (subst (λ Q. AreNotUndone (rules g1 e) bin P Q t lists B c.next_fast.new.work.left err) (named_same A B fast ids1)
    (subst (λ Q. AreNotUndone (rules g1 e) bin Q (ids_at B fast) t lists B c.next_fast.new.work.left err) (named_same A B part ids1) c.in-Err-undo_between.ensures.err))) in
    step_between_fails r bin P F t lists A B left err c.requires.timely.some told close inner

pub undo_step-undo_open-requires-clause-part : goal.undo_step-undo_open-requires-clause-part
undo_step-undo_open-requires-clause-part g t' c =
    ascending_same c.args.set.now c.undo_between.new.set c.args.step.now.part.now (c.in-Ok-undo_between.ensures.ids ∙ c.in-Ok-undo_close.ensures.ids) c.requires.known.places

pub undo_step-undo_open-requires-clause-fast : goal.undo_step-undo_open-requires-clause-fast
undo_step-undo_open-requires-clause-fast g t' c =
    let gr = g.F.Forces.gravity c.args.forces.now in
    let e = option_copied c.args.course.now.expansion in
    let bin = c.args.step.now.bin in
    let t = c.args.step.now.tick in
    let A : List BodyData = c.args.set.now in
    let part = c.args.step.now.part.now in
    let lists = c.args.course.now.bins.now in
    let left = c.args.work.now.left in
    let P = ids_at A part in
    let r = rules gr e in
    let fast = c.as_slice.result.now in
    let F = ids_at A fast in
    let told : F ≡ get_or lists (left - 1) [] = ap (ids_at A) c.as_slice.ensures.value ∙ c.in-Ok.ensures.fast in
    let of : AreOf A part fast = subst (AreOf A part) (sym c.as_slice.ensures.value) c.in-Ok.ensures.of in
    let g1 = g.F.Forces.gravity c.ask_fast.new.forces in
    let same1 : g1 ≡ gr = c.in-Ok-ask_fast.ensures.same_gravity in
    of_same A c.undo_between.new.set part fast (c.in-Ok-undo_between.ensures.ids ∙ c.in-Ok-undo_close.ensures.ids) of

pub undo_step-returns-in-Ok-undo_open-clause-ok : goal.undo_step-returns-in-Ok-undo_open-clause-ok
undo_step-returns-in-Ok-undo_open-clause-ok g t' c =
    let gr = g.F.Forces.gravity c.args.forces.now in
    let e = option_copied c.args.course.now.expansion in
    let bin = c.args.step.now.bin in
    let t = c.args.step.now.tick in
    let A : List BodyData = c.args.set.now in
    let part = c.args.step.now.part.now in
    let lists = c.args.course.now.bins.now in
    let left = c.args.work.now.left in
    let P = ids_at A part in
    let r = rules gr e in
    let fast = c.as_slice.result.now in
    let F = ids_at A fast in
    let told : F ≡ get_or lists (left - 1) [] = ap (ids_at A) c.as_slice.ensures.value ∙ c.in-Ok.ensures.fast in
    let of : AreOf A part fast = subst (AreOf A part) (sym c.as_slice.ensures.value) c.in-Ok.ensures.of in
    let g1 = g.F.Forces.gravity c.ask_fast.new.forces in
    let same1 : g1 ≡ gr = c.in-Ok-ask_fast.ensures.same_gravity in
    let B : List BodyData = c.undo_close.new.set in
    let ids1 : ids_of B ≡ ids_of A = c.in-Ok-undo_close.ensures.ids in
    let close : back_close r bin P F t A ≡ Reached B = ap (λ x. back_close (rules x e) bin P F t A) (sym same1) ∙ c.in-Ok-undo_close.ensures.ok in
    let C : List BodyData = c.undo_between.new.set in
    let g2 = g.F.Forces.gravity c.undo_between.new.forces in
    let rest = c.undo_between.new.work.left in
    let same2 : g2 ≡ gr = c.in-Ok-undo_between.ensures.same_gravity ∙ same1 in
    let ids2 : ids_of C ≡ ids_of A = c.in-Ok-undo_between.ensures.ids ∙ ids1 in
    let inner : AreUndone r bin P F t lists B (left - 1) C rest =
    subst (λ x. AreUndone (rules x e) bin P F t lists B (left - 1) C rest) same1
    (subst (λ n. AreUndone (rules g1 e) bin P F t lists B n C rest) c.in-Ok.ensures.left
    (subst (λ Q. AreUndone (rules g1 e) bin P Q t lists B c.next_fast.new.work.left C rest) (named_same A B fast ids1)
    (subst (λ Q. AreUndone (rules g1 e) bin Q (ids_at B fast) t lists B c.next_fast.new.work.left C rest) (named_same A B part ids1) c.in-Ok-undo_between.ensures.ok))) in
    let D : List BodyData = c.undo_open.new.set in
    let open_same : back_open (rules g2 e) bin (ids_at C part) (ids_at C fast) t C ≡ back_open r bin P F t C = (λ i. back_open (rules (same2 i) e) bin (named_same A C part ids2 i) (named_same A C fast ids2 i) t C) in
    step_undone r bin P F t lists A B C D left rest c.requires.timely.some told close inner (sym open_same ∙ c.in-Ok-undo_open.ensures.ok)

pub undo_step-returns-clause-err : goal.undo_step-returns-clause-err
undo_step-returns-clause-err g t' c =
    let gr = g.F.Forces.gravity c.args.forces.now in
    let e = option_copied c.args.course.now.expansion in
    let bin = c.args.step.now.bin in
    let t = c.args.step.now.tick in
    let A : List BodyData = c.args.set.now in
    let part = c.args.step.now.part.now in
    let lists = c.args.course.now.bins.now in
    let left = c.args.work.now.left in
    let P = ids_at A part in
    let r = rules gr e in
    let fast = c.as_slice.result.now in
    let F = ids_at A fast in
    let told : F ≡ get_or lists (left - 1) [] = ap (ids_at A) c.as_slice.ensures.value ∙ c.in-Ok.ensures.fast in
    let of : AreOf A part fast = subst (AreOf A part) (sym c.as_slice.ensures.value) c.in-Ok.ensures.of in
    let g1 = g.F.Forces.gravity c.ask_fast.new.forces in
    let same1 : g1 ≡ gr = c.in-Ok-ask_fast.ensures.same_gravity in
    let B : List BodyData = c.undo_close.new.set in
    let ids1 : ids_of B ≡ ids_of A = c.in-Ok-undo_close.ensures.ids in
    let close : back_close r bin P F t A ≡ Reached B = ap (λ x. back_close (rules x e) bin P F t A) (sym same1) ∙ c.in-Ok-undo_close.ensures.ok in
    let C : List BodyData = c.undo_between.new.set in
    let g2 = g.F.Forces.gravity c.undo_between.new.forces in
    let rest = c.undo_between.new.work.left in
    let same2 : g2 ≡ gr = c.in-Ok-undo_between.ensures.same_gravity ∙ same1 in
    let ids2 : ids_of C ≡ ids_of A = c.in-Ok-undo_between.ensures.ids ∙ ids1 in
    let inner : AreUndone r bin P F t lists B (left - 1) C rest =
    subst (λ x. AreUndone (rules x e) bin P F t lists B (left - 1) C rest) same1
    (subst (λ n. AreUndone (rules g1 e) bin P F t lists B n C rest) c.in-Ok.ensures.left
    (subst (λ Q. AreUndone (rules g1 e) bin P Q t lists B c.next_fast.new.work.left C rest) (named_same A B fast ids1)
    (subst (λ Q. AreUndone (rules g1 e) bin Q (ids_at B fast) t lists B c.next_fast.new.work.left C rest) (named_same A B part ids1) c.in-Ok-undo_between.ensures.ok))) in
    let open_same : back_open (rules g2 e) bin (ids_at C part) (ids_at C fast) t C ≡ back_open r bin P F t C = (λ i. back_open (rules (same2 i) e) bin (named_same A C part ids2 i) (named_same A C fast ids2 i) t C) in
    let err = c.in-Err-undo_open.e in
    step_open_fails r bin P F t lists A B C left rest err c.requires.timely.some told close inner (subst (λ x. IsRefusedBy x err) open_same c.in-Err-undo_open.ensures.err)
