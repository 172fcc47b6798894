use Rattle.std.proofs.Common.{◌≡◌, ◌≤◌, ◌<◌, ◌+◌, ◌-◌, ◌*◌, ◌^◌, List, ap, sym, ◌∙◌, subst, arith, rules as found, option_copied}
use Rattle.std.specs.Prelude.{IfSome}
use Rattle.nbody_model.specs.Bodies.{BodyData, only}
use Rattle.nbody_model.specs.Setups.{SetupData, IsSetup, last_tick}
use Rattle.nbody_model.specs.Tables.{Reaches}
use Rattle.model_laws.specs.Nests.{ids_of}
use Rattle.kick_drift.specs.Parts.{ids_at}
use Rattle.step_engine.specs.Told.{AreForcesAmong}
use Rattle.step_engine.specs.Stands.{IsTimely}
use Rattle.step_engine.specs.Stages.{rules}
use Rattle.rewind_laws.specs.Back.{base_steps}
use Rattle.rewind.specs.Rewinding.{AreOfRun, IsLeft, IsUndone, IsNotUndone}
use Rattle.rewind.proofs.Halves.{named_same}
use Rattle.rewind.proofs.Runs.{timely_step, next_is_left, goes_on, stops, ends}
use Rattle.rewind.proofs.rewinding.undo_steps.Goals as goal

pub undo_step-requires-clause-timely : goal.undo_step-requires-clause-timely
undo_step-requires-clause-timely g c =
    let gr = g.F.Forces.gravity c.args.forces.now in
    let gs = g.F.Forces.gravity c.loop-done.forces in
    let e = option_copied c.args.course.now.expansion in
    let r = rules gr e in
    let s = gr.setup in
    let lists = c.args.course.now.bins.now in
    let B : List BodyData = c.args.set.now in
    let C : List BodyData = c.loop-done.set in
    let part = c.args.part.now in
    let done = c.loop-done.done in
    let left = c.loop-done.work.left in
    let now = c.loop-done.invariant.0 in
    let as_set : ◌≡◌ {A = SetupData} c.args.course.now.setup.now s = sym c.requires.stands.setup in
    let top : c.setup.inside.top_bin ≡ s.top_bin = ap (λ (x : SetupData). x.top_bin) (c.setup.view_is ∙ as_set) in
    let count : c.base_steps-count.result ≡ base_steps s = c.base_steps-count.ensures ∙ ap base_steps as_set in
    let before : done < c.base_steps-count.result = search found in
    let lt : done < base_steps s = subst (λ n. done < n) count before in
    let tick : c.tick_of.result ≡ (base_steps s - (done + 1)) * 2 ^ s.top_bin = c.tick_of.ensures ∙ (λ i. (count i - (done + 1)) * 2 ^ top i) in
    let named : ids_at C part ≡ ids_of B = named_same B C part now.ids ∙ c.requires.all in
    let setup : IsSetup s = subst IsSetup (c.setup.view_is ∙ as_set) c.setup.invariant in
    let spans : IfSome e (λ x. Reaches x (last_tick s)) = subst (λ (u : SetupData). IfSome e (λ x. Reaches x (last_tick u))) as_set c.requires.spans in
    let k : base_steps s - (done + 1) < base_steps s = omega (arith, lt) in
    subst (λ n. IsTimely e n c.tick_of.result 0) (sym top) (subst (λ n. IsTimely e s.top_bin n 0) (sym tick) (timely_step e s (base_steps s - (done + 1)) setup k spans))

pub undo_step-requires-clause-left : goal.undo_step-requires-clause-left
undo_step-requires-clause-left g c =
    let gr = g.F.Forces.gravity c.args.forces.now in
    let gs = g.F.Forces.gravity c.loop-done.forces in
    let e = option_copied c.args.course.now.expansion in
    let r = rules gr e in
    let s = gr.setup in
    let lists = c.args.course.now.bins.now in
    let B : List BodyData = c.args.set.now in
    let C : List BodyData = c.loop-done.set in
    let part = c.args.part.now in
    let done = c.loop-done.done in
    let left = c.loop-done.work.left in
    let now = c.loop-done.invariant.0 in
    let as_set : ◌≡◌ {A = SetupData} c.args.course.now.setup.now s = sym c.requires.stands.setup in
    let top : c.setup.inside.top_bin ≡ s.top_bin = ap (λ (x : SetupData). x.top_bin) (c.setup.view_is ∙ as_set) in
    let count : c.base_steps-count.result ≡ base_steps s = c.base_steps-count.ensures ∙ ap base_steps as_set in
    let before : done < c.base_steps-count.result = search found in
    let lt : done < base_steps s = subst (λ n. done < n) count before in
    let tick : c.tick_of.result ≡ (base_steps s - (done + 1)) * 2 ^ s.top_bin = c.tick_of.ensures ∙ (λ i. (count i - (done + 1)) * 2 ^ top i) in
    let named : ids_at C part ≡ ids_of B = named_same B C part now.ids ∙ c.requires.all in
    let a : AreOfRun s B lists = subst (λ (u : SetupData). AreOfRun u B lists) as_set c.requires.bins in
    subst (λ x. IsLeft x.setup.low_bin c.setup.inside.top_bin (ids_at C part) lists left) (sym now.same)
    (subst (λ n. IsLeft s.low_bin n (ids_at C part) lists left) (sym top) (subst (λ Q. IsLeft s.low_bin s.top_bin Q lists left) (sym named) (next_is_left r gs lists B part done C c.loop-done.known left lt now a)))

pub returns-in-Err-clause-err : goal.returns-in-Err-clause-err
returns-in-Err-clause-err g c =
    let gr = g.F.Forces.gravity c.args.forces.now in
    let gs = g.F.Forces.gravity c.loop-done.forces in
    let e = option_copied c.args.course.now.expansion in
    let r = rules gr e in
    let s = gr.setup in
    let lists = c.args.course.now.bins.now in
    let B : List BodyData = c.args.set.now in
    let C : List BodyData = c.loop-done.set in
    let part = c.args.part.now in
    let done = c.loop-done.done in
    let left = c.loop-done.work.left in
    let now = c.loop-done.invariant.0 in
    let as_set : ◌≡◌ {A = SetupData} c.args.course.now.setup.now s = sym c.requires.stands.setup in
    let top : c.setup.inside.top_bin ≡ s.top_bin = ap (λ (x : SetupData). x.top_bin) (c.setup.view_is ∙ as_set) in
    let count : c.base_steps-count.result ≡ base_steps s = c.base_steps-count.ensures ∙ ap base_steps as_set in
    let before : done < c.base_steps-count.result = search found in
    let lt : done < base_steps s = subst (λ n. done < n) count before in
    let tick : c.tick_of.result ≡ (base_steps s - (done + 1)) * 2 ^ s.top_bin = c.tick_of.ensures ∙ (λ i. (count i - (done + 1)) * 2 ^ top i) in
    let named : ids_at C part ≡ ids_of B = named_same B C part now.ids ∙ c.requires.all in
    let err = c.in-Err.e in
    let step : IsNotUndone r s.top_bin (ids_of B) ((base_steps s - (done + 1)) * 2 ^ s.top_bin) lists C left err =
    subst (λ n. IsNotUndone r s.top_bin (ids_of B) n lists C left err) tick
    (subst (λ Q. IsNotUndone r s.top_bin Q c.tick_of.result lists C left err) named
    (subst (λ n. IsNotUndone r n (ids_at C part) c.tick_of.result lists C left err) top
    (subst (λ x. IsNotUndone (rules x e) c.setup.inside.top_bin (ids_at C part) c.tick_of.result lists C left err) now.same c.in-Err.ensures.err))) in
    stops r gs lists B part done C c.loop-done.known left err lt now step

pub loop-done-preserved : goal.loop-done-preserved
loop-done-preserved g c =
    let gr = g.F.Forces.gravity c.args.forces.now in
    let gs = g.F.Forces.gravity c.loop-done.forces in
    let e = option_copied c.args.course.now.expansion in
    let r = rules gr e in
    let s = gr.setup in
    let lists = c.args.course.now.bins.now in
    let B : List BodyData = c.args.set.now in
    let C : List BodyData = c.loop-done.set in
    let part = c.args.part.now in
    let done = c.loop-done.done in
    let left = c.loop-done.work.left in
    let now = c.loop-done.invariant.0 in
    let as_set : ◌≡◌ {A = SetupData} c.args.course.now.setup.now s = sym c.requires.stands.setup in
    let top : c.setup.inside.top_bin ≡ s.top_bin = ap (λ (x : SetupData). x.top_bin) (c.setup.view_is ∙ as_set) in
    let count : c.base_steps-count.result ≡ base_steps s = c.base_steps-count.ensures ∙ ap base_steps as_set in
    let before : done < c.base_steps-count.result = search found in
    let lt : done < base_steps s = subst (λ n. done < n) count before in
    let tick : c.tick_of.result ≡ (base_steps s - (done + 1)) * 2 ^ s.top_bin = c.tick_of.ensures ∙ (λ i. (count i - (done + 1)) * 2 ^ top i) in
    let named : ids_at C part ≡ ids_of B = named_same B C part now.ids ∙ c.requires.all in
    let D : List BodyData = c.undo_step.new.set in
    let rest = c.undo_step.new.work.left in
    let step : IsUndone r s.top_bin (ids_of B) ((base_steps s - (done + 1)) * 2 ^ s.top_bin) lists C left D rest =
    subst (λ n. IsUndone r s.top_bin (ids_of B) n lists C left D rest) tick
    (subst (λ Q. IsUndone r s.top_bin Q c.tick_of.result lists C left D rest) named
    (subst (λ n. IsUndone r n (ids_at C part) c.tick_of.result lists C left D rest) top
    (subst (λ x. IsUndone (rules x e) c.setup.inside.top_bin (ids_at C part) c.tick_of.result lists C left D rest) now.same c.in-Ok.ensures.ok))) in
    let among : AreForcesAmong gr (only D (ids_at B part)) c.in-Ok.known =
    subst (λ x. AreForcesAmong x (only D (ids_at B part)) c.in-Ok.known) now.same (subst (λ Q. AreForcesAmong gs (only D Q) c.in-Ok.known) (named_same B C part now.ids) c.in-Ok.ensures.forces) in (
      goes_on r gs (g.F.Forces.gravity c.undo_step.new.forces) lists B part done C D c.loop-done.known c.in-Ok.known left rest lt now c.in-Ok.ensures.same_gravity c.in-Ok.ensures.ids among step,
      c.in-Ok.ensures.same_fixed ∙ c.loop-done.invariant.1,
    )

pub returns-clause-ok : goal.returns-clause-ok
returns-clause-ok g c =
    let gr = g.F.Forces.gravity c.args.forces.now in
    let gs = g.F.Forces.gravity c.loop-done.forces in
    let e = option_copied c.args.course.now.expansion in
    let r = rules gr e in
    let s = gr.setup in
    let lists = c.args.course.now.bins.now in
    let B : List BodyData = c.args.set.now in
    let C : List BodyData = c.loop-done.set in
    let part = c.args.part.now in
    let done = c.loop-done.done in
    let left = c.loop-done.work.left in
    let now = c.loop-done.invariant.0 in
    let as_set : ◌≡◌ {A = SetupData} c.args.course.now.setup.now s = sym c.requires.stands.setup in
    let count : c.base_steps-count.result ≡ base_steps s = c.base_steps-count.ensures ∙ ap base_steps as_set in
    let over : c.base_steps-count.result ≤ done = search found in
    ends r gs lists B part done C c.loop-done.known left (subst (λ n. n ≤ done) count over) now
