-- Taking back a whole run gives its first bodies.
use Rattle.std.proofs.Common.{◌≡◌, ◌<◌, ◌≤◌, ℕ, zero, suc, ◌+◌, ◌*◌, ◌^◌, Bool, true, false, cond, List, [], ◌∷◌, ◌++◌, length, Option, Some, None, refl, ap, sym, ◌∙◌, subst, arith, append_assoc, append-nil}
use Rattle.std.specs.List.{AllByRecursion, flat_map}
use Rattle.std.proofs.lemmas.Bool.{ltb-true, ltb-false}
use Rattle.std.proofs.lemmas.Grind.{flat_map-append}
use Rattle.std.proofs.lemmas.Nat.{pow_pos}
use Rattle.cell_space.specs.Cells.{InBox}
use Rattle.nbody_model.specs.Bodies.{BodyData, IsInRange}
use Rattle.nbody_model.specs.Setups.{SetupData, IsSetup}
use Rattle.nbody_model.specs.Tables.{Rules}
use Rattle.nbody_model.specs.Evolve.{bins_in, bins_of, Progress, Stepped, Going, Refused, Resting, evolve}
use Rattle.nbody_model.specs.States.{StateData}
use Rattle.nbody_model.specs.Session.{Plan, SessionData, End, Done, Stopped, OutOfRange, is_running, synchronised, advanced, with_trail, is_done, session_from, bins, session}
use Rattle.model_laws.specs.Nests.{ids_of}
use Rattle.model_laws.proofs.Resumed.{onward, halted, either_way, ok, over}
use Rattle.rewind_laws.specs.Back.{StepParts, listed, AreParts, Reached, ◌>>-◌, back, back_steps}
use Rattle.rewind_laws.specs.Rewound.{AreWithin, RunsAreTakenBack}
use Rattle.rewind_laws.proofs.Fits.{IsFit, AreFit, in_range}
use Rattle.rewind_laws.proofs.Forth.{Comes, Undone, evolve_undone}
use Rattle.rewind_laws.proofs.Steps.{SameRun, sync_same, before_step, runs_on, IsTimed, Enough, next_steps, next_timed, next_enough, same_timed, same_enough, all_steps}

each_fit : (B : List BodyData) → AllByRecursion (λ b. InBox b.motion.pos) B → AllByRecursion (λ b. IsInRange b.motion.mom) B → AllByRecursion IsFit B
each_fit [] a c = tt
each_fit (b ∷ B) a c = (record { place = a.0; range = in_range b.motion.mom c.0 }, each_fit B a.1 c.1)

pub fit_within : (B : List BodyData) → AreWithin B → AreFit B
fit_within B a = record { each = each_fit B a.in_box a.in_range; ascending = a.ascending }

-- what the base steps of a session made, from d on to its end D
record RunUndone (r : Rules) (all : List ℕ) (d D : SessionData) : Type 0 where
  steps : List StepParts
  each : AllByRecursion (AreParts r.gravity.setup.low_bin r.gravity.setup.top_bin all) steps
  told : bins D ≡ bins d ++ flat_map listed steps
  back : back_steps r all d.state.steps steps D.state.bodies ≡ Reached d.state.bodies
  count : D.state.steps ≡ d.state.steps + length steps
  timed : IsTimed r.gravity.setup D.state
  over : r.gravity.setup.time_max ≤ D.state.tick
  ids : ids_of D.state.bodies ≡ all

-- between base steps, with these ids
record Between (s : SetupData) (all : List ℕ) (d : SessionData) : Type 0 where
  timed : IsTimed s d.state
  fit : AreFit d.state.bodies
  ids : ids_of d.state.bodies ≡ all

abbrev Further : Plan → Option ℕ → List ℕ → ℕ → Type 0
Further plan stop all n = (known : Bool) (d : SessionData) → Between plan.rules.gravity.setup all d → Enough plan.rules.gravity.setup n d.state → (session_from n plan stop known d).end ≡ Done → RunUndone plan.rules all d (session_from n plan stop known d)

nothing_more : (plan : Plan) (all : List ℕ) (d : SessionData) → Between plan.rules.gravity.setup all d → is_running plan d.state ≡ false → RunUndone plan.rules all d d
nothing_more plan all d k run = record {
  steps = [];
  each = tt;
  told = sym (append-nil (bins d));
  back = refl;
  count = omega arith;
  timed = k.timed;
  over = ltb-false d.state.tick plan.rules.gravity.setup.time_max run;
  ids = k.ids;
}

done_then : (X : SessionData → Type 0) (end : End) (e D : SessionData) → e.end ≡ end → (cond (is_done end) D e).end ≡ Done → (D.end ≡ Done → X D) → X (cond (is_done end) D e)
done_then X Done e D h g f = f g
done_then X Stopped e D h g f = absurd (subst ok (sym (sym h ∙ g)) tt)
done_then X (OutOfRange x) e D h g f = absurd (subst ok (sym (sym h ∙ g)) tt)

pub asked_quiet : (known : Bool) (σ : StateData) → (bins_of (before_step known σ).trail ≡ []) × ((before_step known σ).bodies ≡ σ.bodies)
asked_quiet true σ = (refl, refl)
asked_quiet false σ = (refl, refl)

-- one base step in front of the later ones
one_more : (plan : Plan) (all : List ℕ) (d e D : SessionData) (p q : Progress) → IsSetup plan.rules.gravity.setup → Between plan.rules.gravity.setup all d → d.state.tick < plan.rules.gravity.setup.time_max →
    bins_of p.trail ≡ [] → p.bodies ≡ d.state.bodies → Undone plan.rules plan.rules.gravity.setup.top_bin all d.state.tick p q →
    SameRun (record (with_trail q.trail d) { state = advanced plan q d.state }) e → RunUndone plan.rules all e D → RunUndone plan.rules all d D
one_more plan all d e D p q h k below quiet here u same later =
    let r = plan.rules in
    let s = r.gravity.setup in
    let top = s.top_bin in
    let first : back r top u.parts all (d.state.steps * 2 ^ top) q.bodies ≡ Reached d.state.bodies = ap (λ t. back r top u.parts all t q.bodies) (sym k.timed.tick) ∙ u.turned.back ∙ ap Reached here in
    let rest : back_steps r all (d.state.steps + 1) later.steps D.state.bodies ≡ Reached q.bodies =
    ap (λ n. back_steps r all n later.steps D.state.bodies) (sym (same.times.steps ∙ next_steps s d.state h k.timed below)) ∙ later.back ∙ ap Reached same.times.bodies in
    let told : bins_of q.trail ≡ listed u.parts = u.turned.told ∙ ap (λ zs. zs ++ listed u.parts) quiet in
    record {
      steps = u.parts ∷ later.steps;
      each = (u.good, later.each);
      told = later.told ∙ ap (λ t. bins_of t ++ flat_map listed later.steps) same.trail ∙ ap (λ zs. zs ++ flat_map listed later.steps) (flat_map-append bins_in d.trail q.trail ∙ ap (λ zs. bins d ++ zs) told) ∙
          append_assoc (bins d) (listed u.parts) (flat_map listed later.steps);
      back = ap (λ z. z >>- (λ C. back r top u.parts all (d.state.steps * 2 ^ top) C)) rest ∙ first;
      count = later.count ∙ ap (λ n. n + length later.steps) (same.times.steps ∙ next_steps s d.state h k.timed below) ∙ omega arith;
      timed = later.timed;
      over = later.over;
      ids = later.ids;
    }

stepped : (plan : Plan) (stop : Option ℕ) (all : List ℕ) (n : ℕ) → IsSetup plan.rules.gravity.setup → Further plan stop all n → (d : SessionData) → Between plan.rules.gravity.setup all d → Enough plan.rules.gravity.setup (suc n) d.state → d.state.tick < plan.rules.gravity.setup.time_max →
    (p : Progress) → bins_of p.trail ≡ [] → p.bodies ≡ d.state.bodies → (step : Stepped) → Comes (Undone plan.rules plan.rules.gravity.setup.top_bin all d.state.tick p) step → (onward n plan stop d step).end ≡ Done → RunUndone plan.rules all d (onward n plan stop d step)
stepped plan stop all n h further d k en below p quiet here (Refused q x) u done = absurd (subst ok (sym done) tt)
stepped plan stop all n h further d k en below p quiet here (Resting q tick Fs) u done = absurd (subst ok (sym done) tt)
stepped plan stop all n h further d k en below p quiet here (Going q) u done =
    let s = plan.rules.gravity.setup in
    let before : Option ℕ = Some (d.state.steps * 2 ^ s.top_bin) in
    let x : SessionData = record (with_trail q.trail d) { state = advanced plan q d.state } in
    let e = synchronised plan stop before x in
    let same = sync_same plan stop before x in
    let there : Between s all e = record {
      timed = same_timed s x e same (next_timed plan q d.state h k.timed below);
      fit = subst AreFit (sym same.times.bodies) u.turned.fit;
      ids = ap ids_of same.times.bodies ∙ u.turned.ids ∙ ap ids_of here ∙ k.ids;
    } in
    let enough : Enough s n e.state = same_enough s n x e same (next_enough plan n q d.state h k.timed below en) in
    done_then (RunUndone plan.rules all d) e.end e (session_from n plan stop true e) refl done (λ g. one_more plan all d e (session_from n plan stop true e) p q h k below quiet here u same (further true e there enough g))

further_all : (plan : Plan) (stop : Option ℕ) (all : List ℕ) (n : ℕ) → IsSetup plan.rules.gravity.setup → Further plan stop all n
further_all plan stop all zero h known d k en done =
    let s = plan.rules.gravity.setup in
    either_way (is_running plan d.state)
    (λ run. absurd (over (ltb-true d.state.tick s.time_max run) en))
    (λ run. subst (RunUndone plan.rules all d) (sym (halted zero plan stop known d k.timed.depths run)) (nothing_more plan all d k run))
further_all plan stop all (suc n) h known d k en done =
    let r = plan.rules in
    let s = r.gravity.setup in
    let σ = d.state in
    either_way (is_running plan σ)
    (λ run.
    let p = before_step known σ in
    let quiet = asked_quiet known σ in
    let step = evolve r stop s.top_bin (ids_of σ.bodies) σ.tick p in
    let e : session_from (suc n) plan stop known d ≡ onward n plan stop d step = runs_on n plan stop known d k.timed.depths run in
    let u : Comes (Undone r s.top_bin all σ.tick p) step = subst (λ P. Comes (Undone r s.top_bin P σ.tick p) (evolve r stop s.top_bin (ids_of σ.bodies) σ.tick p)) k.ids (evolve_undone r stop h.bin_low s.top_bin (ids_of σ.bodies) σ.tick p h.bins_ordered (subst AreFit (sym quiet.1) k.fit)) in
    subst (RunUndone r all d) (sym e) (stepped plan stop all n h (further_all plan stop all n h) d k en (ltb-true σ.tick s.time_max run) p quiet.0 quiet.1 step u (sym (ap (λ z. z.end) e) ∙ done)))
    (λ run. subst (RunUndone r all d) (sym (halted (suc n) plan stop known d k.timed.depths run)) (nothing_more plan all d k run))

pub runs_are_taken_back : RunsAreTakenBack
unfolding session
runs_are_taken_back plan stop σ z within h done =
    let r = plan.rules in
    let s = r.gravity.setup in
    let start : SessionData = record { state = σ; written = []; trail = []; states = []; questions = []; end = Done } in
    let e = synchronised plan stop None start in
    let same = sync_same plan stop None start in
    let D = session_from (s.time_max + 1) plan stop false e in
    let tick : σ.tick ≡ σ.steps * 2 ^ s.top_bin = z.tick ∙ sym (ap (λ n. n * 2 ^ s.top_bin) z.steps ∙ zero_times (2 ^ s.top_bin)) in
    let timed : IsTimed s σ = record { depths = z.depths; tick = tick; near = omega (arith, z.tick, pow_pos s.top_bin) } in
    let there : Between s (ids_of σ.bodies) e = record { timed = same_timed s start e same timed; fit = subst AreFit (sym same.times.bodies) (fit_within σ.bodies within); ids = ap ids_of same.times.bodies } in
    let u = further_all plan stop (ids_of σ.bodies) (s.time_max + 1) h false e there (omega arith) done in
    let first : e.state.steps ≡ 0 = same.times.steps ∙ z.steps in
    record {
      ids = u.ids;
      steps = u.steps;
      told = u.told ∙ ap (λ t. bins_of t ++ flat_map listed u.steps) same.trail;
      good = record {
        all = omega (arith, u.count, first, all_steps s D.state u.timed u.over);
        each = subst (λ all. AllByRecursion (AreParts s.low_bin s.top_bin all) u.steps) (sym u.ids) u.each;
      };
      back = (λ i. back_steps r (u.ids i) (sym first i) u.steps D.state.bodies) ∙ u.back ∙ ap Reached same.times.bodies;
    }
  where
    zero_times : (y : ℕ) → 0 * y ≡ 0
    zero_times y = omega arith
