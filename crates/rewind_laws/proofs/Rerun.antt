-- A run from what taking back came to ends with what was taken back.
use Rattle.std.proofs.Common.{◌≡◌, ◌<◌, ℕ, zero, suc, ◌+◌, ◌*◌, ◌^◌, Bool, true, false, List, [], ◌∷◌, ◌++◌, length, Option, Some, None, refl, ap, sym, ◌∙◌, subst, arith, append_assoc, append-nil}
use Rattle.std.specs.List.{AllByRecursion, flat_map}
use Rattle.std.proofs.lemmas.Bool.{lt-ltb, le-ltb}
use Rattle.std.proofs.lemmas.Grind.{flat_map-append}
use Rattle.std.proofs.lemmas.Nat.{pow_pos}
use Rattle.nbody_model.specs.Bodies.{BodyData}
use Rattle.nbody_model.specs.Setups.{IsSetup}
use Rattle.nbody_model.specs.Tables.{Rules}
use Rattle.nbody_model.specs.Evolve.{bins_in, bins_of, Progress, Stepped, Going, Refused, Resting, evolve}
use Rattle.nbody_model.specs.Session.{Plan, SessionData, Done, synchronised, advanced, with_trail, session_from, bins, session}
use Rattle.model_laws.specs.Nests.{ids_of}
use Rattle.model_laws.proofs.Resumed.{onward, halted, over, sync_done, done_on}
use Rattle.rewind_laws.specs.Back.{StepParts, listed, AreParts, base_steps, Reached, back, back_steps}
use Rattle.rewind_laws.specs.Rewound.{WhatIsTakenBackIsRun}
use Rattle.rewind_laws.proofs.Fits.{AreFit}
use Rattle.rewind_laws.proofs.Steps.{sync_same, first_done, before_step, runs_on, IsTimed, Enough, next_steps, next_timed, next_enough, same_timed, same_enough, few_steps, enough_steps}
use Rattle.rewind_laws.proofs.Runs.{fit_within, asked_quiet}
use Rattle.rewind_laws.proofs.Told.{reached_same}
use Rattle.rewind_laws.proofs.Again.{Goes, Made, through, evolve_redone}

-- bodies with these ids, in the box, with momenta in range
record Fits (all : List ℕ) (B : List BodyData) : Type 0 where
  fit : AreFit B
  ids : ids_of B ≡ all

one_fits : (r : Rules) (all : List ℕ) (t : ℕ) (parts : StepParts) (B C : List BodyData) → IsSetup r.gravity.setup → AreParts r.gravity.setup.low_bin r.gravity.setup.top_bin all parts → Fits all B → back r r.gravity.setup.top_bin parts all t B ≡ Reached C → Fits all C
one_fits r all t parts B C h good k e =
    let a = evolve_redone r h.bin_low r.gravity.setup.top_bin parts all t h.bins_ordered good (record { bodies = C; trail = [] }) B k.fit e in
    record { fit = a.fit; ids = a.ids ∙ k.ids }

steps_fit : (r : Rules) (all : List ℕ) (n : ℕ) (steps : List StepParts) (B C : List BodyData) → IsSetup r.gravity.setup → AllByRecursion (AreParts r.gravity.setup.low_bin r.gravity.setup.top_bin all) steps → Fits all B → back_steps r all n steps B ≡ Reached C → Fits all C
steps_fit r all n [] B C h good k e = subst (Fits all) (reached_same B C e) k
steps_fit r all n (parts ∷ steps) B C h good k e =
    let top = r.gravity.setup.top_bin in
    let x = through (λ D. back r top parts all (n * 2 ^ top) D) (back_steps r all (n + 1) steps) B C e in
    one_fits r all (n * 2 ^ top) parts x.at C h good.0 (steps_fit r all (n + 1) steps B x.at h good.1 k x.first) x.then

-- what is to show of a session from d on
record Comes (B : List BodyData) (steps : List StepParts) (d D : SessionData) : Type 0 where
  end : D.end ≡ Done
  bodies : D.state.bodies ≡ B
  told : bins D ≡ bins d ++ flat_map listed steps

-- taking back came to the bodies of d
record CameTo (r : Rules) (all : List ℕ) (B : List BodyData) (steps : List StepParts) (d : SessionData) : Type 0 where
  timed : IsTimed r.gravity.setup d.state
  end : d.end ≡ Done
  count : d.state.steps + length steps ≡ base_steps r.gravity.setup
  good : AllByRecursion (AreParts r.gravity.setup.low_bin r.gravity.setup.top_bin all) steps
  ids : ids_of d.state.bodies ≡ all
  back : back_steps r all d.state.steps steps B ≡ Reached d.state.bodies

abbrev Further : Plan → List ℕ → List BodyData → List StepParts → Type 0
Further plan all B steps = (n : ℕ) (known : Bool) (d : SessionData) → Enough plan.rules.gravity.setup n d.state → CameTo plan.rules all B steps d → Comes B steps d (session_from n plan None known d)

stepped : (plan : Plan) (all : List ℕ) (B : List BodyData) (n : ℕ) (parts : StepParts) (steps : List StepParts) → IsSetup plan.rules.gravity.setup → Further plan all B steps → (d : SessionData) (C : List BodyData) → CameTo plan.rules all B (parts ∷ steps) d →
    Enough plan.rules.gravity.setup (suc n) d.state → d.state.tick < plan.rules.gravity.setup.time_max → back_steps plan.rules all (d.state.steps + 1) steps B ≡ Reached C → ids_of C ≡ all →
    (p : Progress) → bins_of p.trail ≡ [] → (step : Stepped) → Goes (Made (listed parts) C p) step → Comes B (parts ∷ steps) d (onward n plan None d step)
stepped plan all B n parts steps h further d C k en below e ids p quiet (Refused q x) g = absurd g
stepped plan all B n parts steps h further d C k en below e ids p quiet (Resting q tick Fs) g = absurd g
stepped plan all B n parts steps h further d C k en below e ids p quiet (Going q) g =
    let s = plan.rules.gravity.setup in
    let before : Option ℕ = Some (d.state.steps * 2 ^ s.top_bin) in
    let x : SessionData = record (with_trail q.trail d) { state = advanced plan q d.state } in
    let y = synchronised plan None before x in
    let same = sync_same plan None before x in
    let done = sync_done plan before x in
    let count : y.state.steps ≡ d.state.steps + 1 = same.times.steps ∙ next_steps s d.state h k.timed below in
    let here : y.state.bodies ≡ C = same.times.bodies ∙ g.bodies in
    let later = further n true y (same_enough s n x y same (next_enough plan n q d.state h k.timed below en)) (record {
      timed = same_timed s x y same (next_timed plan q d.state h k.timed below);
      end = done;
      count = omega (arith, count, k.count);
      good = k.good.1;
      ids = ap ids_of here ∙ ids;
      back = ap (λ m. back_steps plan.rules all m steps B) count ∙ e ∙ ap Reached (sym here);
    }) in
    let told : bins_of q.trail ≡ listed parts = g.told ∙ ap (λ zs. zs ++ listed parts) quiet in
    subst (Comes B (parts ∷ steps) d) (sym (done_on n plan None y done)) (record {
      end = later.end;
      bodies = later.bodies;
      told = later.told ∙ ap (λ t. bins_of t ++ flat_map listed steps) same.trail ∙ ap (λ zs. zs ++ flat_map listed steps) (flat_map-append bins_in d.trail q.trail ∙ ap (λ zs. bins d ++ zs) told) ∙
          append_assoc (bins d) (listed parts) (flat_map listed steps);
    })

further_all : (plan : Plan) (all : List ℕ) (B : List BodyData) (steps : List StepParts) → IsSetup plan.rules.gravity.setup → Fits all B → Further plan all B steps
further_all plan all B [] h fits n known d en k =
    let s = plan.rules.gravity.setup in
    let late = enough_steps s d.state k.timed (omega (arith, k.count)) in
    subst (Comes B [] d) (sym (halted n plan None known d k.timed.depths (le-ltb d.state.tick s.time_max late))) (record { end = k.end; bodies = sym (reached_same B d.state.bodies k.back); told = sym (append-nil (bins d)) })
further_all plan all B (parts ∷ steps) h fits zero known d en k =
    absurd (over (few_steps plan.rules.gravity.setup d.state k.timed (omega (arith, k.count))) en)
further_all plan all B (parts ∷ steps) h fits (suc n) known d en k =
    let r = plan.rules in
    let s = r.gravity.setup in
    let top = s.top_bin in
    let σ = d.state in
    let below = few_steps s σ k.timed (omega (arith, k.count)) in
    let x = through (λ D. back r top parts all (σ.steps * 2 ^ top) D) (back_steps r all (σ.steps + 1) steps) B σ.bodies k.back in
    let there = steps_fit r all (σ.steps + 1) steps B x.at h k.good.1 fits x.first in
    let p = before_step known σ in
    let quiet = asked_quiet known σ in
    let t : back r top parts all σ.tick x.at ≡ Reached p.bodies = ap (λ u. back r top parts all u x.at) k.timed.tick ∙ x.then ∙ ap Reached (sym quiet.1) in
    let a = evolve_redone r h.bin_low top parts all σ.tick h.bins_ordered k.good.0 p x.at there.fit t in
    let step = evolve r None top (ids_of σ.bodies) σ.tick p in
    let goes : Goes (Made (listed parts) x.at p) step = subst (λ P. Goes (Made (listed parts) x.at p) (evolve r None top P σ.tick p)) (sym k.ids) a.goes in
    subst (Comes B (parts ∷ steps) d) (sym (runs_on n plan None known d k.timed.depths (lt-ltb σ.tick s.time_max below)))
    (stepped plan all B n parts steps h (further_all plan all B steps h fits) d x.at k en below x.first there.ids p quiet.0 step goes)

pub what_is_taken_back_is_run : WhatIsTakenBackIsRun
unfolding session
what_is_taken_back_is_run plan B steps σ h within good z e =
    let r = plan.rules in
    let s = r.gravity.setup in
    let all = ids_of B in
    let start : SessionData = record { state = σ; written = []; trail = []; states = []; questions = []; end = Done } in
    let first = synchronised plan None None start in
    let same = sync_same plan None None start in
    let fits : Fits all B = record { fit = fit_within B within; ids = refl } in
    let tick : σ.tick ≡ σ.steps * 2 ^ s.top_bin = z.tick ∙ sym (ap (λ n. n * 2 ^ s.top_bin) z.steps ∙ zero_times (2 ^ s.top_bin)) in
    let timed : IsTimed s σ = record { depths = z.depths; tick = tick; near = omega (arith, z.tick, pow_pos s.top_bin) } in
    let none : first.state.steps ≡ 0 = same.times.steps ∙ z.steps in
    let a = steps_fit r all 0 steps B σ.bodies h good.each fits e in
    let c = further_all plan all B steps h fits (s.time_max + 1) false first (omega arith) (record {
      timed = same_timed s start first same timed;
      end = first_done plan None start;
      count = omega (arith, none, good.all);
      good = good.each;
      ids = ap ids_of same.times.bodies ∙ a.ids;
      back = ap (λ n. back_steps r all n steps B) none ∙ e ∙ ap Reached (sym same.times.bodies);
    }) in
    record { end = c.end; bodies = c.bodies; told = c.told ∙ ap (λ t. bins_of t ++ flat_map listed steps) same.trail }
  where
    zero_times : (y : ℕ) → 0 * y ≡ 0
    zero_times y = omega arith
