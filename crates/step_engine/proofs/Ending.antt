-- How a base step ends.
use Rattle.std.proofs.Common.{◌≡◌, ℕ, List, [], Option, Some, None, Ok, Err, refl, ap, ◌∙◌, subst}
use Rattle.std.specs.Prelude.{IfSome}
use Rattle.nbody_model.specs.Tables.{TableData, IsTable}
use Rattle.nbody_model.specs.Evolve.{Happening, Progress, Stepped, Going, Refused, Resting, Refusal, MomRange, StepRange, depths_of}
use Rattle.model_laws.specs.Laws.{CorrectsLittle}
use Rattle.model_laws.specs.Conserved.{start_of}
use Rattle.model_laws.proofs.Corrections.{corrects_little as table_corrects_little}
use Rattle.step_engine.specs.declared.halt.Halt.{Halt}
use Rattle.step_engine.specs.declared.halt.Halt.TheVariants as halts
use Rattle.step_engine.specs.declared.step_end.StepCount.{StepCount}
use Rattle.step_engine.specs.Taken.{Taken}
use Rattle.step_engine.specs.Told.{Finder, IsTold}
use Rattle.step_engine.specs.Stands.{Now, IsAt}
use Rattle.step_engine.specs.Halts.{end_of}
use Rattle.step_engine.specs.Ends.{NoYes, LastYes, trail_of, GoesTo, IsRefused, Rests, IsCut, Shows, HasCause, Makes}
use Rattle.step_engine.specs.BaseSteps.{Seen, Reaches, BreaksOff, Goes, Refuses, RestsAt, StepEnds, StepCause}
use Rattle.step_engine.proofs.Leaves.{adds_nothing}

-- a table that keeps its limits corrects little
pub corrects_little : (t : Option TableData) → IfSome t IsTable → CorrectsLittle t
corrects_little None h = tt
corrects_little (Some t) h = table_corrects_little t h

abbrev pub seen : Now → Seen
seen N = record { bodies = N.bodies; state = N.state; took = N.took }

abbrev pub count_of : Now → StepCount
count_of N = record { kicks = N.kicks; interactions = N.interactions }

module _ (passes : Finder) where
  -- nothing happened yet
  start_at : (A : Now) → A.kicks ≡ 0 → A.interactions ≡ 0 → IsAt passes A.state A.took NoYes (start_of A.bodies) A
  start_at A k i = record { entries = []; bodies = refl; told = record { each = tt; found = refl }; took = adds_nothing A.took; kind = tt; kicks = k; interactions = i }

  told_back : (A Z : Now) (trail : List Happening) (entries : List Taken) (z : List ℕ) → Z.gravity ≡ A.gravity → Z.fixed ≡ A.fixed → IsTold Z.gravity (passes Z.gravity Z.fixed) A.state trail entries z → IsTold A.gravity (passes A.gravity A.fixed) A.state trail entries z
  told_back A Z trail entries z g f t = subst (λ h. IsTold h (passes h A.fixed) A.state trail entries z) g (subst (λ xs. IsTold Z.gravity (passes Z.gravity xs) A.state trail entries z) f t)

  reaches : (A Z : Now) (K : List Taken → Type 0) (p : Progress) → Z.gravity ≡ A.gravity → Z.fixed ≡ A.fixed → IsAt passes A.state A.took K p Z → Reaches A.gravity (passes A.gravity A.fixed) (seen A) (seen Z) K p
  reaches A Z K p g f w = record { bodies = w.bodies; entries = w.entries; told = told_back A Z p.trail w.entries Z.state g f w.told; took = w.took; kind = w.kind }

  goes : (A Z : Now) (s : Stepped) → Z.gravity ≡ A.gravity → Z.fixed ≡ A.fixed → GoesTo passes A.state A.took s Z → Goes A.gravity (passes A.gravity A.fixed) (seen A) (seen Z) (count_of Z) s
  goes A Z (Going p) g f w = (reaches A Z NoYes p g f w, record { kicks = w.kicks; interactions = w.interactions })
  goes A Z (Refused p e) g f w = absurd w
  goes A Z (Resting p u Fs) g f w = absurd w

  refuses : (A Z : Now) (why : Refusal) (s : Stepped) → Z.gravity ≡ A.gravity → Z.fixed ≡ A.fixed → IsRefused passes A.state A.took why s Z → Refuses A.gravity (passes A.gravity A.fixed) (seen A) (seen Z) why s
  refuses A Z why (Going p) g f w = absurd w
  refuses A Z why (Refused p e) g f w = (w.0, reaches A Z NoYes p g f w.1)
  refuses A Z why (Resting p u Fs) g f w = absurd w

  rests_at : (A Z : Now) (n tick : ℕ) (s : Stepped) → Z.gravity ≡ A.gravity → Z.fixed ≡ A.fixed → Rests passes A.state A.took n tick s Z → RestsAt A.gravity (passes A.gravity A.fixed) (seen A) (seen Z) tick Z.depth (count_of Z) s
  rests_at A Z n tick (Going p) g f w = absurd w
  rests_at A Z n tick (Refused p e) g f w = absurd w
  rests_at A Z n tick (Resting p u Fs) g f w = (w.0.same, w.0.depth ∙ ap (depths_of Fs) w.1.bodies, reaches A Z (LastYes tick) p g f w.1, record { kicks = w.1.kicks; interactions = w.1.interactions })

  breaks_off : (A Z : Now) (trail : List Happening) → Z.gravity ≡ A.gravity → Z.fixed ≡ A.fixed → IsCut passes A.state A.took trail Z → BreaksOff A.gravity (passes A.gravity A.fixed) (seen A) (seen Z) trail
  breaks_off A Z trail g f c = record { first = c.first; later = c.later; parts = c.parts; entries = c.entries; state = c.state; told = told_back A Z c.first c.entries c.state g f c.told; took = c.took; kind = c.kind }

  pub ends_ok : {T : Type 0} (n most f t : ℕ) (step : Option ℕ → Progress → Stepped) (x : T) (A Z : Now) → A.kicks ≡ 0 → A.interactions ≡ 0 → Makes {T = T} passes n most f t step (Ok x) A Z →
      StepEnds A.gravity (passes A.gravity A.fixed) (seen A) (seen Z) (λ stop. step stop (start_of A.bodies)) f t (Ok (count_of Z))
  ends_ok n most f t step x A Z k i m = λ stop o. goes A Z (step stop (start_of A.bodies)) m.gravity m.fixed (m.shows A.state A.took (start_of A.bodies) (start_at A k i) stop o)

  ends_shown : (T : Type 0) (n f t : ℕ) (step : Option ℕ → Stepped) (h : Halt) (A Z : Now) → Z.gravity ≡ A.gravity → Z.fixed ≡ A.fixed → Shows {T = T} passes A.state A.took n f t step (Err h) Z →
      StepEnds A.gravity (passes A.gravity A.fixed) (seen A) (seen Z) step f t (Err (end_of h Z.depth (count_of Z)))
  ends_shown T n f t step (halts.MomRange tick bin id axis) A Z g e s = refuses A Z (MomRange tick bin id axis) (step None) g e s
  ends_shown T n f t step (halts.StepRange tick id) A Z g e s = refuses A Z (StepRange tick id) (step None) g e s
  ends_shown T n f t step (halts.Rest tick) A Z g e s = (s.0, s.1, rests_at A Z n tick (step (Some tick)) g e s.2)
  ends_shown T n f t step halts.OutFault A Z g e s = breaks_off A Z (trail_of (step None)) g e s
  ends_shown T n f t step halts.Memory A Z g e s = breaks_off A Z (trail_of (step None)) g e s

  pub ends_halt : {T : Type 0} (n most f t : ℕ) (step : Option ℕ → Progress → Stepped) (h : Halt) (A Z : Now) → A.kicks ≡ 0 → A.interactions ≡ 0 → Makes {T = T} passes n most f t step (Err h) A Z →
      StepEnds A.gravity (passes A.gravity A.fixed) (seen A) (seen Z) (λ stop. step stop (start_of A.bodies)) f t (Err (end_of h Z.depth (count_of Z)))
  ends_halt {T = T} n most f t step h A Z k i m = ends_shown T n f t (λ stop. step stop (start_of A.bodies)) h A Z m.gravity m.fixed (m.shows A.state A.took (start_of A.bodies) (start_at A k i))

-- ---- causes

pub halt_cause : (T : Type 0) (n : ℕ) (h : Halt) (A Z : Now) (depth : List ℕ) (count : StepCount) → HasCause {T = T} n (Err h) A Z → StepCause (Err (end_of h depth count)) A.faults Z.faults A.yes Z.yes
halt_cause T n (halts.MomRange tick bin id axis) A Z depth count c = (c.faults, c.yes)
halt_cause T n (halts.StepRange tick id) A Z depth count c = (c.faults, c.yes)
halt_cause T n (halts.Rest tick) A Z depth count c = (c.0, c.1)
halt_cause T n halts.OutFault A Z depth count c = c
halt_cause T n halts.Memory A Z depth count c = (c.faults, c.yes)
