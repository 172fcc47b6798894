-- Parts of a step one after another.
use Rattle.std.proofs.Common.{◌≡◌, ◌≤◌, ◌<◌, inl, inr, ℕ, ◌+◌, List, [], ◌++◌, Option, Some, None, Result, Ok, Err, ap, sym, ◌∙◌, subst, arith, append_assoc}
use Rattle.std.proofs.lemmas.List.{append-nil}
use Rattle.nbody_model.specs.Bodies.{BodyData}
use Rattle.nbody_model.specs.Evolve.{Happening, Progress, Stepped, Going, Refused, Resting, Refusal, MomRange, StepRange, ◌>>=◌}
use Rattle.model_laws.specs.Conserved.{IsConserved}
use Rattle.step_engine.specs.declared.halt.Halt.{Halt}
use Rattle.step_engine.specs.declared.halt.Halt.TheVariants as halts
use Rattle.step_engine.specs.Taken.{Tale}
use Rattle.step_engine.specs.Told.{Finder}
use Rattle.step_engine.specs.Stands.{Now, IsAt}
use Rattle.step_engine.specs.Ends.{NoYes, trail_of, GoesTo, IsRefused, Rests, IsCut, IsOutside, Shows, IsStill, HasCause, Makes}

-- one list is the other with more behind it
pub record More (xs ys : List Happening) : Type 0 where
  pub more : List Happening
  pub is : ys ≡ xs ++ more

-- a part of a step only adds to what happened
abbrev pub OnlyAdds : (Progress → Stepped) → Type 0
OnlyAdds f = (q : Progress) → More q.trail (trail_of (f q))

pub all_there : (xs : List Happening) → More xs xs
all_there xs = record { more = []; is = sym (append-nil xs) }

pub conserved_on : (A B C : List BodyData) → IsConserved A B [] → IsConserved B C [] → IsConserved A C []
conserved_on A B C h k = record { bodies = k.bodies; same = k.same ∙ h.same; momentum = k.momentum ∙ h.momentum; told = tt }

module _ (passes : Finder) where
  -- what goes on has what holds of the rest
  at : (a : List ℕ) (before : Tale) (s : Stepped) (M : Now) (Q : Stepped → Type 0) (f : Progress → Stepped) → GoesTo passes a before s M → ((q : Progress) → IsAt passes a before NoYes q M → Q (f q)) → Q (s >>= f)
  at a before (Going q) M Q f h k = k q h
  at a before (Refused q e) M Q f h k = absurd h
  at a before (Resting q u Fs) M Q f h k = absurd h

  earlier : (f1 t1 f2 t2 : ℕ) (stop : Option ℕ) → f1 ≤ f2 → t1 ≤ t2 → IsOutside f1 t2 stop → IsOutside f1 t1 stop
  earlier f1 t1 f2 t2 None h k o = tt
  earlier f1 t1 f2 t2 (Some u) h k (inl o) = inl o
  earlier f1 t1 f2 t2 (Some u) h k (inr o) = inr (omega (arith, o, k))

  later : (f1 f2 t2 : ℕ) (stop : Option ℕ) → f1 ≤ f2 → IsOutside f1 t2 stop → IsOutside f2 t2 stop
  later f1 f2 t2 None h o = tt
  later f1 f2 t2 (Some u) h (inl o) = inl (omega (arith, o, h))
  later f1 f2 t2 (Some u) h (inr o) = inr o

  shown : {U : Type 0} (a : List ℕ) (before : Tale) (n f1 t1 f2 t2 : ℕ) (X : Option ℕ → Stepped) (Y : Option ℕ → Progress → Stepped) (answer : Result U Halt) (M Z : Now) →
      f1 ≤ f2 → t1 ≤ t2 → t1 ≤ f2 + 1 → ((stop : Option ℕ) → IsOutside f1 t1 stop → GoesTo passes a before (X stop) M) →
      ((q : Progress) → IsAt passes a before NoYes q M → Shows passes a before n f2 t2 (λ stop. Y stop q) answer Z) → Shows passes a before n f1 t2 (λ stop. X stop >>= Y stop) answer Z
  shown a before n f1 t1 f2 t2 X Y (Ok x) M Z h k l g m = λ stop o. at a before (X stop) M (λ s. GoesTo passes a before s Z) (Y stop) (g stop (earlier f1 t1 f2 t2 stop h k o)) (λ q w. m q w stop (later f1 f2 t2 stop h o))
  shown a before n f1 t1 f2 t2 X Y (Err (halts.MomRange tick bin id axis)) M Z h k l g m = at a before (X None) M (λ s. IsRefused passes a before (MomRange tick bin id axis) s Z) (Y None) (g None tt) m
  shown a before n f1 t1 f2 t2 X Y (Err (halts.StepRange tick id)) M Z h k l g m = at a before (X None) M (λ s. IsRefused passes a before (StepRange tick id) s Z) (Y None) (g None tt) m
  shown a before n f1 t1 f2 t2 X Y (Err (halts.Rest u)) M Z h k l g m =
      let inner : (f2 < u) × (u < t2) = at a before (X None) M (λ s. (f2 < u) × (u < t2)) (Y None) (g None tt) (λ q w. let r = m q w in (r.0, r.1)) in (
        omega (arith, h, inner.0),
        inner.1,
        at a before (X (Some u)) M (λ s. Rests passes a before n u s Z) (Y (Some u)) (g (Some u) (inr (omega (arith, l, inner.0)))) (λ q w. (m q w).2),
      )
  shown a before n f1 t1 f2 t2 X Y (Err halts.OutFault) M Z h k l g m = at a before (X None) M (λ s. IsCut passes a before (trail_of s) Z) (Y None) (g None tt) m
  shown a before n f1 t1 f2 t2 X Y (Err halts.Memory) M Z h k l g m = at a before (X None) M (λ s. IsCut passes a before (trail_of s) Z) (Y None) (g None tt) m

  still_on : (A M Z : Now) → IsStill A M → IsStill M Z → IsStill A Z
  still_on A M Z h k = record { faults = k.faults ∙ h.faults; yes = k.yes ∙ h.yes; depth = k.depth ∙ h.depth }

  cause_on : {U : Type 0} (n : ℕ) (answer : Result U Halt) (A M Z : Now) → IsStill A M → HasCause n answer M Z → HasCause n answer A Z
  cause_on n (Ok x) A M Z h k = still_on A M Z h k
  cause_on n (Err (halts.MomRange tick bin id axis)) A M Z h k = still_on A M Z h k
  cause_on n (Err (halts.StepRange tick id)) A M Z h k = still_on A M Z h k
  cause_on n (Err (halts.Rest u)) A M Z h k = (k.0 ∙ h.faults, rw (← h.yes) k.1, k.2)
  cause_on n (Err halts.OutFault) A M Z h k = (rw (← h.faults) k.0, k.1 ∙ h.yes)
  cause_on n (Err halts.Memory) A M Z h k = still_on A M Z h k

  -- a part that is made to its end, and then another one
  pub joined : {T U : Type 0} (n most1 most2 f1 t1 f2 t2 : ℕ) (X Y : Option ℕ → Progress → Stepped) (x : T) (answer : Result U Halt) (A M Z : Now) →
      f1 ≤ f2 → t1 ≤ t2 → t1 ≤ f2 + 1 → Makes {T = T} passes n most1 f1 t1 X (Ok x) A M → Makes passes n most2 f2 t2 Y answer M Z → Makes passes n (most1 + most2) f1 t2 (λ stop p. X stop p >>= Y stop) answer A Z
  joined n most1 most2 f1 t1 f2 t2 X Y x answer A M Z h k l one two = record {
    gravity = two.gravity ∙ one.gravity;
    fixed = two.fixed ∙ one.fixed;
    conserved = conserved_on A.bodies M.bodies Z.bodies one.conserved two.conserved;
    cause = cause_on n answer A M Z one.cause two.cause;
    few = omega (arith, one.few, two.few);
    counted = λ c. two.counted (one.counted c);
    shows = λ a before p w. shown a before n f1 t1 f2 t2 (λ stop. X stop p) Y answer M Z h k l (one.shows a before p w) (λ q v. two.shows a before q v);
  }

  -- a part that isn't made to its end
  refused_on : (a : List ℕ) (before : Tale) (why : Refusal) (s : Stepped) (f : Progress → Stepped) (Z : Now) → IsRefused passes a before why s Z → IsRefused passes a before why (s >>= f) Z
  refused_on a before why (Going p) f Z h = absurd h
  refused_on a before why (Refused p e) f Z h = h
  refused_on a before why (Resting p u Fs) f Z h = absurd h

  rests_on : (a : List ℕ) (before : Tale) (n u : ℕ) (s : Stepped) (f : Progress → Stepped) (Z : Now) → Rests passes a before n u s Z → Rests passes a before n u (s >>= f) Z
  rests_on a before n u (Going p) f Z h = absurd h
  rests_on a before n u (Refused p e) f Z h = absurd h
  rests_on a before n u (Resting p v Fs) f Z h = h

  adds_on : (s : Stepped) (f : Progress → Stepped) → OnlyAdds f → More (trail_of s) (trail_of (s >>= f))
  adds_on (Going p) f k = k p
  adds_on (Refused p e) f k = record { more = []; is = sym (append-nil p.trail) }
  adds_on (Resting p u Fs) f k = record { more = []; is = sym (append-nil p.trail) }

  pub cut_on : (a : List ℕ) (before : Tale) (xs ys : List Happening) (Z : Now) → More xs ys → IsCut passes a before xs Z → IsCut passes a before ys Z
  cut_on a before xs ys Z m c = record { first = c.first; later = c.later ++ m.more; parts = m.is ∙ ap (λ zs. zs ++ m.more) c.parts ∙ append_assoc c.first c.later m.more; entries = c.entries; state = c.state; told = c.told; took = c.took; kind = c.kind }

  halted_shown : (T U : Type 0) (a : List ℕ) (before : Tale) (n f1 t1 f t : ℕ) (X : Option ℕ → Stepped) (Y : Option ℕ → Progress → Stepped) (e : Halt) (Z : Now) →
      f ≤ f1 → t1 ≤ t → OnlyAdds (Y None) → Shows {T = T} passes a before n f1 t1 X (Err e) Z → Shows {T = U} passes a before n f t (λ stop. X stop >>= Y stop) (Err e) Z
  halted_shown T U a before n f1 t1 f t X Y (halts.MomRange tick bin id axis) Z h k l s = refused_on a before (MomRange tick bin id axis) (X None) (Y None) Z s
  halted_shown T U a before n f1 t1 f t X Y (halts.StepRange tick id) Z h k l s = refused_on a before (StepRange tick id) (X None) (Y None) Z s
  halted_shown T U a before n f1 t1 f t X Y (halts.Rest u) Z h k l s = (omega (arith, h, s.0), omega (arith, k, s.1), rests_on a before n u (X (Some u)) (Y (Some u)) Z s.2)
  halted_shown T U a before n f1 t1 f t X Y halts.OutFault Z h k l s = cut_on a before (trail_of (X None)) (trail_of (X None >>= Y None)) Z (adds_on (X None) (Y None) l) s
  halted_shown T U a before n f1 t1 f t X Y halts.Memory Z h k l s = cut_on a before (trail_of (X None)) (trail_of (X None >>= Y None)) Z (adds_on (X None) (Y None) l) s

  halt_cause : (T U : Type 0) (n : ℕ) (e : Halt) (A Z : Now) → HasCause {T = T} n (Err e) A Z → HasCause {T = U} n (Err e) A Z
  halt_cause T U n (halts.MomRange tick bin id axis) A Z h = h
  halt_cause T U n (halts.StepRange tick id) A Z h = h
  halt_cause T U n (halts.Rest u) A Z h = h
  halt_cause T U n halts.OutFault A Z h = h
  halt_cause T U n halts.Memory A Z h = h

  pub halted : {T U : Type 0} (n most1 most f1 t1 f t : ℕ) (X Y : Option ℕ → Progress → Stepped) (e : Halt) (A Z : Now) →
      f ≤ f1 → t1 ≤ t → most1 ≤ most → OnlyAdds (Y None) → Makes {T = T} passes n most1 f1 t1 X (Err e) A Z → Makes {T = U} passes n most f t (λ stop p. X stop p >>= Y stop) (Err e) A Z
  halted {T = T} {U = U} n most1 most f1 t1 f t X Y e A Z h k m l one = record {
    gravity = one.gravity;
    fixed = one.fixed;
    conserved = one.conserved;
    cause = halt_cause T U n e A Z one.cause;
    few = omega (arith, one.few, m);
    counted = one.counted;
    shows = λ a before p w. halted_shown T U a before n f1 t1 f t (λ stop. X stop p) Y e Z h k l (one.shows a before p w);
  }

  -- ---- the same part, otherwise said

  same_shown : {T : Type 0} (a : List ℕ) (before : Tale) (n f t : ℕ) (X Y : Option ℕ → Stepped) (answer : Result T Halt) (Z : Now) → ((stop : Option ℕ) → X stop ≡ Y stop) → Shows passes a before n f t Y answer Z → Shows passes a before n f t X answer Z
  same_shown a before n f t X Y answer Z e s = subst (λ W. Shows passes a before n f t W answer Z) (λ i stop. sym (e stop) i) s

  pub same : {T : Type 0} (n most f t : ℕ) (X Y : Option ℕ → Progress → Stepped) (answer : Result T Halt) (A Z : Now) → ((stop : Option ℕ) (p : Progress) → p.bodies ≡ A.bodies → X stop p ≡ Y stop p) → Makes passes n most f t Y answer A Z → Makes passes n most f t X answer A Z
  same n most f t X Y answer A Z e one = record {
    gravity = one.gravity;
    fixed = one.fixed;
    conserved = one.conserved;
    cause = one.cause;
    few = one.few;
    counted = one.counted;
    shows = λ a before p w. same_shown a before n f t (λ stop. X stop p) (λ stop. Y stop p) answer Z (λ stop. e stop p w.bodies) (one.shows a before p w);
  }

  -- with another value
  pub valued : {T U : Type 0} (n most f t : ℕ) (X : Option ℕ → Progress → Stepped) (x : T) (y : U) (A Z : Now) → Makes {T = T} passes n most f t X (Ok x) A Z → Makes {T = U} passes n most f t X (Ok y) A Z
  valued n most f t X x y A Z one = record { gravity = one.gravity; fixed = one.fixed; conserved = one.conserved; cause = one.cause; few = one.few; counted = one.counted; shows = one.shows }

  halt_shown : (T U : Type 0) (a : List ℕ) (before : Tale) (n f t : ℕ) (X : Option ℕ → Stepped) (e : Halt) (Z : Now) → Shows {T = T} passes a before n f t X (Err e) Z → Shows {T = U} passes a before n f t X (Err e) Z
  halt_shown T U a before n f t X (halts.MomRange tick bin id axis) Z s = s
  halt_shown T U a before n f t X (halts.StepRange tick id) Z s = s
  halt_shown T U a before n f t X (halts.Rest u) Z s = s
  halt_shown T U a before n f t X halts.OutFault Z s = s
  halt_shown T U a before n f t X halts.Memory Z s = s

  -- the same halt, of a call with another value
  pub halt_as : {T U : Type 0} (n most f t : ℕ) (X : Option ℕ → Progress → Stepped) (e : Halt) (A Z : Now) → Makes {T = T} passes n most f t X (Err e) A Z → Makes {T = U} passes n most f t X (Err e) A Z
  halt_as {T = T} {U = U} n most f t X e A Z one = record {
    gravity = one.gravity;
    fixed = one.fixed;
    conserved = one.conserved;
    cause = halt_cause T U n e A Z one.cause;
    few = one.few;
    counted = one.counted;
    shows = λ a before p w. halt_shown T U a before n f t (λ stop. X stop p) e Z (one.shows a before p w);
  }
