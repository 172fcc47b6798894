-- What one call makes of a step.
use Rattle.std.proofs.Common.{◌≡◌, ◌≤◌, ◌==◌, inl, inr, ℕ, ◌+◌, ◌-◌, ◌*◌, ◌^◌, Bool, true, false, cond, List, [], ◌∷◌, ◌++◌, length, sum_by, Option, Some, None, Ok, Err, refl, ap, sym, ◌∙◌, subst, arith, append_assoc, length-append, ⊎_elim, suc}
use Rattle.std.specs.Prelude.{IsTrue}
use Rattle.std.specs.List.{AllByRecursion}
use Rattle.std.proofs.lemmas.Grind.{flat_map-append}
use Rattle.std.proofs.lemmas.List.{append-nil}
use Rattle.std.proofs.lemmas.List.Sums.{sum_by-append}
use Rattle.std.proofs.lemmas.Bool.{ne_eqb, eq-eqb}
use Rattle.store_io.specs.declared.errors.IoErr.{IoErr}
use Rattle.store_io.specs.declared.errors.IoErr.TheVariants as ios
use Rattle.store_io.specs.Causes.{io_failed, Rose}
use Rattle.store_io.specs.Sinks.{Counts}
use Rattle.nbody_model.specs.declared.kicks.Record.{Record}
use Rattle.nbody_model.specs.Bodies.{BodyData, only}
use Rattle.nbody_model.specs.Setups.{SetupData}
use Rattle.nbody_model.specs.Tables.{Rules}
use Rattle.nbody_model.specs.Fields.{FieldData}
use Rattle.nbody_model.specs.Steps.{change, kicked_bodies, first_out, drift}
use Rattle.nbody_model.specs.Evolve.{Happening, Asked, Kicked, Rested, record_in, records_of, asked_in, Progress, tell, Stepped, Going, Refused, Resting, MomRange, record_of, kick, rest, depths_of}
use Rattle.model_laws.specs.Laws.{AreBodies}
use Rattle.model_laws.specs.Conserved.{IsConserved}
use Rattle.model_laws.proofs.Among.{each-append}
use Rattle.step_engine.specs.declared.halt.Halt.TheVariants as halts
use Rattle.step_engine.specs.Taken.{Taken, Tale, TookForces, TookKick, TookRest, Adds, AddsPart}
use Rattle.step_engine.specs.Told.{Finder, AreForcesAmong, Tells, events_in, IsNoYes, IsTold}
use Rattle.step_engine.specs.Stands.{Now, IsAt}
use Rattle.step_engine.specs.Halts.{halt_for}
use Rattle.step_engine.specs.Ends.{NoYes, trail_of, GoesTo, IsRefused, Rests, IsCut, IsOutside, HasCause, Shows, Makes}
use Rattle.step_engine.proofs.Telling.{told_quiet, told_asked}
use Rattle.step_engine.proofs.Joins.{More, OnlyAdds}

pub adds_more : (before t u : Tale) (entries more : List Taken) → Adds before t entries → Adds t u more → Adds before u (entries ++ more)
adds_more before t u entries more h k = λ left earlier was. subst (λ xs. IsTrue (u left xs)) (append_assoc earlier entries more) (k left (earlier ++ entries) (h left earlier was))

pub adds_none : (before t u : Tale) (entries : List Taken) → Adds before t entries → Adds t u [] → Adds before u entries
adds_none before t u entries h k = subst (Adds before u) (append-nil entries) (adds_more before t u entries [] h k)

pub adds_nothing : (t : Tale) → Adds t t []
adds_nothing t = λ left earlier was. subst (λ xs. IsTrue (t left xs)) (sym (append-nil earlier)) was

records_more : (trail : List Happening) (what : Happening) → record_in what ≡ [] → records_of (trail ++ what ∷ []) ≡ records_of trail
records_more trail what e = flat_map-append record_in trail (what ∷ []) ∙ ap (λ xs. records_of trail ++ (xs ++ [])) e ∙ append-nil (records_of trail)

pub conserved_same : (A : List BodyData) → AreBodies A → IsConserved A A []
conserved_same A h = record { bodies = h; same = refl; momentum = refl; told = tt }

-- from A to Z nothing was lost, and at most so many kicks were made; no answer was yes
pub record Leads (most : ℕ) (A Z : Now) : Type 0 where
  pub gravity : Z.gravity ≡ A.gravity
  pub fixed : Z.fixed ≡ A.fixed
  pub conserved : IsConserved A.bodies Z.bodies []
  pub few : Z.kicks ≤ A.kicks + most
  pub counted : A.interactions ≤ A.kicks * 2 ^ 65 → Z.interactions ≤ Z.kicks * 2 ^ 65
  pub yes : Z.yes ≡ A.yes
  pub depth : Z.depth ≡ A.depth

-- nothing was done
pub leads_any : (most : ℕ) (A : Now) → AreBodies A.bodies → Leads most A A
leads_any most A b = record { gravity = refl; fixed = refl; conserved = conserved_same A.bodies b; few = omega arith; counted = λ c. c; yes = refl; depth = refl }

-- bodies and counts stayed
pub leads_same : (A Z : Now) → AreBodies A.bodies → Z.gravity ≡ A.gravity → Z.fixed ≡ A.fixed → Z.bodies ≡ A.bodies → Z.kicks ≡ A.kicks → Z.interactions ≡ A.interactions → Z.yes ≡ A.yes → Z.depth ≡ A.depth → Leads 0 A Z
leads_same A Z b g f e k n y d = record {
  gravity = g;
  fixed = f;
  conserved = subst (λ C. IsConserved A.bodies C []) (sym e) (conserved_same A.bodies b);
  few = omega (arith, k);
  counted = λ h. rw (k, n) h;
  yes = y;
  depth = d;
}

module _ (passes : Finder) where
  -- what was told there is told here
  pub told_moved : (A Z : Now) (a : List ℕ) (trail : List Happening) (entries : List Taken) (z : List ℕ) → Z.gravity ≡ A.gravity → Z.fixed ≡ A.fixed → IsTold A.gravity (passes A.gravity A.fixed) a trail entries z → IsTold Z.gravity (passes Z.gravity Z.fixed) a trail entries z
  told_moved A Z a trail entries z g f t = subst (λ h. IsTold h (passes h Z.fixed) a trail entries z) (sym g) (subst (λ xs. IsTold A.gravity (passes A.gravity xs) a trail entries z) (sym f) t)

  -- a thing that is told by an entry
  abbrev pub Tellable : (Progress → Happening) → Taken → Now → Now → Type 0
  Tellable what entry A Z = (a : List ℕ) (p : Progress) (entries : List Taken) → p.bodies ≡ A.bodies → IsTold A.gravity (passes A.gravity A.fixed) a p.trail entries A.state → IsTold A.gravity (passes A.gravity A.fixed) a (p.trail ++ what p ∷ []) (entries ++ entry ∷ []) Z.state

  pub quiet_tells : (what : Happening) (entry : Taken) (A Z : Now) → Z.state ≡ A.state → Tells A.gravity entry what → asked_in what ≡ [] → events_in entry ≡ [] → Tellable (λ p. what) entry A Z
  quiet_tells what entry A Z s e n m a p entries b t = subst (λ z. IsTold A.gravity (passes A.gravity A.fixed) a (p.trail ++ what ∷ []) (entries ++ entry ∷ []) z) (sym s) (told_quiet A.gravity (passes A.gravity A.fixed) a p.trail entries A.state what entry t e n m)

  pub force_tells : (P : List ℕ) (f : FieldData) (A Z : Now) → AreForcesAmong A.gravity (only A.bodies P) f → passes A.gravity A.fixed (only A.bodies P) A.state f.events Z.state → Tellable (λ p. Asked (only p.bodies P)) (TookForces f) A Z
  force_tells P f A Z e k a p entries b t =
      subst (λ B. IsTold A.gravity (passes A.gravity A.fixed) a (p.trail ++ Asked (only B P) ∷ []) (entries ++ TookForces f ∷ []) Z.state) (sym b)
      (told_asked A.gravity (passes A.gravity A.fixed) a p.trail entries A.state (only A.bodies P) f Z.state t e k)

  -- ---- a call that halts

  cut_shown : (T : Type 0) (a : List ℕ) (before : Tale) (n f t : ℕ) (X : Option ℕ → Stepped) (e : IoErr) (Z : Now) → IsCut passes a before (trail_of (X None)) Z → Shows {T = T} passes a before n f t X (Err (halt_for e)) Z
  cut_shown T a before n f t X ios.Failed Z c = c
  cut_shown T a before n f t X ios.Memory Z c = c

  cut_cause : (T : Type 0) (n most : ℕ) (e : IoErr) (A Z : Now) → Leads most A Z → Counts (io_failed {T = Unit {0}} (Err e)) A.faults Z.faults → HasCause {T = T} n (Err (halt_for e)) A Z
  cut_cause T n most ios.Failed A Z l c = (c.rose refl, l.yes)
  cut_cause T n most ios.Memory A Z l c = record { faults = c.kept refl; yes = l.yes; depth = l.depth }

  -- the last thing told is there or not
  cut_at : (a : List ℕ) (before : Tale) (what : Progress → Happening) (entry : Taken) (p : Progress) (trail : List Happening) (A Z : Now) → Z.gravity ≡ A.gravity → Z.fixed ≡ A.fixed → More (p.trail ++ what p ∷ []) trail → Tellable what entry A Z → IsNoYes entry →
      IsAt passes a before NoYes p A → AddsPart A.took Z.took entry → IsCut passes a before trail Z
  cut_at a before what entry p trail A Z g f m t n w (inl k) = record {
    first = p.trail ++ what p ∷ [];
    later = m.more;
    parts = m.is;
    entries = w.entries ++ entry ∷ [];
    state = Z.state;
    told = told_moved A Z a (p.trail ++ what p ∷ []) (w.entries ++ entry ∷ []) Z.state g f (t a p w.entries w.bodies w.told);
    took = adds_more before A.took Z.took w.entries (entry ∷ []) w.took k;
    kind = each-append IsNoYes w.entries (entry ∷ []) w.kind (n, tt);
  }
  cut_at a before what entry p trail A Z g f m t n w (inr k) = record {
    first = p.trail;
    later = what p ∷ m.more;
    parts = m.is ∙ append_assoc p.trail (what p ∷ []) m.more;
    entries = w.entries;
    state = A.state;
    told = told_moved A Z a p.trail w.entries A.state g f w.told;
    took = adds_none before A.took Z.took w.entries w.took k;
    kind = w.kind;
  }

  -- what happened couldn't be handed out
  pub broken : (T : Type 0) (n most f t : ℕ) (X : Option ℕ → Progress → Stepped) (what : Progress → Happening) (entry : Taken) (e : IoErr) (A Z : Now) → Leads most A Z → ((p : Progress) → p.bodies ≡ A.bodies → More (p.trail ++ what p ∷ []) (trail_of (X None p))) →
      Tellable what entry A Z → IsNoYes entry → AddsPart A.took Z.took entry → Counts (io_failed {T = Unit {0}} (Err e)) A.faults Z.faults → Makes {T = T} passes n most f t X (Err (halt_for e)) A Z
  broken T n most f t X what entry e A Z l m k quiet part c = record {
    gravity = l.gravity;
    fixed = l.fixed;
    conserved = l.conserved;
    cause = cut_cause T n most e A Z l c;
    few = l.few;
    counted = l.counted;
    shows = λ a before p w. cut_shown T a before n f t (λ stop. X stop p) e Z (cut_at a before what entry p (trail_of (X None p)) A Z l.gravity l.fixed (m p w.bodies) k quiet w part);
  }

  -- there was no memory before anything happened
  pub wanting : (T : Type 0) (n most f t : ℕ) (X : Option ℕ → Progress → Stepped) (A Z : Now) → Leads most A Z → OnlyAdds (X None) → Z.took ≡ A.took → Z.faults ≡ A.faults → Makes {T = T} passes n most f t X (Err halts.Memory) A Z
  wanting T n most f t X A Z l m k c = record {
    gravity = l.gravity;
    fixed = l.fixed;
    conserved = l.conserved;
    cause = record { faults = c; yes = l.yes; depth = l.depth };
    few = l.few;
    counted = l.counted;
    shows = λ a before p w. record {
      first = p.trail;
      later = (m p).more;
      parts = (m p).is;
      entries = w.entries;
      state = A.state;
      told = told_moved A Z a p.trail w.entries A.state l.gravity l.fixed w.told;
      took = rw k w.took;
      kind = w.kind;
    };
  }

  -- ---- a call that does its work

  -- a thing was told
  pub telling : (T : Type 0) (n tick : ℕ) (what : Progress → Happening) (entry : Taken) (x : T) (A Z : Now) → Leads 0 A Z → Z.bodies ≡ A.bodies → Z.kicks ≡ A.kicks → Z.interactions ≡ A.interactions → ((p : Progress) → record_in (what p) ≡ []) →
      Tellable what entry A Z → IsNoYes entry → Adds A.took Z.took (entry ∷ []) → Z.faults ≡ A.faults → Makes {T = T} passes n 0 tick tick (λ stop p. Going (tell (what p) p)) (Ok x) A Z
  telling T n tick what entry x A Z l b kicks acts none k quiet adds c = record {
    gravity = l.gravity;
    fixed = l.fixed;
    conserved = l.conserved;
    cause = record { faults = c; yes = l.yes; depth = l.depth };
    few = l.few;
    counted = l.counted;
    shows = λ a before p w stop o. record {
      entries = w.entries ++ entry ∷ [];
      bodies = w.bodies ∙ sym b;
      told = told_moved A Z a (p.trail ++ what p ∷ []) (w.entries ++ entry ∷ []) Z.state l.gravity l.fixed (k a p w.entries w.bodies w.told);
      took = adds_more before A.took Z.took w.entries (entry ∷ []) w.took adds;
      kind = each-append IsNoYes w.entries (entry ∷ []) w.kind (quiet, tt);
      kicks = kicks ∙ w.kicks ∙ ap length (sym (records_more p.trail (what p) (none p)));
      interactions = acts ∙ w.interactions ∙ ap (sum_by (λ k. k.pairs + k.fast_pairs)) (sym (records_more p.trail (what p) (none p)));
    };
  }

  -- ---- a kick

  -- the progress after a kick
  abbrev kicked_to : Rules → ℕ → List ℕ → List ℕ → ℕ → ℕ → Progress → Progress
  kicked_to r bin P F tick h p =
      let C = kicked_bodies h P (change r.gravity P F p.bodies) p.bodies in tell (Kicked (record_of r tick bin P F p.bodies C)) (record p { bodies = C })

  kick_refused_shown : (a : List ℕ) (before : Tale) (r : Rules) (bin : ℕ) (P F : List ℕ) (tick h : ℕ) (p : Progress) (id axis : ℕ) (A Z : Now) → r.gravity ≡ A.gravity →
      cond (h == 0) None (first_out (only (kicked_bodies h P (change A.gravity P F A.bodies) A.bodies) P)) ≡ Some (id, axis) → IsAt passes a before NoYes p Z → p.bodies ≡ A.bodies → IsRefused passes a before (MomRange tick bin id axis) (kick r bin P F tick h p) Z
  unfolding kick
  kick_refused_shown a before r bin P F tick h p id axis A Z g e w b =
      let out : cond (h == 0) None (first_out (only (kicked_bodies h P (change r.gravity P F p.bodies) p.bodies) P)) ≡ Some (id, axis) = (λ i. cond (h == 0) None (first_out (only (kicked_bodies h P (change (g i) P F (b i)) (b i)) P))) ∙ e in
      subst (λ (o : Option (ℕ × ℕ)). IsRefused passes a before (MomRange tick bin id axis) (elim o [ Some first ↦ Refused p (MomRange tick bin first.0 first.1) | None ↦ Going (kicked_to r bin P F tick h p) ]) Z) (sym out) (refl, w)

  -- a kick that is refused changes nothing
  pub kick_refused : (T : Type 0) (n t : ℕ) (r : Rules) (bin : ℕ) (P F : List ℕ) (tick h id axis : ℕ) (A : Now) → AreBodies A.bodies → r.gravity ≡ A.gravity →
      cond (h == 0) None (first_out (only (kicked_bodies h P (change A.gravity P F A.bodies) A.bodies) P)) ≡ Some (id, axis) → Makes {T = T} passes n 1 t t (λ stop p. kick r bin P F tick h p) (Err (halts.MomRange tick bin id axis)) A A
  kick_refused T n t r bin P F tick h id axis A b g e = record {
    gravity = refl;
    fixed = refl;
    conserved = conserved_same A.bodies b;
    cause = record { faults = refl; yes = refl; depth = refl };
    few = omega arith;
    counted = λ c. c;
    shows = λ a before p w. kick_refused_shown a before r bin P F tick h p id axis A A g e w w.bodies;
  }

  -- what the kick of the definition is, where it is made
  kick_is : (r : Rules) (bin : ℕ) (P F : List ℕ) (tick h : ℕ) (p : Progress) (A Z : Now) → r.gravity ≡ A.gravity → p.bodies ≡ A.bodies → Z.bodies ≡ kicked_bodies h P (change A.gravity P F A.bodies) A.bodies →
      cond (h == 0) None (first_out (only Z.bodies P)) ≡ None → kick r bin P F tick h p ≡ Going (tell (Kicked (record_of r tick bin P F A.bodies Z.bodies)) (record p { bodies = Z.bodies }))
  unfolding kick
  kick_is r bin P F tick h p A Z g b c e =
      let made : kicked_bodies h P (change r.gravity P F p.bodies) p.bodies ≡ Z.bodies = (λ i. kicked_bodies h P (change (g i) P F (b i)) (b i)) ∙ sym c in
      let out : cond (h == 0) None (first_out (only (kicked_bodies h P (change r.gravity P F p.bodies) p.bodies) P)) ≡ None = ap (λ C. cond (h == 0) None (first_out (only C P))) made ∙ e in
      ap (λ (o : Option (ℕ × ℕ)). elim o [ Some first ↦ Refused p (MomRange tick bin first.0 first.1) | None ↦ Going (kicked_to r bin P F tick h p) ]) out ∙
      (λ i. Going (tell (Kicked (record_of r tick bin P F (b i) (made i))) (record p { bodies = made i })))

  kicked_tells : (r : Rules) (tick bin : ℕ) (P F : List ℕ) (entry : Record) (A Z : Now) → Z.state ≡ A.state → entry ≡ record_of r tick bin P F A.bodies Z.bodies → Tellable (λ p. Kicked (record_of r tick bin P F A.bodies Z.bodies)) (TookKick entry) A Z
  kicked_tells r tick bin P F entry A Z s e = quiet_tells (Kicked (record_of r tick bin P F A.bodies Z.bodies)) (TookKick entry) A Z s (ap Kicked (sym e)) refl refl

  -- a kick that was made, but couldn't be handed out
  pub kick_broken : (T : Type 0) (n t : ℕ) (r : Rules) (bin : ℕ) (P F : List ℕ) (tick h : ℕ) (entry : Record) (e : IoErr) (A Z : Now) → Leads 1 A Z → r.gravity ≡ A.gravity → Z.state ≡ A.state →
      Z.bodies ≡ kicked_bodies h P (change A.gravity P F A.bodies) A.bodies → cond (h == 0) None (first_out (only Z.bodies P)) ≡ None → entry ≡ record_of r tick bin P F A.bodies Z.bodies →
      AddsPart A.took Z.took (TookKick entry) → Counts (io_failed {T = Unit {0}} (Err e)) A.faults Z.faults → Makes {T = T} passes n 1 t t (λ stop p. kick r bin P F tick h p) (Err (halt_for e)) A Z
  kick_broken T n t r bin P F tick h entry e A Z l g s c out is adds cause =
      broken T n 1 t t (λ stop p. kick r bin P F tick h p) (λ p. Kicked (record_of r tick bin P F A.bodies Z.bodies)) (TookKick entry) e A Z l
      (λ p b. subst (λ k. More (p.trail ++ Kicked (record_of r tick bin P F A.bodies Z.bodies) ∷ []) (trail_of k)) (sym (kick_is r bin P F tick h p A Z g b c out)) (record { more = []; is = sym (append-nil (p.trail ++ Kicked (record_of r tick bin P F A.bodies Z.bodies) ∷ [])) }))
      (kicked_tells r tick bin P F entry A Z s is) tt adds cause

  kicks_more : (trail : List Happening) (entry : Record) → length (records_of (trail ++ Kicked entry ∷ [])) ≡ length (records_of trail) + 1
  kicks_more trail entry = ap length (flat_map-append record_in trail (Kicked entry ∷ [])) ∙ length-append (records_of trail) (entry ∷ [])

  acts_more : (trail : List Happening) (entry : Record) → sum_by (λ k. k.pairs + k.fast_pairs) (records_of (trail ++ Kicked entry ∷ [])) ≡ sum_by (λ k. k.pairs + k.fast_pairs) (records_of trail) + (entry.pairs + entry.fast_pairs)
  acts_more trail entry =
      omega (arith, ap (sum_by (λ k. k.pairs + k.fast_pairs)) (flat_map-append record_in trail (Kicked entry ∷ [])), sum_by-append (λ (k : Record). k.pairs + k.fast_pairs) (records_of trail) (entry ∷ []))

  kicked_shown : (a : List ℕ) (before : Tale) (entry : Record) (p : Progress) (A Z : Now) → Leads 1 A Z → Tellable (λ p. Kicked entry) (TookKick entry) A Z → Adds A.took Z.took (TookKick entry ∷ []) →
      Z.kicks ≡ A.kicks + 1 → Z.interactions ≡ A.interactions + (entry.pairs + entry.fast_pairs) → IsAt passes a before NoYes p A → IsAt passes a before NoYes (tell (Kicked entry) (record p { bodies = Z.bodies })) Z
  kicked_shown a before entry p A Z l t adds k n w = record {
    entries = w.entries ++ TookKick entry ∷ [];
    bodies = refl;
    told = told_moved A Z a (p.trail ++ Kicked entry ∷ []) (w.entries ++ TookKick entry ∷ []) Z.state l.gravity l.fixed (t a p w.entries w.bodies w.told);
    took = adds_more before A.took Z.took w.entries (TookKick entry ∷ []) w.took adds;
    kind = each-append IsNoYes w.entries (TookKick entry ∷ []) w.kind (tt, tt);
    kicks = k ∙ ap (λ m. m + 1) w.kicks ∙ sym (kicks_more p.trail entry);
    interactions = n ∙ ap (λ m. m + (entry.pairs + entry.fast_pairs)) w.interactions ∙ sym (acts_more p.trail entry);
  }

  -- a kick that was made and handed out
  pub kick_made : (T : Type 0) (n t : ℕ) (r : Rules) (bin : ℕ) (P F : List ℕ) (tick h : ℕ) (entry : Record) (x : T) (A Z : Now) → Leads 1 A Z → r.gravity ≡ A.gravity → Z.state ≡ A.state →
      Z.bodies ≡ kicked_bodies h P (change A.gravity P F A.bodies) A.bodies → cond (h == 0) None (first_out (only Z.bodies P)) ≡ None → entry ≡ record_of r tick bin P F A.bodies Z.bodies →
      Adds A.took Z.took (TookKick entry ∷ []) → Z.kicks ≡ A.kicks + 1 → Z.interactions ≡ A.interactions + (entry.pairs + entry.fast_pairs) → Z.faults ≡ A.faults →
      Makes {T = T} passes n 1 t t (λ stop p. kick r bin P F tick h p) (Ok x) A Z
  kick_made T n t r bin P F tick h entry x A Z l g s c out is adds k m f = record {
    gravity = l.gravity;
    fixed = l.fixed;
    conserved = l.conserved;
    cause = record { faults = f; yes = l.yes; depth = l.depth };
    few = l.few;
    counted = l.counted;
    shows = λ a before p w stop o.
        subst (λ s. GoesTo passes a before s Z) (sym (kick_is r bin P F tick h p A Z g w.bodies c out))
        (subst (λ d. IsAt passes a before NoYes (tell (Kicked d) (record p { bodies = Z.bodies })) Z) is
        (kicked_shown a before entry p A Z l (quiet_tells (Kicked entry) (TookKick entry) A Z s refl refl refl) adds k m w));
  }

  -- ---- a drift

  pub drifting : (T : Type 0) (n t : ℕ) (s : SetupData) (Q : List ℕ) (ticks : ℕ) (x : T) (A : Now) (S : List BodyData) → IsConserved A.bodies S [] → S ≡ drift s Q ticks A.bodies →
      Makes {T = T} passes n 0 t t (λ stop p. Going (record p { bodies = drift s Q ticks p.bodies })) (Ok x) A (record A { bodies = S })
  drifting T n t s Q ticks x A S k e = record {
    gravity = refl;
    fixed = refl;
    conserved = k;
    cause = record { faults = refl; yes = refl; depth = refl };
    few = omega arith;
    counted = λ c. c;
    shows = λ a before p w stop o. record { entries = w.entries; bodies = ap (drift s Q ticks) w.bodies ∙ sym e; told = w.told; took = w.took; kind = w.kind; kicks = w.kicks; interactions = w.interactions };
  }

  -- ---- a resting point

  rest_goes : (a : List ℕ) (before : Tale) (tick : ℕ) (stop : Option ℕ) (p : Progress) (Z : Now) → IsOutside (tick - 1) (tick + 1) stop → 1 ≤ tick → IsAt passes a before NoYes (tell (Rested tick) p) Z → GoesTo passes a before (rest stop tick p) Z
  rest_goes a before tick None p Z o some w = w
  rest_goes a before tick (Some s) p Z o some w =
      let other : (s == tick) ≡ false = ne_eqb s tick (λ e. ⊎_elim (λ h. omega (arith, h, e, some)) (λ h. omega (arith, h, e)) o) in
      subst (λ (t : Bool). GoesTo passes a before (cond t (Resting (tell (Rested tick) p) tick []) (Going (tell (Rested tick) p))) Z) (sym other) w

  -- the answer was no
  pub rest_passed : (T : Type 0) (n tick : ℕ) (x : T) (A Z : Now) → 1 ≤ tick → Leads 0 A Z → Z.bodies ≡ A.bodies → Z.state ≡ A.state → Z.kicks ≡ A.kicks → Z.interactions ≡ A.interactions → Adds A.took Z.took (TookRest tick false ∷ []) → Z.faults ≡ A.faults →
      Makes {T = T} passes n 0 (tick - 1) (tick + 1) (λ stop p. rest stop tick p) (Ok x) A Z
  rest_passed T n tick x A Z some l b s k m adds f =
      let told = telling T n tick (λ p. Rested tick) (TookRest tick false) x A Z l b k m (λ p. refl) (quiet_tells (Rested tick) (TookRest tick false) A Z s refl refl refl) refl adds f in
      record {
        gravity = l.gravity;
        fixed = l.fixed;
        conserved = l.conserved;
        cause = told.cause;
        few = l.few;
        counted = l.counted;
        shows = λ a before p w stop o. rest_goes a before tick stop p Z o some (told.shows a before p w None tt);
      }

  no_depths : (B : List BodyData) → (length (depths_of [] B) ≡ length B) × AllByRecursion (λ depth. depth ≤ 0) (depths_of [] B)
  no_depths [] = (refl, tt)
  no_depths (b ∷ B) = let r = no_depths B in (ap suc r.0, (omega arith, r.1))

  lower_each : (n m : ℕ) (xs : List ℕ) → n ≤ m → AllByRecursion (λ x. x ≤ n) xs → AllByRecursion (λ x. x ≤ m) xs
  lower_each n m [] h a = tt
  lower_each n m (x ∷ xs) h a = (omega (arith, h, a.0), lower_each n m xs h a.1)

  -- the answer was yes
  pub rest_taken : (T : Type 0) (n tick : ℕ) (A : Now) (faults yeses : ℕ) (took : Tale) → 1 ≤ tick → AreBodies A.bodies → A.depth ≡ depths_of [] A.bodies → Adds A.took took (TookRest tick true ∷ []) → faults ≡ A.faults → Rose A.yes yeses →
      Makes {T = T} passes n 0 (tick - 1) (tick + 1) (λ stop p. rest stop tick p) (Err (halts.Rest tick)) A (record A { faults = faults; yes = yeses; took = took })
  rest_taken T n tick A faults yeses took some b d adds f rose =
      let Z : Now = record A { faults = faults; yes = yeses; took = took } in
      let r = no_depths A.bodies in
      record {
        gravity = refl;
        fixed = refl;
        conserved = conserved_same A.bodies b;
        cause = (f, rose, record { each = ap length d ∙ r.0; most = subst (AllByRecursion (λ depth. depth ≤ n)) (sym d) (lower_each 0 n (depths_of [] A.bodies) (omega arith) r.1) });
        few = omega arith;
        counted = λ c. c;
        shows = λ a before p w. (
          omega (arith, some),
          omega arith,
          subst (λ (t : Bool). Rests passes a before n tick (cond t (Resting (tell (Rested tick) p) tick []) (Going (tell (Rested tick) p))) Z) (sym (eq-eqb tick tick refl)) (
            record { same = refl; depth = d ∙ ap (depths_of []) (sym w.bodies); few = omega arith },
            record {
              entries = w.entries ++ TookRest tick true ∷ [];
              bodies = w.bodies;
              told = told_quiet A.gravity (passes A.gravity A.fixed) a p.trail w.entries A.state (Rested tick) (TookRest tick true) w.told refl refl refl;
              took = adds_more before A.took took w.entries (TookRest tick true ∷ []) w.took adds;
              kind = (w.entries, refl, w.kind);
              kicks = w.kicks ∙ ap length (sym (records_more p.trail (Rested tick) refl));
              interactions = w.interactions ∙ ap (sum_by (λ k. k.pairs + k.fast_pairs)) (sym (records_more p.trail (Rested tick) refl));
            },
          ),
        );
      }
