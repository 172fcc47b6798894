-- A step inside another one that it makes deeper.
use Rattle.std.proofs.Common.{◌≡◌, ◌≤◌, ◌<◌, ◌+◌, ℕ, suc, Bool, true, false, cond, List, [], ◌∷◌, ◌++◌, length, get_or, count_by, Option, Some, None, Ok, Err, refl, ap, sym, ◌∙◌, arith, length-append}
use Rattle.std.specs.List.{AllByRecursion}
use Rattle.std.proofs.lemmas.List.{ext_get_or, get_or-map, length-map}
use Rattle.std.proofs.lemmas.List.Sums.{sum_by-append}
use Rattle.nbody_model.specs.Bodies.{BodyData, has}
use Rattle.nbody_model.specs.Evolve.{Progress, Stepped, Going, Refused, Resting, Refusal, MomRange, StepRange, inside, depths_of}
use Rattle.model_laws.specs.Laws.{AreBodies}
use Rattle.kick_drift.specs.Parts.{ids_at, AreAscending}
use Rattle.kick_drift.proofs.Rising.{has-image}
use Rattle.kick_drift.proofs.Chosen.{id_at, id_at_is, keeps_apart, blank}
use Rattle.step_engine.specs.declared.halt.Halt.{Halt}
use Rattle.step_engine.specs.declared.halt.Halt.TheVariants as halts
use Rattle.step_engine.specs.Taken.{Taken, Tale}
use Rattle.step_engine.specs.Told.{Finder}
use Rattle.step_engine.specs.Stands.{Now, IsAt}
use Rattle.step_engine.specs.Deeper.{IsDeeper, HasRoom, DeepensBy}
use Rattle.step_engine.specs.Ends.{NoYes, LastYes, trail_of, GoesTo, IsRefused, Rests, IsCut, HasCause, Shows, Makes}

-- ---- depths one more

one_more : (Fs : List (List ℕ)) (F : List ℕ) (id : ℕ) → count_by (λ G. has G id) (Fs ++ F ∷ []) ≡ count_by (λ G. has G id) Fs + cond (has F id) 1 0
one_more Fs F id = omega (arith, sum_by-append (λ G. cond (has G id) 1 0) Fs (F ∷ []))

pub depths_more : (B : List BodyData) (fast : List ℕ) (Fs : List (List ℕ)) (old new : List ℕ) → AreBodies B → AreAscending B fast → old ≡ depths_of Fs B → IsDeeper fast old new → new ≡ depths_of (Fs ++ ids_at B fast ∷ []) B
depths_more B fast Fs old new b a e d =
    let long : length old ≡ length B = ap length e ∙ length-map B (λ b. count_by (λ F. has F b.id) Fs) in
    let F = ids_at B fast in
    ext_get_or 0 new (depths_of (Fs ++ F ∷ []) B) (d.long ∙ long ∙ sym (length-map B (λ b. count_by (λ G. has G b.id) (Fs ++ F ∷ []))))
    (λ i lt.
    let within : i < length B = omega (arith, lt, d.long, long) in
    let inside_old : i < length old = omega (arith, within, long) in
    let id : id_at B i ≡ (get_or B i blank).id = id_at_is B i blank within in
    let was : get_or old i 0 ≡ count_by (λ G. has G (get_or B i blank).id) Fs = ap (λ xs. get_or xs i 0) e ∙ get_or-map (λ (b : BodyData). count_by (λ F. has F b.id) Fs) B i blank 0 within in
    let there : has fast i ≡ has F (get_or B i blank).id = sym (has-image (id_at B) fast i (keeps_apart B fast i b.valid.ascending a.within within)) ∙ ap (has F) id in
    d.each i inside_old ∙ (λ j. was j + cond (there j) 1 0) ∙ sym (one_more Fs F (get_or B i blank).id) ∙ sym (get_or-map (λ (b : BodyData). count_by (λ G. has G b.id) (Fs ++ F ∷ [])) B i blank 0 within))

most_more : (n : ℕ) (old new : List ℕ) → length new ≡ length old → ((i : ℕ) → i < length old → get_or new i 0 ≤ get_or old i 0 + 1) → AllByRecursion (λ d. d ≤ n) old → AllByRecursion (λ d. d ≤ n + 1) new
most_more n [] [] e h a = tt
most_more n [] (y ∷ ys) e h a = absurd (omega (arith, e))
most_more n (x ∷ xs) [] e h a = absurd (omega (arith, e))
most_more n (x ∷ xs) (y ∷ ys) e h a = let first : y ≤ x + 1 = h 0 (omega arith) in (omega (arith, first, a.0), most_more n xs ys (omega (arith, e)) (λ i lt. h (suc i) (omega (arith, lt))) a.1)

one_most : (x y : ℕ) (t : Bool) → y ≡ x + cond t 1 0 → y ≤ x + 1
one_most x y true e = omega (arith, e)
one_most x y false e = omega (arith, e)

pub shallow_more : (n : ℕ) (fast old new : List ℕ) → IsDeeper fast old new → AllByRecursion (λ d. d ≤ n) old → AllByRecursion (λ d. d ≤ n + 1) new
shallow_more n fast old new d a = most_more n old new d.long (λ i lt. one_most (get_or old i 0) (get_or new i 0) (has fast i) (d.each i lt)) a

-- a rest out of a part of a step leaves room for one more
pub room_of : (n : ℕ) (T : Type 0) (h : Halt) (fast : List ℕ) (A Z : Now) → n ≤ 20 → ((k : ℕ) → k < length fast → get_or fast k 0 < length Z.bodies) → HasCause {T = T} n (Err h) A Z → HasRoom h fast Z.depth
room_of n T (halts.MomRange tick bin id axis) fast A Z s w c = tt
room_of n T (halts.StepRange tick id) fast A Z s w c = tt
room_of n T (halts.Rest tick) fast A Z s w c = record { within = λ k lt. omega (arith, w k lt, c.2.each); shallow = lowered n Z.depth s c.2.most }
  where
    lowered : (n : ℕ) (xs : List ℕ) → n ≤ 20 → AllByRecursion (λ d. d ≤ n) xs → AllByRecursion (λ d. d ≤ 20) xs
    lowered n [] s a = tt
    lowered n (x ∷ xs) s a = (omega (arith, s, a.0), lowered n xs s a.1)
room_of n T halts.OutFault fast A Z s w c = tt
room_of n T halts.Memory fast A Z s w c = tt

module _ (passes : Finder) where
  pub deep_at : (a : List ℕ) (before : Tale) (K : List Taken → Type 0) (p : Progress) (Z : Now) (D : List ℕ) → IsAt passes a before K p Z → IsAt passes a before K p (record Z { depth = D })
  deep_at a before K p Z D w = record { entries = w.entries; bodies = w.bodies; told = w.told; took = w.took; kind = w.kind; kicks = w.kicks; interactions = w.interactions }

  pub deep_goes : (a : List ℕ) (before : Tale) (Gs : List (List ℕ)) (s : Stepped) (Z : Now) → GoesTo passes a before s Z → GoesTo passes a before (inside Gs s) Z
  deep_goes a before Gs (Going p) Z h = h
  deep_goes a before Gs (Refused p e) Z h = absurd h
  deep_goes a before Gs (Resting p u Fs) Z h = absurd h

  pub deep_refused : (a : List ℕ) (before : Tale) (why : Refusal) (Gs : List (List ℕ)) (s : Stepped) (Z : Now) (D : List ℕ) → IsRefused passes a before why s Z → IsRefused passes a before why (inside Gs s) (record Z { depth = D })
  deep_refused a before why Gs (Going p) Z D h = absurd h
  deep_refused a before why Gs (Refused p e) Z D h = (h.0, deep_at a before NoYes p Z D h.1)
  deep_refused a before why Gs (Resting p u Fs) Z D h = absurd h

  pub deep_trail : (Gs : List (List ℕ)) (s : Stepped) → trail_of (inside Gs s) ≡ trail_of s
  deep_trail Gs (Going p) = refl
  deep_trail Gs (Refused p e) = refl
  deep_trail Gs (Resting p u Fs) = refl

  pub deep_cut : (a : List ℕ) (before : Tale) (Gs : List (List ℕ)) (s : Stepped) (Z : Now) (D : List ℕ) → IsCut passes a before (trail_of s) Z → IsCut passes a before (trail_of (inside Gs s)) (record Z { depth = D })
  deep_cut a before Gs s Z D c = record { first = c.first; later = c.later; parts = deep_trail Gs s ∙ c.parts; entries = c.entries; state = c.state; told = c.told; took = c.took; kind = c.kind }

  deep_rests : (a : List ℕ) (before : Tale) (n u : ℕ) (fast : List ℕ) (s : Stepped) (Z : Now) (D : List ℕ) → AreBodies Z.bodies → AreAscending Z.bodies fast → IsDeeper fast Z.depth D → Rests passes a before n u s Z →
      Rests passes a before (n + 1) u (inside (ids_at Z.bodies fast ∷ []) s) (record Z { depth = D })
  deep_rests a before n u fast (Going p) Z D b k d h = absurd h
  deep_rests a before n u fast (Refused p e) Z D b k d h = absurd h
  deep_rests a before n u fast (Resting p v Fs) Z D b k d h =
      let F = ids_at Z.bodies fast in (
        record {
          same = h.0.same;
          depth = depths_more Z.bodies fast Fs Z.depth D b k (h.0.depth ∙ ap (depths_of Fs) h.1.bodies) d ∙ ap (depths_of (Fs ++ F ∷ [])) (sym h.1.bodies);
          few = omega (arith, h.0.few, length-append Fs (F ∷ []));
        },
        deep_at a before (LastYes u) p Z D h.1,
      )

  deep_shown : (T : Type 0) (a : List ℕ) (before : Tale) (n f t : ℕ) (fast : List ℕ) (X : Option ℕ → Stepped) (h : Halt) (Z : Now) (D : List ℕ) → AreBodies Z.bodies → AreAscending Z.bodies fast → DeepensBy h fast Z.depth D →
      Shows {T = T} passes a before n f t X (Err h) Z → Shows {T = T} passes a before (n + 1) f t (λ stop. inside (ids_at Z.bodies fast ∷ []) (X stop)) (Err h) (record Z { depth = D })
  deep_shown T a before n f t fast X (halts.MomRange tick bin id axis) Z D b k d s = deep_refused a before (MomRange tick bin id axis) (ids_at Z.bodies fast ∷ []) (X None) Z D s
  deep_shown T a before n f t fast X (halts.StepRange tick id) Z D b k d s = deep_refused a before (StepRange tick id) (ids_at Z.bodies fast ∷ []) (X None) Z D s
  deep_shown T a before n f t fast X (halts.Rest u) Z D b k d s = (s.0, s.1, deep_rests a before n u fast (X (Some u)) Z D b k d s.2)
  deep_shown T a before n f t fast X halts.OutFault Z D b k d s = deep_cut a before (ids_at Z.bodies fast ∷ []) (X None) Z D s
  deep_shown T a before n f t fast X halts.Memory Z D b k d s = deep_cut a before (ids_at Z.bodies fast ∷ []) (X None) Z D s

  deep_cause : (T U : Type 0) (n : ℕ) (h : Halt) (fast : List ℕ) (A Z : Now) (D : List ℕ) → DeepensBy h fast Z.depth D → HasCause {T = T} n (Err h) A Z → HasCause {T = U} (n + 1) (Err h) A (record Z { depth = D })
  deep_cause T U n (halts.MomRange tick bin id axis) fast A Z D d c = record { faults = c.faults; yes = c.yes; depth = d ∙ c.depth }
  deep_cause T U n (halts.StepRange tick id) fast A Z D d c = record { faults = c.faults; yes = c.yes; depth = d ∙ c.depth }
  deep_cause T U n (halts.Rest u) fast A Z D d c = (c.0, c.1, record { each = d.long ∙ c.2.each; most = shallow_more n fast Z.depth D d c.2.most })
  deep_cause T U n halts.OutFault fast A Z D d c = c
  deep_cause T U n halts.Memory fast A Z D d c = record { faults = c.faults; yes = c.yes; depth = d ∙ c.depth }

  -- a halt out of a part of a step that these bodies make
  pub deepened : {T : Type 0} (n most f t : ℕ) (fast : List ℕ) (X : Option ℕ → Progress → Stepped) (h : Halt) (A Z : Now) (D : List ℕ) → AreAscending Z.bodies fast → DeepensBy h fast Z.depth D →
      Makes {T = T} passes n most f t X (Err h) A Z → Makes {T = T} passes (n + 1) most f t (λ stop p. inside (ids_at Z.bodies fast ∷ []) (X stop p)) (Err h) A (record Z { depth = D })
  deepened {T = T} n most f t fast X h A Z D k d one = record {
    gravity = one.gravity;
    fixed = one.fixed;
    conserved = one.conserved;
    cause = deep_cause T T n h fast A Z D d one.cause;
    few = one.few;
    counted = one.counted;
    shows = λ a before p w. deep_shown T a before n f t fast (λ stop. X stop p) h Z D one.conserved.bodies k d (one.shows a before p w);
  }

  -- a part that is made to its end
  pub passed : {T : Type 0} (n most f t : ℕ) (Gs : List (List ℕ)) (X : Option ℕ → Progress → Stepped) (x : T) (A Z : Now) → Makes {T = T} passes n most f t X (Ok x) A Z → Makes {T = T} passes (n + 1) most f t (λ stop p. inside Gs (X stop p)) (Ok x) A Z
  passed n most f t Gs X x A Z one = record {
    gravity = one.gravity;
    fixed = one.fixed;
    conserved = one.conserved;
    cause = one.cause;
    few = one.few;
    counted = one.counted;
    shows = λ a before p w stop o. deep_goes a before Gs (X stop p) Z (one.shows a before p w stop o);
  }
