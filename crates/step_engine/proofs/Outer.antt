-- A part of a step inside the unfinished evolves that depths tell.
use Rattle.std.proofs.Common.{◌≡◌, ◌≤◌, ◌<◌, ◌+◌, ◌-◌, ℕ, suc, cond, List, [], ◌∷◌, ◌++◌, length, min, get_or, count_by, Option, Some, None, Ok, Err, ap, sym, ◌∙◌, arith, length-append}
use Rattle.std.specs.List.{AllByRecursion}
use Rattle.std.proofs.lemmas.List.{ext_get_or, get_or-map, length-map}
use Rattle.std.proofs.lemmas.List.FromFn.{length-map-range_with_len}
use Rattle.std.proofs.lemmas.List.Sums.{sum_by-append}
use Rattle.nbody_model.specs.Bodies.{BodyData, has}
use Rattle.nbody_model.specs.Evolve.{Progress, Stepped, Going, Refused, Resting, MomRange, StepRange, inside, depths_of}
use Rattle.model_laws.specs.Laws.{AreBodies}
use Rattle.kick_drift.specs.Parts.{ids_at}
use Rattle.kick_drift.proofs.Chosen.{id_at, id_at_is, blank}
use Rattle.step_engine.specs.declared.halt.Halt.{Halt}
use Rattle.step_engine.specs.declared.halt.Halt.TheVariants as halts
use Rattle.step_engine.specs.Taken.{Tale}
use Rattle.step_engine.specs.Told.{Finder}
use Rattle.step_engine.specs.Stands.{Now}
use Rattle.step_engine.specs.Ends.{LastYes, Rests, HasCause, Shows, Makes}
use Rattle.step_engine.specs.Resumed.{IsDeeperBy, HasRoomBy, DeepensEach, quick_places, quick_parts}
use Rattle.step_engine.proofs.Deepening.{deep_at, deep_goes, deep_refused, deep_cut}
use Rattle.step_engine.proofs.Layers.{count_parts}

depths_by : (B : List BodyData) (top : ℕ) (ds : List ℕ) (bin : ℕ) (Fs : List (List ℕ)) (old new : List ℕ) → AreBodies B → length ds ≡ length B → bin ≤ top + 1 → old ≡ depths_of Fs B → IsDeeperBy (top + 1 - bin) ds old new → new ≡ depths_of (Fs ++ quick_parts B top ds bin) B
depths_by B top ds bin Fs old new b f h e d =
    let Gs = quick_parts B top ds bin in
    let long : length old ≡ length B = ap length e ∙ length-map B (λ b. count_by (λ F. has F b.id) Fs) in
    ext_get_or 0 new (depths_of (Fs ++ Gs) B) (d.long ∙ long ∙ sym (length-map B (λ b. count_by (λ G. has G b.id) (Fs ++ Gs))))
    (λ i lt.
    let within : i < length B = omega (arith, lt, d.long, long) in
    let inside_old : i < length old = omega (arith, within, long) in
    let id : id_at B i ≡ (get_or B i blank).id = id_at_is B i blank within in
    let was : get_or old i 0 ≡ count_by (λ G. has G (get_or B i blank).id) Fs = ap (λ xs. get_or xs i 0) e ∙ get_or-map (λ (b : BodyData). count_by (λ F. has F b.id) Fs) B i blank 0 within in
    let more : count_by (λ G. has G (get_or B i blank).id) Gs ≡ min (get_or ds i 0) (top + 1 - bin) = ap (λ n. count_by (λ G. has G n) Gs) (sym id) ∙ count_parts B top ds i bin b.valid.ascending f within h in
    let both : count_by (λ G. has G (get_or B i blank).id) (Fs ++ Gs) ≡ count_by (λ G. has G (get_or B i blank).id) Fs + count_by (λ G. has G (get_or B i blank).id) Gs = sum_by-append (λ G. cond (has G (get_or B i blank).id) 1 0) Fs Gs in
    d.each i inside_old ∙ omega (arith, was, more, both) ∙ sym (get_or-map (λ (b : BodyData). count_by (λ G. has G b.id) (Fs ++ Gs)) B i blank 0 within))

most_by : (n m : ℕ) (old new : List ℕ) → length new ≡ length old → ((i : ℕ) → i < length old → get_or new i 0 ≤ get_or old i 0 + m) → AllByRecursion (λ d. d ≤ n) old → AllByRecursion (λ d. d ≤ n + m) new
most_by n m [] [] e h a = tt
most_by n m [] (y ∷ ys) e h a = absurd (omega (arith, e))
most_by n m (x ∷ xs) [] e h a = absurd (omega (arith, e))
most_by n m (x ∷ xs) (y ∷ ys) e h a = let first : y ≤ x + m = h 0 (omega arith) in (omega (arith, first, a.0), most_by n m xs ys (omega (arith, e)) (λ i lt. h (suc i) (omega (arith, lt))) a.1)

shallow_by : (n m : ℕ) (ds old new : List ℕ) → IsDeeperBy m ds old new → AllByRecursion (λ d. d ≤ n) old → AllByRecursion (λ d. d ≤ n + m) new
shallow_by n m ds old new d a = most_by n m old new d.long (λ i lt. omega (arith, d.each i lt)) a

-- a rest out of a part of a step leaves room
pub room_by : (n : ℕ) (T : Type 0) (h : Halt) (ds : List ℕ) (A Z : Now) → n ≤ 20 → length ds ≡ length Z.bodies → HasCause {T = T} n (Err h) A Z → HasRoomBy h ds Z.depth
room_by n T (halts.MomRange tick bin id axis) ds A Z s e c = tt
room_by n T (halts.StepRange tick id) ds A Z s e c = tt
room_by n T (halts.Rest tick) ds A Z s e c = (c.2.each ∙ sym e, lowered n Z.depth s c.2.most)
  where
    lowered : (n : ℕ) (xs : List ℕ) → n ≤ 20 → AllByRecursion (λ d. d ≤ n) xs → AllByRecursion (λ d. d ≤ 20) xs
    lowered n [] s a = tt
    lowered n (x ∷ xs) s a = (omega (arith, s, a.0), lowered n xs s a.1)
room_by n T halts.OutFault ds A Z s e c = tt
room_by n T halts.Memory ds A Z s e c = tt

parts_long : (B : List BodyData) (top : ℕ) (ds : List ℕ) (bin : ℕ) → length (quick_parts B top ds bin) ≡ top + 1 - bin
parts_long B top ds bin = length-map-range_with_len (λ c. ids_at B (quick_places top ds c)) bin (top + 1 - bin)

module _ (passes : Finder) where
  rests_by : (a : List ℕ) (before : Tale) (n u top : ℕ) (ds : List ℕ) (bin : ℕ) (s : Stepped) (Z : Now) (D : List ℕ) → AreBodies Z.bodies → length ds ≡ length Z.bodies → bin ≤ top + 1 → IsDeeperBy (top + 1 - bin) ds Z.depth D → Rests passes a before n u s Z →
      Rests passes a before (n + (top + 1 - bin)) u (inside (quick_parts Z.bodies top ds bin) s) (record Z { depth = D })
  rests_by a before n u top ds bin (Going p) Z D b f l d h = absurd h
  rests_by a before n u top ds bin (Refused p e) Z D b f l d h = absurd h
  rests_by a before n u top ds bin (Resting p v Fs) Z D b f l d h =
      let Gs = quick_parts Z.bodies top ds bin in (
        record {
          same = h.0.same;
          depth = depths_by Z.bodies top ds bin Fs Z.depth D b f l (h.0.depth ∙ ap (depths_of Fs) h.1.bodies) d ∙ ap (depths_of (Fs ++ Gs)) (sym h.1.bodies);
          few = omega (arith, h.0.few, length-append Fs Gs, parts_long Z.bodies top ds bin);
        },
        deep_at passes a before (LastYes u) p Z D h.1,
      )

  shown_by : (T : Type 0) (a : List ℕ) (before : Tale) (n f t top : ℕ) (ds : List ℕ) (bin : ℕ) (X : Option ℕ → Stepped) (h : Halt) (Z : Now) (D : List ℕ) → AreBodies Z.bodies → length ds ≡ length Z.bodies → bin ≤ top + 1 → DeepensEach h (top + 1 - bin) ds Z.depth D →
      Shows {T = T} passes a before n f t X (Err h) Z → Shows {T = T} passes a before (n + (top + 1 - bin)) f t (λ stop. inside (quick_parts Z.bodies top ds bin) (X stop)) (Err h) (record Z { depth = D })
  shown_by T a before n f t top ds bin X (halts.MomRange tick b id axis) Z D k e l d s = deep_refused passes a before (MomRange tick b id axis) (quick_parts Z.bodies top ds bin) (X None) Z D s
  shown_by T a before n f t top ds bin X (halts.StepRange tick id) Z D k e l d s = deep_refused passes a before (StepRange tick id) (quick_parts Z.bodies top ds bin) (X None) Z D s
  shown_by T a before n f t top ds bin X (halts.Rest u) Z D k e l d s = (s.0, s.1, rests_by a before n u top ds bin (X (Some u)) Z D k e l d s.2)
  shown_by T a before n f t top ds bin X halts.OutFault Z D k e l d s = deep_cut passes a before (quick_parts Z.bodies top ds bin) (X None) Z D s
  shown_by T a before n f t top ds bin X halts.Memory Z D k e l d s = deep_cut passes a before (quick_parts Z.bodies top ds bin) (X None) Z D s

  cause_by : (T : Type 0) (n m : ℕ) (h : Halt) (ds : List ℕ) (A Z : Now) (D : List ℕ) → DeepensEach h m ds Z.depth D → HasCause {T = T} n (Err h) A Z → HasCause {T = T} (n + m) (Err h) A (record Z { depth = D })
  cause_by T n m (halts.MomRange tick bin id axis) ds A Z D d c = record { faults = c.faults; yes = c.yes; depth = d ∙ c.depth }
  cause_by T n m (halts.StepRange tick id) ds A Z D d c = record { faults = c.faults; yes = c.yes; depth = d ∙ c.depth }
  cause_by T n m (halts.Rest u) ds A Z D d c = (c.0, c.1, record { each = d.long ∙ c.2.each; most = shallow_by n m ds Z.depth D d c.2.most })
  cause_by T n m halts.OutFault ds A Z D d c = c
  cause_by T n m halts.Memory ds A Z D d c = record { faults = c.faults; yes = c.yes; depth = d ∙ c.depth }

  -- a halt out of a part of a step
  pub outer_halts : {T : Type 0} (n most f t top : ℕ) (ds : List ℕ) (bin : ℕ) (X : Option ℕ → Progress → Stepped) (h : Halt) (A Z : Now) (D : List ℕ) → length ds ≡ length Z.bodies → bin ≤ top + 1 → DeepensEach h (top + 1 - bin) ds Z.depth D →
      Makes {T = T} passes n most f t X (Err h) A Z → Makes {T = T} passes (n + (top + 1 - bin)) most f t (λ stop p. inside (quick_parts Z.bodies top ds bin) (X stop p)) (Err h) A (record Z { depth = D })
  outer_halts {T = T} n most f t top ds bin X h A Z D e l d one = record {
    gravity = one.gravity;
    fixed = one.fixed;
    conserved = one.conserved;
    cause = cause_by T n (top + 1 - bin) h ds A Z D d one.cause;
    few = one.few;
    counted = one.counted;
    shows = λ a before p w. shown_by T a before n f t top ds bin (λ stop. X stop p) h Z D one.conserved.bodies e l d (one.shows a before p w);
  }

  -- a part that is made to its end
  pub outer_goes : {T : Type 0} (n m most f t : ℕ) (Gs : List (List ℕ)) (X : Option ℕ → Progress → Stepped) (x : T) (A Z : Now) → Makes {T = T} passes n most f t X (Ok x) A Z → Makes {T = T} passes m most f t (λ stop p. inside Gs (X stop p)) (Ok x) A Z
  outer_goes n m most f t Gs X x A Z one = record {
    gravity = one.gravity;
    fixed = one.fixed;
    conserved = one.conserved;
    cause = one.cause;
    few = one.few;
    counted = one.counted;
    shows = λ a before p w stop o. deep_goes passes a before Gs (X stop p) Z (one.shows a before p w stop o);
  }
