-- One thing more that happened, and was told.
use Rattle.std.proofs.Common.{◌≡◌, ℕ, List, [], ◌∷◌, ◌++◌, refl, ap, sym, ◌∙◌, subst}
use Rattle.std.specs.List.{flat_map}
use Rattle.std.proofs.lemmas.Grind.{flat_map-append}
use Rattle.std.proofs.lemmas.List.{append-nil}
use Rattle.nbody_model.specs.declared.field.Event.{Event}
use Rattle.nbody_model.specs.Bodies.{BodyData}
use Rattle.nbody_model.specs.Tables.{Gravity}
use Rattle.nbody_model.specs.Fields.{FieldData}
use Rattle.nbody_model.specs.Evolve.{Happening, Asked, asked_in, asked_of}
use Rattle.nbody_model.specs.Passes.{PassesAll, Passes}
use Rattle.step_engine.specs.Taken.{Taken, TookForces}
use Rattle.step_engine.specs.Told.{AreForcesAmong, Tells, TellAll, events_in, IsTold}

tell_more : (g : Gravity) (entries : List Taken) (trail : List Happening) (entry : Taken) (what : Happening) → TellAll g entries trail → Tells g entry what → TellAll g (entries ++ entry ∷ []) (trail ++ what ∷ [])
tell_more g [] [] entry what a t = (t, tt)
tell_more g [] (w ∷ trail) entry what a t = absurd a
tell_more g (e ∷ entries) [] entry what a t = absurd a
tell_more g (e ∷ entries) (w ∷ trail) entry what a t = (a.0, tell_more g entries trail entry what a.1 t)

found_more : (passes : Passes) (asked : List (List BodyData)) (a : List ℕ) (events : List (List Event)) (m : List ℕ) (B : List BodyData) (es : List Event) (z : List ℕ) →
    PassesAll passes asked a events m → passes B m es z → PassesAll passes (asked ++ B ∷ []) a (events ++ es ∷ []) z
found_more passes [] a [] m B es z h k = (z, subst (λ s. passes B s es z) (sym h) k, refl)
found_more passes [] a (e ∷ events) m B es z h k = absurd h
found_more passes (C ∷ asked) a [] m B es z h k = absurd h
found_more passes (C ∷ asked) a (e ∷ events) m B es z h k = (h.0, h.1, found_more passes asked h.0 events m B es z h.2 k)

-- a thing that asks no force
pub told_quiet : (g : Gravity) (passes : Passes) (a : List ℕ) (trail : List Happening) (entries : List Taken) (z : List ℕ) (what : Happening) (entry : Taken) →
    IsTold g passes a trail entries z → Tells g entry what → asked_in what ≡ [] → events_in entry ≡ [] → IsTold g passes a (trail ++ what ∷ []) (entries ++ entry ∷ []) z
told_quiet g passes a trail entries z what entry t e none still =
    let asked : asked_of (trail ++ what ∷ []) ≡ asked_of trail = flat_map-append asked_in trail (what ∷ []) ∙ ap (λ xs. asked_of trail ++ (xs ++ [])) none ∙ append-nil (asked_of trail) in
    let events : flat_map events_in (entries ++ entry ∷ []) ≡ flat_map events_in entries = flat_map-append events_in entries (entry ∷ []) ∙ ap (λ xs. flat_map events_in entries ++ (xs ++ [])) still ∙ append-nil (flat_map events_in entries) in
    record { each = tell_more g entries trail entry what t.each e; found = subst (λ xs. PassesAll passes xs a (flat_map events_in (entries ++ entry ∷ [])) z) (sym asked) (subst (λ ys. PassesAll passes (asked_of trail) a ys z) (sym events) t.found) }

-- forces that were asked
pub told_asked : (g : Gravity) (passes : Passes) (a : List ℕ) (trail : List Happening) (entries : List Taken) (m : List ℕ) (B : List BodyData) (f : FieldData) (z : List ℕ) →
    IsTold g passes a trail entries m → AreForcesAmong g B f → passes B m f.events z → IsTold g passes a (trail ++ Asked B ∷ []) (entries ++ TookForces f ∷ []) z
told_asked g passes a trail entries m B f z t e k =
    let asked : asked_of (trail ++ Asked B ∷ []) ≡ asked_of trail ++ B ∷ [] = flat_map-append asked_in trail (Asked B ∷ []) in
    let events : flat_map events_in (entries ++ TookForces f ∷ []) ≡ flat_map events_in entries ++ f.events ∷ [] = flat_map-append events_in entries (TookForces f ∷ []) in
    record {
      each = tell_more g entries trail (TookForces f) (Asked B) t.each (B, refl, e);
      found = subst (λ xs. PassesAll passes xs a (flat_map events_in (entries ++ TookForces f ∷ [])) z) (sym asked) (subst (λ ys. PassesAll passes (asked_of trail ++ B ∷ []) a ys z) (sym events) (found_more passes (asked_of trail) a (flat_map events_in entries) m B f.events z t.found k));
    }
