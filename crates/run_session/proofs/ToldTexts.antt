-- What was taken of a step, as texts: they are what the step adds to those of a session.
use Rattle.std.proofs.Common.{◌≡◌, ℕ, Bool, true, false, cond, ◌&&◌, IsTrue, List, [], ◌∷◌, ◌++◌, length, codes, Option, Some, None, refl, ap, sym, ◌∙◌, subst, arith, append_assoc}
use Rattle.std.specs.List.{flat_map}
use Rattle.std.specs.Option.{IfSome}
use Rattle.std.specs.Str.{bytes_eq}
use Rattle.std.proofs.lemmas.Bool.{false≢true, eq-eqb}
use Rattle.std.proofs.lemmas.Option.{IfSome_then}
use Rattle.std.proofs.lemmas.Slice.Eq.{bytes_eq-Decides}
use Rattle.std.proofs.lemmas.Grind.{flat_map-append}
use Rattle.nbody_model.specs.declared.field.Event.{Event}
use Rattle.nbody_model.specs.Bodies.{BodyData}
use Rattle.nbody_model.specs.Tables.{Gravity}
use Rattle.nbody_model.specs.Evolve.{Happening, record_in, records_of, asked_in, asked_of, bins_in, bins_of}
use Rattle.nbody_model.specs.Passes.{PassesAll, Passes}
use Rattle.nbody_model.specs.Session.{SessionData, records, asked, bins, with_trail}
use Rattle.nbody_model.specs.Texts.{kick_line, kick_text, trace_block, trace_text, bins_record, open_bins_text}
use Rattle.step_engine.specs.Taken.{Taken, TookForces, TookKick, TookRest, TookPart}
use Rattle.step_engine.specs.Told.{Tells, TellAll, events_in, IsTold}
use Rattle.step_engine.proofs.Changes.{forces_length}
use Rattle.store_io.specs.Files.{Files}
use Rattle.run_session.specs.Own.{Own, OwnTexts, HasPart, followed, first_texts, Stands, StandsPart}
use Rattle.run_session.specs.Outputs.{found_in, session_texts}
use Rattle.run_session.specs.Logs.{kicks_in, forces_in, parts_in, texts_taken, leaves, are_texts, tells}
use Rattle.run_session.specs.Stages.{IsFirst, AgreeIn, IsLogged, step_texts}
use Rattle.run_session.proofs.FirstParts.{first_flat, first_behind}
use Rattle.run_session.proofs.FileFacts.{if_some_both}

-- ---- the entries beside what happened

one_kick : (g : Gravity) (entry : Taken) (what : Happening) → Tells g entry what → kicks_in entry ≡ record_in what
one_kick g (TookForces f) what h = sym (ap record_in h.1)
one_kick g (TookKick entry) what h = sym (ap record_in h)
one_kick g (TookRest tick answer) what h = sym (ap record_in h)
one_kick g (TookPart F) what h = sym (ap record_in h)

pub told_kicks : (g : Gravity) (entries : List Taken) (trail : List Happening) → TellAll g entries trail → flat_map kicks_in entries ≡ records_of trail
told_kicks g [] [] h = refl
told_kicks g [] (what ∷ trail) h = absurd h
told_kicks g (entry ∷ entries) [] h = absurd h
told_kicks g (entry ∷ entries) (what ∷ trail) h = λ i. one_kick g entry what h.0 i ++ told_kicks g entries trail h.1 i

one_part : (g : Gravity) (entry : Taken) (what : Happening) → Tells g entry what → parts_in entry ≡ bins_in what
one_part g (TookForces f) what h = sym (ap bins_in h.1)
one_part g (TookKick entry) what h = sym (ap bins_in h)
one_part g (TookRest tick answer) what h = sym (ap bins_in h)
one_part g (TookPart F) what h = sym (ap bins_in h)

pub told_parts : (g : Gravity) (entries : List Taken) (trail : List Happening) → TellAll g entries trail → flat_map parts_in entries ≡ bins_of trail
told_parts g [] [] h = refl
told_parts g [] (what ∷ trail) h = absurd h
told_parts g (entry ∷ entries) [] h = absurd h
told_parts g (entry ∷ entries) (what ∷ trail) h = λ i. one_part g entry what h.0 i ++ told_parts g entries trail h.1 i

-- what an entry adds to the forces that were found
found_more : (g : Gravity) (entry : Taken) (what : Happening) → Tells g entry what → (B : List (List BodyData)) (events : List (List Event)) →
    forces_in entry ++ found_in B events ≡ found_in (asked_in what ++ B) (events_in entry ++ events)
found_more g (TookForces f) what h B events =
    (λ i. (forces_length g h.0 f h.2 i, f.events) ∷ found_in B events) ∙ ap (λ w. found_in (asked_in w ++ B) (f.events ∷ events)) (sym h.1)
found_more g (TookKick entry) what h B events = ap (λ w. found_in (asked_in w ++ B) events) (sym h)
found_more g (TookRest tick answer) what h B events = ap (λ w. found_in (asked_in w ++ B) events) (sym h)
found_more g (TookPart F) what h B events = ap (λ w. found_in (asked_in w ++ B) events) (sym h)

pub told_forces : (g : Gravity) (entries : List Taken) (trail : List Happening) → TellAll g entries trail → flat_map forces_in entries ≡ found_in (asked_of trail) (flat_map events_in entries)
told_forces g [] [] h = refl
told_forces g [] (what ∷ trail) h = absurd h
told_forces g (entry ∷ entries) [] h = absurd h
told_forces g (entry ∷ entries) (what ∷ trail) h = ap (λ xs. forces_in entry ++ xs) (told_forces g entries trail h.1) ∙ found_more g entry what h.0 (asked_of trail) (flat_map events_in entries)

-- ---- as texts

-- in the files that there are the texts that were taken are those of what happened
pub taken_agree : (o : Own) (g : Gravity) (traced binned : Bool) → IfSome o.trace (λ n. traced ≡ true) → IfSome o.bins (λ n. binned ≡ true) → (entries : List Taken) (trail : List Happening) → TellAll g entries trail →
    AgreeIn o (texts_taken traced binned entries) (step_texts trail (flat_map events_in entries))
taken_agree o g traced binned t b entries trail h = record {
  kicks = ap kick_text (told_kicks g entries trail h);
  trace = IfSome_then o.trace t (λ n e. ap (λ c. cond c (trace_text (flat_map forces_in entries)) []) e ∙ ap trace_text (told_forces g entries trail h));
  bins = IfSome_then o.bins b (λ n e. ap (λ c. cond c (flat_map bins_record (flat_map parts_in entries)) []) e ∙ ap (flat_map bins_record) (told_parts g entries trail h));
}

found_both : (B C : List (List BodyData)) (es fs : List (List Event)) → length es ≡ length B → found_in (B ++ C) (es ++ fs) ≡ found_in B es ++ found_in C fs
found_both [] C [] fs h = refl
found_both [] C (e ∷ es) fs h = absurd (omega (arith, h))
found_both (b ∷ B) C [] fs h = absurd (omega (arith, h))
found_both (b ∷ B) C (e ∷ es) fs h = ap (λ xs. (length b, e) ∷ xs) (found_both B C es fs (omega (arith, h)))

-- so much a step adds
pub texts_more : (d : SessionData) (trail : List Happening) (es fs : List (List Event)) → length es ≡ length (asked d) → session_texts (with_trail trail d) (es ++ fs) ≡ followed (session_texts d es) (step_texts trail fs)
texts_more d trail es fs h = λ i. record {
  kicks = (ap kick_text (flat_map-append record_in d.trail trail) ∙ flat_map-append kick_line (records_of d.trail) (records_of trail)) i;
  trace = (ap (λ B. trace_text (found_in B (es ++ fs))) (flat_map-append asked_in d.trail trail) ∙ ap trace_text (found_both (asked d) (asked_of trail) es fs h) ∙ flat_map-append trace_block (found_in (asked d) es) (found_in (asked_of trail) fs)) i;
  bins = (ap (λ xs. codes "I4BINS01" ++ flat_map bins_record xs) (flat_map-append bins_in d.trail trail) ∙ ap (λ xs. codes "I4BINS01" ++ xs) (flat_map-append bins_record (bins_of d.trail) (bins_of trail)) ∙
      sym (append_assoc (codes "I4BINS01") (flat_map bins_record (bins_of d.trail)) (flat_map bins_record (bins_of trail)))) i;
}

-- ---- forces that are found one after another

pub passes_length : (passes : Passes) (asked : List (List BodyData)) (a : List ℕ) (events : List (List Event)) (z : List ℕ) → PassesAll passes asked a events z → length events ≡ length asked
passes_length passes [] a [] z h = refl
passes_length passes [] a (es ∷ events) z h = absurd h
passes_length passes (B ∷ asked) a [] z h = absurd h
passes_length passes (B ∷ asked) a (es ∷ events) z h = let n = passes_length passes asked h.0 events z h.2 in omega (arith, n)

pub passes_on : (passes : Passes) (xs ys : List (List BodyData)) (a : List ℕ) (es : List (List Event)) (m : List ℕ) (fs : List (List Event)) (z : List ℕ) →
    PassesAll passes xs a es m → PassesAll passes ys m fs z → PassesAll passes (xs ++ ys) a (es ++ fs) z
passes_on passes [] ys a [] m fs z h k = subst (λ s. PassesAll passes ys s fs z) (sym h) k
passes_on passes [] ys a (e ∷ es) m fs z h k = absurd h
passes_on passes (B ∷ xs) ys a [] m fs z h k = absurd h
passes_on passes (B ∷ xs) ys a (e ∷ es) m fs z h k = (h.0, h.1, passes_on passes xs ys h.0 es m fs z h.2 k)

-- of a session and of the step that follows
pub passes_more : (passes : Passes) (d : SessionData) (trail : List Happening) (a : List ℕ) (es : List (List Event)) (m : List ℕ) (fs : List (List Event)) (z : List ℕ) →
    PassesAll passes (asked d) a es m → PassesAll passes (asked_of trail) m fs z → PassesAll passes (asked (with_trail trail d)) a (es ++ fs) z
passes_more passes d trail a es m fs z h k = subst (λ xs. PassesAll passes xs a (es ++ fs) z) (sym (flat_map-append asked_in d.trail trail)) (passes_on passes (asked d) (asked_of trail) a es m fs z h k)

-- ---- the open files

-- before anything happened
pub texts_first : (d : SessionData) → d.trail ≡ [] → session_texts d [] ≡ first_texts
texts_first d h = λ i. record { kicks = kick_text (records_of (h i)); trace = trace_text (found_in (asked_of (h i)) []); bins = codes "I4BINS01" ++ flat_map bins_record (bins_of (h i)) }

-- sessions in which the same happened have the same texts
pub texts_same : (d e : SessionData) (events : List (List Event)) → d.trail ≡ e.trail → session_texts d events ≡ session_texts e events
texts_same d e events h = λ i. record { kicks = kick_text (records_of (h i)); trace = trace_text (found_in (asked_of (h i)) events); bins = codes "I4BINS01" ++ flat_map bins_record (bins_of (h i)) }

-- files that hold texts hold those that agree in them
pub stands_agreed : (o : Own) (t u v : OwnTexts) (W files : Files) → AgreeIn o u v → Stands o (followed t u) W files → Stands o (followed t v) W files
stands_agreed o t u v W files a s = record {
  kicks = s.kicks ∙ ap (λ x. Some (t.kicks ++ x)) a.kicks;
  trace = if_some_both o.trace (λ n. u.trace ≡ v.trace) (λ n. files n ≡ Some (t.trace ++ u.trace)) (λ n. files n ≡ Some (t.trace ++ v.trace)) (λ n e h. h ∙ ap (λ x. Some (t.trace ++ x)) e) a.trace s.trace;
  bins = if_some_both o.bins (λ n. u.bins ≡ v.bins) (λ n. files n ≡ Some (t.bins ++ u.bins)) (λ n. files n ≡ Some (t.bins ++ v.bins)) (λ n e h. h ∙ ap (λ x. Some (t.bins ++ x)) e) a.bins s.bins;
  others = s.others;
}

pub parts_agreed : (o : Own) (t u v : OwnTexts) (W files : Files) → AgreeIn o u v → StandsPart o (followed t u) W files → StandsPart o (followed t v) W files
parts_agreed o t u v W files a s = record {
  kicks = subst (λ x. HasPart (files o.kicks) (t.kicks ++ x)) a.kicks s.kicks;
  trace = if_some_both o.trace (λ n. u.trace ≡ v.trace) (λ n. HasPart (files n) (t.trace ++ u.trace)) (λ n. HasPart (files n) (t.trace ++ v.trace)) (λ n e h. subst (λ x. HasPart (files n) (t.trace ++ x)) e h) a.trace s.trace;
  bins = if_some_both o.bins (λ n. u.bins ≡ v.bins) (λ n. HasPart (files n) (t.bins ++ u.bins)) (λ n. HasPart (files n) (t.bins ++ v.bins)) (λ n e h. subst (λ x. HasPart (files n) (t.bins ++ x)) e h) a.bins s.bins;
  others = s.others;
}

-- once the log of a step stands in them they hold the texts of the session with that step
pub stands_logged : (o : Own) (d : SessionData) (trail : List Happening) (es fs : List (List Event)) (log : OwnTexts) (W files : Files) → length es ≡ length (asked d) → AgreeIn o log (step_texts trail fs) →
    Stands o (followed (session_texts d es) log) W files → Stands o (session_texts (with_trail trail d) (es ++ fs)) W files
stands_logged o d trail es fs log W files n a s = subst (λ t. Stands o t W files) (sym (texts_more d trail es fs n)) (stands_agreed o (session_texts d es) log (step_texts trail fs) W files a s)

pub parts_logged : (o : Own) (d : SessionData) (trail : List Happening) (es fs : List (List Event)) (log : OwnTexts) (W files : Files) → length es ≡ length (asked d) → AgreeIn o log (step_texts trail fs) →
    StandsPart o (followed (session_texts d es) log) W files → StandsPart o (session_texts (with_trail trail d) (es ++ fs)) W files
parts_logged o d trail es fs log W files n a s = subst (λ t. StandsPart o t W files) (sym (texts_more d trail es fs n)) (parts_agreed o (session_texts d es) log (step_texts trail fs) W files a s)

-- ---- what is told of a log

bytes_same : (xs ys : List ℕ) → bytes_eq xs ys ≡ true → xs ≡ ys
bytes_same xs ys e = (bytes_eq-Decides xs ys).0 e

both_true : (a b : Bool) → IsTrue (a && b) → IsTrue a × IsTrue b
both_true true b e = (refl, e)
both_true false b e = absurd (false≢true e)

texts_equal : (a b : OwnTexts) → IsTrue (are_texts a b) → a ≡ b
texts_equal a b e =
    let one = both_true (bytes_eq a.kicks b.kicks) (bytes_eq a.trace b.trace && bytes_eq a.bins b.bins) e in
    let two = both_true (bytes_eq a.trace b.trace) (bytes_eq a.bins b.bins) one.1 in
    λ i. record { kicks = bytes_same a.kicks b.kicks one.0 i; trace = bytes_same a.trace b.trace two.0 i; bins = bytes_same a.bins b.bins two.1 i }

pub tells_texts : (traced binned : Bool) (log : OwnTexts) (now left : Option ℕ) (entries : List Taken) → IsTrue (tells traced binned log now left entries) → (log ≡ texts_taken traced binned entries) × IsTrue (leaves left entries now)
tells_texts traced binned log now left entries e =
    let both = both_true (are_texts log (texts_taken traced binned entries)) (leaves left entries now) e in (texts_equal log (texts_taken traced binned entries) both.0, both.1)

same_left : (left : Option ℕ) → IsTrue (leaves left [] left)
same_left None = refl
same_left (Some l) = eq-eqb l l refl

no_texts : (b : Bool) (none : List ℕ) → cond b none none ≡ none
no_texts true none = refl
no_texts false none = refl

-- of an empty log
pub tells_none : (traced binned : Bool) (left : Option ℕ) → IsTrue (tells traced binned (record { kicks = []; trace = []; bins = [] }) left left [])
tells_none traced binned left =
    let empty : OwnTexts = record { kicks = []; trace = []; bins = [] } in
    let e : empty ≡ texts_taken traced binned [] = λ i. record { kicks = []; trace = sym (no_texts traced []) i; bins = sym (no_texts binned []) i } in
    subst (λ t. IsTrue (are_texts empty t && leaves left [] left)) e (same_left left)

-- the log of a step
pub logged : (o : Own) (g : Gravity) (passes : Passes) (traced binned : Bool) → IfSome o.trace (λ n. traced ≡ true) → IfSome o.bins (λ n. binned ≡ true) → (trail : List Happening) (entries : List Taken) (a z : List ℕ) (log : OwnTexts) →
    IsTold g passes a trail entries z → log ≡ texts_taken traced binned entries → IsLogged o passes trail a z log
logged o g passes traced binned t b trail entries a z log h e = record {
  events = flat_map events_in entries;
  found = h.found;
  same = subst (λ x. AgreeIn o x (step_texts trail (flat_map events_in entries))) (sym e) (taken_agree o g traced binned t b entries trail h.each);
}

-- ---- first parts

pub records_first : (d e : SessionData) → IsFirst d.trail e.trail → IsFirst (kick_text (records d)) (kick_text (records e))
records_first d e h = first_flat kick_line (records d) (records e) (first_flat record_in d.trail e.trail h)

pub asked_first : (d e : SessionData) → IsFirst d.trail e.trail → IsFirst (asked d) (asked e)
asked_first d e h = first_flat asked_in d.trail e.trail h

pub bins_first : (d e : SessionData) → IsFirst d.trail e.trail → IsFirst (open_bins_text (bins d)) (open_bins_text (bins e))
bins_first d e h = first_behind (codes "I4BINS01") (flat_map bins_record (bins d)) (flat_map bins_record (bins e)) (first_flat bins_record (bins d) (bins e) (first_flat bins_in d.trail e.trail h))
