-- Texts and questions after one more entry.
use Rattle.std.proofs.Common.{◌≡◌, ℕ, ◌+◌, ◌-◌, ◌==◌, Bool, true, false, ◌&&◌, IsTrue, List, [], ◌∷◌, ◌++◌, length, Option, Some, None, if◌then◌else◌, ap, subst, sym, refl, ◌∙◌, append-nil, arith}
use Rattle.std.specs.List.{flat_map}
use Rattle.std.specs.Str.{bytes_eq}
use Rattle.std.proofs.lemmas.Bool.{and_parts, and_from}
use Rattle.std.proofs.lemmas.Bool.Decides.{nat_tests}
use Rattle.std.proofs.lemmas.List.Concat.{flat_map-append}
use Rattle.std.proofs.lemmas.Slice.Eq.{bytes_eq-Decides}
use Rattle.store_io.specs.Stops.{Counted}
use Rattle.nbody_model.specs.declared.kicks.Record.{Record}
use Rattle.nbody_model.specs.Fields.{FieldData}
use Rattle.nbody_model.specs.Texts.{kick_line, trace_block, bins_record}
use Rattle.step_engine.specs.Taken.{Taken, Adds, TookForces, TookKick, TookRest, TookPart}
use Rattle.run_session.specs.Own.{OwnTexts, followed}
use Rattle.run_session.specs.Numbers.{flag, recorder_numbers}
use Rattle.run_session.specs.Logs.{kicks_in, forces_in, parts_in, texts_taken, leaves, are_texts, tells}

-- ---- the questions

after_no : (left_out : Bool) (old new : Bool) → (IsTrue old → IsTrue new) → IsTrue (if left_out then false else old) → IsTrue (if left_out then false else new)
after_no true old new h t = t
after_no false old new h t = h t

-- what an entry does to the questions left by no entry it does after others too
leaves_more : (e : Taken) (before now : Option ℕ) → ((left : Option ℕ) → IsTrue (leaves left [] before) → IsTrue (leaves left (e ∷ []) now))
    → (left : Option ℕ) (earlier : List Taken) → IsTrue (leaves left earlier before) → IsTrue (leaves left (earlier ++ e ∷ []) now)
leaves_more e before now step left [] h = step left h
leaves_more e before now step None (TookForces f ∷ es) h = leaves_more e before now step None es h
leaves_more e before now step None (TookKick k ∷ es) h = leaves_more e before now step None es h
leaves_more e before now step None (TookPart F ∷ es) h = leaves_more e before now step None es h
leaves_more e before now step None (TookRest t a ∷ es) h = leaves_more e before now step None es h
leaves_more e before now step (Some n) (TookForces f ∷ es) h = leaves_more e before now step (Some n) es h
leaves_more e before now step (Some n) (TookKick k ∷ es) h = leaves_more e before now step (Some n) es h
leaves_more e before now step (Some n) (TookPart F ∷ es) h = leaves_more e before now step (Some n) es h
leaves_more e before now step (Some n) (TookRest t true ∷ es) h = h
leaves_more e before now step (Some n) (TookRest t false ∷ es) h =
    after_no (n == 0) (leaves (Some (n - 1)) es before) (leaves (Some (n - 1)) (es ++ e ∷ []) now) (leaves_more e before now step (Some (n - 1)) es) h

is_last : (left now : ℕ) → IsTrue (left == now) → now ≡ 0 → IsTrue (left == 0)
is_last left now h e = grind (arith, nat_tests)

one_less : (left before now : ℕ) → IsTrue (left == before) → now + 1 ≡ before → IsTrue (if left == 0 then false else left - 1 == now)
one_less left before now h e = grind (arith, nat_tests)

leaves_asked : (tick : ℕ) (answer : Bool) (before now : Option ℕ) → Counted answer before now → (left : Option ℕ) → IsTrue (leaves left [] before) → IsTrue (leaves left (TookRest tick answer ∷ []) now)
leaves_asked tick answer None None c None h = refl
leaves_asked tick answer None None c (Some n) h = cc
leaves_asked tick answer None (Some b) c left h = absurd c
leaves_asked tick answer (Some a) None c left h = absurd c
leaves_asked tick answer (Some a) (Some b) c None h = cc
leaves_asked tick true (Some a) (Some b) c (Some n) h = is_last n a h c
leaves_asked tick false (Some a) (Some b) c (Some n) h = one_less n a b h c

-- ---- the texts

record AreTexts (t u : OwnTexts) : Type 0 where
  pub kicks : t.kicks ≡ u.kicks
  pub trace : t.trace ≡ u.trace
  pub bins : t.bins ≡ u.bins

same_texts : (t u : OwnTexts) → IsTrue (are_texts t u) → AreTexts t u
same_texts t u h =
    let all = and_parts (bytes_eq t.kicks u.kicks) (bytes_eq t.trace u.trace && bytes_eq t.bins u.bins) h in
    let rest = and_parts (bytes_eq t.trace u.trace) (bytes_eq t.bins u.bins) all.1 in
    record { kicks = (bytes_eq-Decides t.kicks u.kicks).0 all.0; trace = (bytes_eq-Decides t.trace u.trace).0 rest.0; bins = (bytes_eq-Decides t.bins u.bins).0 rest.1 }

from_same : (t u : OwnTexts) → AreTexts t u → IsTrue (are_texts t u)
from_same t u h =
    and_from _ _ ((bytes_eq-Decides t.kicks u.kicks).1 h.kicks) (and_from _ _ ((bytes_eq-Decides t.trace u.trace).1 h.trace) ((bytes_eq-Decides t.bins u.bins).1 h.bins))

lines_more : {X Y : Type 0} (line : Y → List ℕ) (pick : X → List Y) (xs ys : List X) → flat_map line (flat_map pick (xs ++ ys)) ≡ flat_map line (flat_map pick xs) ++ flat_map line (flat_map pick ys)
lines_more line pick xs ys = ap (flat_map line) (flat_map-append pick xs ys) ∙ flat_map-append line (flat_map pick xs) (flat_map pick ys)

chosen_more : (wanted : Bool) (a b both : List ℕ) → both ≡ a ++ b → (if wanted then both else []) ≡ (if wanted then a else []) ++ (if wanted then b else [])
chosen_more true a b both e = e
chosen_more false a b both e = refl

-- the texts of entries and of one more are one behind the other
taken_more : (traced binned : Bool) (earlier more : List Taken)
    → AreTexts (texts_taken traced binned (earlier ++ more)) (followed (texts_taken traced binned earlier) (texts_taken traced binned more))
taken_more traced binned earlier more = record {
  kicks = lines_more kick_line kicks_in earlier more;
  trace = chosen_more traced _ _ _ (lines_more trace_block forces_in earlier more);
  bins = chosen_more binned _ _ _ (lines_more bins_record parts_in earlier more);
}

-- ---- both

-- an entry whose texts were added, and that left so many questions
told_more : (traced binned : Bool) (old new : OwnTexts) (before now : Option ℕ) (e : Taken) → AreTexts new (followed old (texts_taken traced binned (e ∷ [])))
    → ((left : Option ℕ) → IsTrue (leaves left [] before) → IsTrue (leaves left (e ∷ []) now))
    → (left : Option ℕ) (earlier : List Taken) → IsTrue (tells traced binned old before left earlier) → IsTrue (tells traced binned new now left (earlier ++ e ∷ []))
told_more traced binned old new before now e added step left earlier h =
    let told = and_parts (are_texts old (texts_taken traced binned earlier)) (leaves left earlier before) h in
    let was = same_texts _ _ told.0 in
    let more = taken_more traced binned earlier (e ∷ []) in
    let is : AreTexts new (texts_taken traced binned (earlier ++ e ∷ [])) = record {
      kicks = added.kicks ∙ ap (λ t. t ++ (texts_taken traced binned (e ∷ [])).kicks) was.kicks ∙ sym more.kicks;
      trace = added.trace ∙ ap (λ t. t ++ (texts_taken traced binned (e ∷ [])).trace) was.trace ∙ sym more.trace;
      bins = added.bins ∙ ap (λ t. t ++ (texts_taken traced binned (e ∷ [])).bins) was.bins ∙ sym more.bins;
    } in
    and_from _ _ (from_same new _ is) (leaves_more e before now step left earlier told.1)

nothing_added : (wanted : Bool) (text : List ℕ) → text ≡ text ++ (if wanted then [] else [])
nothing_added true text = sym (append-nil text)
nothing_added false text = sym (append-nil text)

one_added : (text line : List ℕ) → text ++ line ≡ text ++ (line ++ [])
one_added text line = ap (λ l. text ++ l) (sym (append-nil line))

wanted_added : (wanted : Bool) (text line : List ℕ) → wanted ≡ true → text ++ line ≡ text ++ (if wanted then line ++ [] else [])
wanted_added true text line e = one_added text line
wanted_added false text line e = cc

unwanted_added : (wanted : Bool) (text line : List ℕ) → wanted ≡ false → text ≡ text ++ (if wanted then line ++ [] else [])
unwanted_added true text line e = cc
unwanted_added false text line e = sym (append-nil text)

-- an entry that is no question leaves them as they were
quiet_kick : (entry : Record) (now left : Option ℕ) → IsTrue (leaves left [] now) → IsTrue (leaves left (TookKick entry ∷ []) now)
quiet_kick entry now None h = h
quiet_kick entry now (Some n) h = h

quiet_forces : (f : FieldData) (now left : Option ℕ) → IsTrue (leaves left [] now) → IsTrue (leaves left (TookForces f ∷ []) now)
quiet_forces f now None h = h
quiet_forces f now (Some n) h = h

quiet_part : (F : List ℕ) (now left : Option ℕ) → IsTrue (leaves left [] now) → IsTrue (leaves left (TookPart F ∷ []) now)
quiet_part F now None h = h
quiet_part F now (Some n) h = h

pub kick_told : (traced binned : Bool) (old new : OwnTexts) (now : Option ℕ) (entry : Record) → new ≡ record old { kicks = old.kicks ++ kick_line entry }
    → (left : Option ℕ) (earlier : List Taken) → IsTrue (tells traced binned old now left earlier) → IsTrue (tells traced binned new now left (earlier ++ TookKick entry ∷ []))
kick_told traced binned old new now entry e =
    told_more traced binned old new now now (TookKick entry) (record {
      kicks = ap (λ t. t.kicks) e ∙ one_added old.kicks (kick_line entry);
      trace = ap (λ t. t.trace) e ∙ nothing_added traced old.trace;
      bins = ap (λ t. t.bins) e ∙ nothing_added binned old.bins;
    }) (quiet_kick entry now)

-- forces, of which the events are traced
pub forces_told : (traced binned : Bool) (old new : OwnTexts) (now : Option ℕ) (f : FieldData) → traced ≡ true → new ≡ record old { trace = old.trace ++ trace_block (length f.forces, f.events) }
    → (left : Option ℕ) (earlier : List Taken) → IsTrue (tells traced binned old now left earlier) → IsTrue (tells traced binned new now left (earlier ++ TookForces f ∷ []))
forces_told traced binned old new now f w e =
    told_more traced binned old new now now (TookForces f) (record {
      kicks = ap (λ t. t.kicks) e ∙ sym (append-nil old.kicks);
      trace = ap (λ t. t.trace) e ∙ wanted_added traced old.trace (trace_block (length f.forces, f.events)) w;
      bins = ap (λ t. t.bins) e ∙ nothing_added binned old.bins;
    }) (quiet_forces f now)

pub forces_passed : (traced binned : Bool) (texts : OwnTexts) (now : Option ℕ) (f : FieldData) → traced ≡ false
    → (left : Option ℕ) (earlier : List Taken) → IsTrue (tells traced binned texts now left earlier) → IsTrue (tells traced binned texts now left (earlier ++ TookForces f ∷ []))
forces_passed traced binned texts now f w =
    told_more traced binned texts texts now now (TookForces f) (record {
      kicks = sym (append-nil texts.kicks);
      trace = unwanted_added traced texts.trace (trace_block (length f.forces, f.events)) w;
      bins = nothing_added binned texts.bins;
    }) (quiet_forces f now)

-- a fast part, of which records are kept
pub part_told : (traced binned : Bool) (old new : OwnTexts) (now : Option ℕ) (F : List ℕ) → binned ≡ true → new ≡ record old { bins = old.bins ++ bins_record F }
    → (left : Option ℕ) (earlier : List Taken) → IsTrue (tells traced binned old now left earlier) → IsTrue (tells traced binned new now left (earlier ++ TookPart F ∷ []))
part_told traced binned old new now F w e =
    told_more traced binned old new now now (TookPart F) (record {
      kicks = ap (λ t. t.kicks) e ∙ sym (append-nil old.kicks);
      trace = ap (λ t. t.trace) e ∙ nothing_added traced old.trace;
      bins = ap (λ t. t.bins) e ∙ wanted_added binned old.bins (bins_record F) w;
    }) (quiet_part F now)

pub part_passed : (traced binned : Bool) (texts : OwnTexts) (now : Option ℕ) (F : List ℕ) → binned ≡ false
    → (left : Option ℕ) (earlier : List Taken) → IsTrue (tells traced binned texts now left earlier) → IsTrue (tells traced binned texts now left (earlier ++ TookPart F ∷ []))
part_passed traced binned texts now F w =
    told_more traced binned texts texts now now (TookPart F) (record {
      kicks = sym (append-nil texts.kicks);
      trace = nothing_added traced texts.trace;
      bins = unwanted_added binned texts.bins (bins_record F) w;
    }) (quiet_part F now)

-- a question
pub rest_told : (traced binned : Bool) (texts : OwnTexts) (before now : Option ℕ) (tick : ℕ) (answer : Bool) → Counted answer before now
    → (left : Option ℕ) (earlier : List Taken) → IsTrue (tells traced binned texts before left earlier) → IsTrue (tells traced binned texts now left (earlier ++ TookRest tick answer ∷ []))
rest_told traced binned texts before now tick answer c =
    told_more traced binned texts texts before now (TookRest tick answer) (record {
      kicks = sym (append-nil texts.kicks);
      trace = nothing_added traced texts.trace;
      bins = nothing_added binned texts.bins;
    }) (leaves_asked tick answer before now c)

-- ---- from the start, and for the caller

nothing_yet : (wanted : Bool) → ◌≡◌ {A = List ℕ} [] (if wanted then [] else [])
nothing_yet true = refl
nothing_yet false = refl

left_yet : (left : Option ℕ) → IsTrue (leaves left [] left)
left_yet None = refl
left_yet (Some n) = grind (arith, nat_tests)

-- where nothing was taken there are no texts, and all questions are left
pub begun_told : (traced binned : Bool) (left : Option ℕ) → IsTrue (tells traced binned (record { kicks = []; trace = []; bins = [] }) left left [])
begun_told traced binned left =
    and_from _ _ (from_same _ _ (record { kicks = refl {a = []}; trace = nothing_yet traced; bins = nothing_yet binned })) (left_yet left)

-- what is told are the texts of the entries, and how many questions are left
pub texts_told : (traced binned : Bool) (texts : OwnTexts) (now left : Option ℕ) (entries : List Taken) → IsTrue (tells traced binned texts now left entries) → texts ≡ texts_taken traced binned entries
texts_told traced binned texts now left entries h =
    let is = same_texts texts _ (and_parts (are_texts texts (texts_taken traced binned entries)) (leaves left entries now) h).0 in
    λ i. record { kicks = is.kicks i; trace = is.trace i; bins = is.bins i }

pub left_told : (traced binned : Bool) (texts : OwnTexts) (now left : Option ℕ) (entries : List Taken) → IsTrue (tells traced binned texts now left entries) → IsTrue (leaves left entries now)
left_told traced binned texts now left entries h = (and_parts (are_texts texts (texts_taken traced binned entries)) (leaves left entries now) h).1

same_flag : (a b : Bool) → flag a ≡ flag b → a ≡ b
same_flag true true e = refl
same_flag true false e = cc
same_flag false true e = cc
same_flag false false e = refl

-- what a recorder that began with no texts tells after some entries
pub recorded : (traced binned old_traced old_binned new_traced new_binned : Bool) (stop log new_stop new_log : ℕ) (begun texts : OwnTexts) (before now : Option ℕ) (entries : List Taken)
    → old_traced ≡ traced → old_binned ≡ binned → begun ≡ record { kicks = []; trace = []; bins = [] }
    → recorder_numbers new_stop new_log new_traced new_binned ≡ recorder_numbers stop log old_traced old_binned
    → Adds (tells old_traced old_binned begun before) (tells new_traced new_binned texts now) entries → IsTrue (tells traced binned texts now before entries)
recorded traced binned old_traced old_binned new_traced new_binned stop log new_stop new_log begun texts before now entries t b none e h =
    let same_traced : new_traced ≡ traced = same_flag new_traced old_traced (cc) ∙ t in
    let same_binned : new_binned ≡ binned = same_flag new_binned old_binned (cc) ∙ b in
    let first : IsTrue (tells old_traced old_binned begun before before []) = subst (λ x. IsTrue (tells old_traced old_binned x before before [])) (sym none) (begun_told old_traced old_binned before) in
    subst (λ x. IsTrue (tells x binned texts now before entries)) same_traced (subst (λ x. IsTrue (tells new_traced x texts now before entries)) same_binned (h before [] first))
