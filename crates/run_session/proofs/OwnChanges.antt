-- What calls on the files that a run keeps open do to them, one after another.
use Rattle.std.proofs.Common.{◌≡◌, ◌≢◌, inl, inr, ℕ, ◌+◌, Bool, true, false, IsTrue, List, [], ◌∷◌, ◌++◌, length, take, Option, Some, None, ap, subst, sym, refl, ◌∙◌, append-nil, append_assoc, arith, rules}
use Rattle.std.specs.Prelude.{IsSome, IfErr, IfSome, OnOk, OnErr, Result, Ok, Err, unwrap_or}
use Rattle.std.proofs.Math.Seq.{drop-append_seam, take-append-add, take-append_seam, take-length}
use Rattle.store_io.specs.Files.{Files, bytes_of, ChangesOnly, AppendsPart}
use Rattle.run_session.specs.Causes.{IsAmong}
use Rattle.run_session.specs.Changes.{AreThere, IsPartlyNow, Grows, GrowsPartly, Turns, TurnsIf, TurnAll, WritesPart}
use Rattle.run_session.specs.Outputs.{EndsSome, FinishesSome, IsMarked, begun_mark, end_mark}
use Rattle.run_session.specs.Own.{Own, AreApart, HasPart, OwnTexts, Stands, StandsPart, followed, name_list, own_names}
use Rattle.run_session.proofs.Blamed.{among_first, among_last}

pub on_err_then : {T E P Q : Type 0} (r : Result T E) → (P → Q) → OnErr r P → OnErr r Q
on_err_then (Ok x) f h = tt
on_err_then (Err e) f h = f h

-- ---- one file

-- bytes that were put behind a file, and a first part of them
pub grown : (old new : Files) (name bytes : List ℕ) → ChangesOnly old new name (Some (bytes_of (old name) ++ bytes)) → Turns (Grows bytes) name old new
grown old new name bytes h = record { turned = λ text e. h.changed ∙ ap (λ f. Some (bytes_of f ++ bytes)) e; others = h.others }

grows_partly : (bytes : List ℕ) (a b : Option (List ℕ)) → Grows bytes a b → GrowsPartly bytes a b
grows_partly bytes a b h = λ text e. (length bytes, h text e ∙ ap (λ x. Some (text ++ x)) (sym (take-length bytes)))

part_grown : (old new : Files) (name bytes : List ℕ) → AppendsPart old new name bytes → Turns (GrowsPartly bytes) name old new
part_grown old new name bytes h = record { turned = λ text e. (h.0, h.1.changed ∙ ap (λ f. Some (bytes_of f ++ take h.0 bytes)) e); others = h.1.others }

pub grown_in_part : {T E : Type 0} (r : Result T E) (told : Type 0) (old new : Files) (name bytes : List ℕ)
    → OnOk r (told → ChangesOnly old new name (Some (bytes_of (old name) ++ bytes))) → OnErr r (told → AppendsPart old new name bytes)
    → told → Turns (GrowsPartly bytes) name old new
grown_in_part (Ok x) told old new name bytes h k t =
    let g = grown old new name bytes (h t) in record { turned = grows_partly bytes _ _ g.turned; others = g.others }
grown_in_part (Err e) told old new name bytes h k t = part_grown old new name bytes (k t)

-- a file that was made, and then got a first part of its tag
pub opened_in_part : {T E : Type 0} (r : Result T E) (told : Type 0) (old mid new : Files) (name tag : List ℕ) → ChangesOnly old mid name (Some [])
    → OnOk r (told → ChangesOnly mid new name (Some (bytes_of (mid name) ++ tag))) → OnErr r (told → AppendsPart mid new name tag) → told
    → Turns (IsPartlyNow tag) name old new
opened_in_part (Ok x) told old mid new name tag h k l t = record {
  turned = inr (length tag, (k t).changed ∙ ap (λ f. Some (bytes_of f ++ tag)) h.changed ∙ ap (λ x. Some x) (sym (take-length tag)));
  others = λ q ne. (k t).others q ne ∙ h.others q ne;
}
opened_in_part (Err e) told old mid new name tag h k l t = record {
  turned = inr ((l t).0, (l t).1.changed ∙ ap (λ f. Some (bytes_of f ++ take (l t).0 tag)) h.changed);
  others = λ q ne. (l t).1.others q ne ∙ h.others q ne;
}

-- ---- one after another

carried : {X : Type 0} (P : X → X → Type 0) (a b c d : X) → b ≡ a → d ≡ c → P b c → P a d
carried P a b c d e f h = subst (λ x. P a x) (sym f) (subst (λ x. P x c) e h)

flipped : (name : Option (List ℕ)) (q : List ℕ) → IfSome name (λ n. n ≢ q) → IfSome name (λ n. q ≢ n)
flipped None q h = tt
flipped (Some n) q h = λ e. h (sym e)

apart_stays : (P : Option (List ℕ) → Option (List ℕ) → Type 0) (name : Option (List ℕ)) (q : List ℕ) (old new : Files) → IfSome name (λ n. q ≢ n) → TurnsIf P name old new → new q ≡ old q
apart_stays P None q old new ne h = h q
apart_stays P (Some n) q old new ne h = h.others q ne

join_trace : (K T B : Option (List ℕ) → Option (List ℕ) → Type 0) (kicks : List ℕ) (trace bins : Option (List ℕ)) (a b c d : Files)
    → IfSome trace (λ n. n ≢ kicks) → IfSome trace (λ n. IfSome bins (λ m. m ≢ n)) → Turns K kicks a b → TurnsIf T trace b c → TurnsIf B bins c d
    → IfSome trace (λ n. T (a n) (d n))
join_trace K T B kicks None bins a b c d ne both h k l = tt
join_trace K T B kicks (Some n) bins a b c d ne both h k l =
    carried T (a n) (b n) (c n) (d n) (h.others n ne) (apart_stays B bins n c d (flipped bins n both) l) k.turned

join_bins : (K T B : Option (List ℕ) → Option (List ℕ) → Type 0) (kicks : List ℕ) (trace bins : Option (List ℕ)) (a b c d : Files)
    → IfSome bins (λ n. n ≢ kicks) → IfSome trace (λ n. IfSome bins (λ m. m ≢ n)) → Turns K kicks a b → TurnsIf T trace b c → TurnsIf B bins c d
    → IfSome bins (λ n. B (a n) (d n))
join_bins K T B kicks trace None a b c d ne both h k l = tt
join_bins K T B kicks trace (Some m) a b c d ne both h k l =
    carried B (a m) (c m) (d m) (d m) (apart_stays T trace m b c both k ∙ h.others m ne) refl l.turned

-- what three calls do to the three files
joined : (K T B : Option (List ℕ) → Option (List ℕ) → Type 0) (o : Own) (a b c d : Files) → AreApart o → Turns K o.kicks a b → TurnsIf T o.trace b c → TurnsIf B o.bins c d
    → TurnAll K T B o a d
joined K T B o a b c d p h k l = record {
  kicks = carried K (a o.kicks) (a o.kicks) (b o.kicks) (d o.kicks) refl (apart_stays B o.bins o.kicks c d (flipped o.bins o.kicks p.bins) l ∙ apart_stays T o.trace o.kicks b c (flipped o.trace o.kicks p.trace) k) h.turned;
  trace = join_trace K T B o.kicks o.trace o.bins a b c d p.trace p.both h k l;
  bins = join_bins K T B o.kicks o.trace o.bins a b c d p.bins p.both h k l;
  others = λ q ne. apart_stays B o.bins q c d ne.bins l ∙ apart_stays T o.trace q b c ne.trace k ∙ h.others q ne.kicks;
}

-- a file that stays as it is
stays_if : (P : Option (List ℕ) → Option (List ℕ) → Type 0) (name : Option (List ℕ)) (files : Files) → ((file : Option (List ℕ)) → P file file) → TurnsIf P name files files
stays_if P None files h = λ q. refl
stays_if P (Some n) files h = record { turned = h (files n); others = λ q ne. refl }

grows_by_none : (bytes : List ℕ) (file : Option (List ℕ)) → GrowsPartly bytes file file
grows_by_none bytes file = λ text e. (0, e ∙ ap (λ x. Some x) (sym (append-nil text)))

-- nothing was put behind a file
pub not_grown : (bytes : List ℕ) (name : Option (List ℕ)) (files : Files) → TurnsIf (GrowsPartly bytes) name files files
not_grown bytes name files = stays_if (GrowsPartly bytes) name files (grows_by_none bytes)

pub grows_by_nothing : (file : Option (List ℕ)) → Grows [] file file
grows_by_nothing file = λ text e. e ∙ ap (λ x. Some x) (sym (append-nil text))

pub stays_partly : (text : List ℕ) (file : Option (List ℕ)) → IsPartlyNow text file file
stays_partly text file = inl refl

-- ---- the three files afterwards

has_part : (old new : Option (List ℕ)) (text bytes : List ℕ) → old ≡ Some text → GrowsPartly bytes old new → HasPart new (text ++ bytes)
has_part old new text bytes e h = let part = h text e in (length text + part.0, part.1 ∙ ap (λ x. Some x) (sym (take-append-add text bytes part.0)))

has_part_if : (name : Option (List ℕ)) (old new : Files) (text bytes : List ℕ) → IfSome name (λ n. old n ≡ Some text) → IfSome name (λ n. GrowsPartly bytes (old n) (new n))
    → IfSome name (λ n. HasPart (new n) (text ++ bytes))
has_part_if None old new text bytes e h = tt
has_part_if (Some n) old new text bytes e h = has_part (old n) (new n) text bytes e h

grown_if : (name : Option (List ℕ)) (old new : Files) (text bytes : List ℕ) → IfSome name (λ n. old n ≡ Some text) → IfSome name (λ n. Grows bytes (old n) (new n))
    → IfSome name (λ n. new n ≡ Some (text ++ bytes))
grown_if None old new text bytes e h = tt
grown_if (Some n) old new text bytes e h = h text e

stand_followed : (o : Own) (t more : OwnTexts) (W old new : Files) → TurnAll (Grows more.kicks) (Grows more.trace) (Grows more.bins) o old new → Stands o t W old
    → Stands o (followed t more) W new
stand_followed o t more W old new h s = record {
  kicks = h.kicks t.kicks s.kicks;
  trace = grown_if o.trace old new t.trace more.trace s.trace h.trace;
  bins = grown_if o.bins old new t.bins more.bins s.bins h.bins;
  others = λ q ne. h.others q ne ∙ s.others q ne;
}

stand_in_part : (o : Own) (t more : OwnTexts) (W old new : Files) → TurnAll (GrowsPartly more.kicks) (GrowsPartly more.trace) (GrowsPartly more.bins) o old new → Stands o t W old
    → StandsPart o (followed t more) W new
stand_in_part o t more W old new h s = record {
  kicks = has_part (old o.kicks) (new o.kicks) t.kicks more.kicks s.kicks h.kicks;
  trace = has_part_if o.trace old new t.trace more.trace s.trace h.trace;
  bins = has_part_if o.bins old new t.bins more.bins s.bins h.bins;
  others = λ q ne. h.others q ne ∙ s.others q ne;
}

-- ---- three calls

pub appended : (o : Own) (more : OwnTexts) (a b c d : Files) → AreApart o → Turns (GrowsPartly more.kicks) o.kicks a b → TurnsIf (GrowsPartly more.trace) o.trace b c
    → TurnsIf (GrowsPartly more.bins) o.bins c d → (t : OwnTexts) (W : Files) → Stands o t W a → StandsPart o (followed t more) W d
appended o more a b c d p h k l t W s =
    stand_in_part o t more W a d (joined (GrowsPartly more.kicks) (GrowsPartly more.trace) (GrowsPartly more.bins) o a b c d p h k l) s

-- the bin file alone has grown by a part of an end mark
grown_by : (name : Option (List ℕ)) (mark : List ℕ) (a b : Files) → (t : List ℕ) → IfSome name (λ n. a n ≡ Some t) → TurnsIf (GrowsPartly mark) name a b → (k : ℕ) × TurnsIf (Grows (take k mark)) name a b
grown_by None mark a b t e h = (0, h)
grown_by (Some n) mark a b t e h =
    let k = h.turned t e in
    (k.0, record { turned = λ text f. subst (λ x. b n ≡ Some (x ++ take k.0 mark)) (some_same t text (sym e ∙ f)) k.1; others = h.others })
  where
    some_same : (x y : List ℕ) → Some x ≡ Some y → x ≡ y
    some_same x y p = ap (λ (s : Option (List ℕ)). unwrap_or s []) p

marked_by : (o : Own) (mark : List ℕ) (a b : Files) → AreApart o → TurnsIf (Grows mark) o.bins a b → (t : OwnTexts) (W : Files) → Stands o t W a
    → Stands o (followed t (record { kicks = []; trace = []; bins = mark })) W b
marked_by o mark a b p h t W s =
    stand_followed o t (record { kicks = []; trace = []; bins = mark }) W a b
    (joined (Grows []) (Grows []) (Grows mark) o a a a b p (record { turned = grows_by_nothing (a o.kicks); others = λ q ne. refl }) (stays_if (Grows []) o.trace a grows_by_nothing) h) s

-- in part, where none of the three is finished yet
pub marked_partly : (o : Own) (done : Bool) (a b : Files) → AreApart o → TurnsIf (GrowsPartly (end_mark done).bins) o.bins a b → (t : OwnTexts) (W : Files) → Stands o t W a → IsMarked o t done 0 W b
marked_partly o done a b p h t W s =
    let g = grown_by o.bins (end_mark done).bins a b t.bins s.bins h in
    record { mark = g.0; whole = inl refl; stands = marked_by o (take g.0 (end_mark done).bins) a b p g.1 t W s }

mark_whole : (done : Bool) → (end_mark done).bins ≡ take 8 (end_mark done).bins
mark_whole true = refl
mark_whole false = refl

-- whole
pub marked_whole : (o : Own) (done : Bool) (ended : ℕ) (a b c : Files) → AreApart o → TurnsIf (Grows (end_mark done).bins) o.bins a b → c ≡ b → (t : OwnTexts) (W : Files) → Stands o t W a → IsMarked o t done ended W c
marked_whole o done ended a b c p h e t W s = record {
  mark = 8;
  whole = inr (omega arith);
  stands = subst (λ files. Stands o (followed t (begun_mark 8 done)) W files) (sym e) (marked_by o (take 8 (end_mark done).bins) a b p (subst (λ m. TurnsIf (Grows m) o.bins a b) (mark_whole done) h) t W s);
}

-- ---- what was finished

-- none of three
pub ends_none : (told : Bool) (fault : Option (List ℕ)) (closed now : List (List ℕ)) (o : Own) → IsAmong (own_names o) fault → now ≡ closed → EndsSome o told fault closed now
ends_none told fault closed now o b e = record { ended = 0; blamed = b; closed = λ t. e ∙ sym (append-nil closed) }

-- none of three, by a fault at the first
pub ends_at_first : (told : Bool) (fault : Option (List ℕ)) (closed now : List (List ℕ)) (o : Own) → IsAmong (o.kicks ∷ []) fault → now ≡ closed → EndsSome o told fault closed now
ends_at_first told fault closed now o b e = ends_none told fault closed now o (among_first (o.kicks ∷ []) (name_list o.trace ++ name_list o.bins) fault b) e

-- the first one
pub ends_first : (told : Bool) (fault : Option (List ℕ)) (closed mid now : List (List ℕ)) (o : Own) → IsAmong (name_list o.trace) fault → (IsTrue told → mid ≡ closed ++ o.kicks ∷ []) → now ≡ mid → EndsSome o told fault closed now
ends_first told fault closed mid now o b e f = record { ended = 1; blamed = among_first (name_list o.trace) (name_list o.bins) fault b; closed = λ t. f ∙ e t }

-- the first two
pub ends_second : (told : Bool) (fault : Option (List ℕ)) (closed mid two now : List (List ℕ)) (o : Own) → IsAmong (name_list o.bins) fault → (IsTrue told → mid ≡ closed ++ o.kicks ∷ []) → (IsTrue told → two ≡ mid ++ name_list o.trace) → now ≡ two
    → EndsSome o told fault closed now
ends_second told fault closed mid two now o b e f s = record {
  ended = length (o.kicks ∷ name_list o.trace);
  blamed = subst (λ xs. IsAmong xs fault) (sym (drop-append_seam (name_list o.trace) (name_list o.bins))) b;
  closed = λ t. s ∙ f t ∙ ap (λ l. l ++ name_list o.trace) (e t) ∙ append_assoc closed (o.kicks ∷ []) (name_list o.trace) ∙ ap (λ l. closed ++ l) (sym (take-append_seam (o.kicks ∷ name_list o.trace) (name_list o.bins)));
}

-- the end mark couldn't be put
pub finishes_none : (o : Own) (done told : Bool) (fault : Option (List ℕ)) (old new : Files) (closed now : List (List ℕ)) → AreApart o → IsAmong (name_list o.bins) fault → now ≡ closed → (IsTrue told → TurnsIf (GrowsPartly (end_mark done).bins) o.bins old new)
    → FinishesSome o done told fault old new closed now
finishes_none o done told fault old new closed now p b e h = record {
  some = record { ended = 0; blamed = among_last (o.kicks ∷ name_list o.trace) (name_list o.bins) fault b; closed = λ at. e ∙ sym (append-nil closed) };
  files = λ t W at s. marked_partly o done old new p (h at) t W s;
}

-- it stands, and some were finished
pub finishes_some : (o : Own) (done told told_mid : Bool) (fault : Option (List ℕ)) (old mid new : Files) (closed closed_mid now : List (List ℕ)) → AreApart o → (IsTrue told → TurnsIf (Grows (end_mark done).bins) o.bins old mid) → told_mid ≡ told → closed_mid ≡ closed → new ≡ mid
    → EndsSome o told_mid fault closed_mid now → FinishesSome o done told fault old new closed now
finishes_some o done told told_mid fault old mid new closed closed_mid now p h q e f s = record {
  some = record { ended = s.ended; blamed = s.blamed; closed = λ at. s.closed (q ∙ at) ∙ ap (λ l. l ++ take s.ended (own_names o)) e };
  files = λ t W at x. marked_whole o done s.ended old mid new p (h at) f t W x;
}

pub err_both : {T E : Type 0} (r : Result T E) (P : E → Type 0) (Q : Type 0) (R : E → Type 0) → ((e : E) → P e → Q → R e) → IfErr r P → OnErr r Q → IfErr r R
err_both (Ok x) P Q R f h k = tt
err_both (Err e) P Q R f h k = f e h k

pub err_by : {T E : Type 0} (r : Result T E) (P R : E → Type 0) → ((e : E) → P e → R e) → IfErr r P → IfErr r R
err_by (Ok x) P R f h = tt
err_by (Err e) P R f h = f e h

-- ---- a file that was made, written and then not finished

pub not_finished : (a b c d : Files) (name text : List ℕ) → ChangesOnly a b name (Some []) → ChangesOnly b c name (Some text) → d ≡ c → WritesPart a d name text
not_finished a b c d name text h k e =
    inr (
      length text,
      record {
        changed = ap (λ (files : Files). files name) e ∙ k.changed ∙ ap (λ x. Some x) (sym (take-length text));
        others = λ q ne. ap (λ (files : Files). files q) e ∙ k.others q ne ∙ h.others q ne;
      },
    )

-- ---- files that stand are there

is_there : (file : Option (List ℕ)) (text : List ℕ) → file ≡ Some text → IsSome file
is_there file text e = subst (λ f. IsSome f) (sym e) (search rules)

are_there_if : (name : Option (List ℕ)) (files : Files) (text : List ℕ) → IfSome name (λ n. files n ≡ Some text) → IfSome name (λ n. IsSome (files n))
are_there_if None files text h = tt
are_there_if (Some n) files text h = is_there (files n) text h

pub are_there : (o : Own) (t : OwnTexts) (W files : Files) → Stands o t W files → AreThere o files
are_there o t W files s = record {
  kicks = is_there (files o.kicks) t.kicks s.kicks;
  trace = are_there_if o.trace files t.trace s.trace;
  bins = are_there_if o.bins files t.bins s.bins;
}
