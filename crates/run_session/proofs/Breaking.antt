-- What a session that was broken off leaves.
use Rattle.std.proofs.Common.{IsTrue, ◌≡◌, ◌⊎◌, inl, inr, ℕ, List, [], ◌∷◌, ◌++◌, map, take, Option, Some, None, refl, ap, sym, ◌∙◌, append_assoc}
use Rattle.std.specs.Prelude.{IfSome, codes}
use Rattle.std.specs.List.{flat_map}
use Rattle.std.proofs.lemmas.List.{append-nil}
use Rattle.store_io.specs.Files.{Files}
use Rattle.nbody_model.specs.declared.field.Event.{Event}
use Rattle.nbody_model.specs.Passes.{PassesAll, Passes}
use Rattle.nbody_model.specs.Evolve.{record_in, asked_in, bins_in}
use Rattle.nbody_model.specs.Session.{SessionData, Written, records, asked, bins}
use Rattle.nbody_model.specs.Texts.{kick_line, kick_text, bins_record, open_bins_text}
use Rattle.run_session.specs.Causes.{IsAmong}
use Rattle.run_session.specs.Own.{StandsPart, Own, OwnTexts, HasPart, IsOther, own_names}
use Rattle.run_session.specs.Outputs.{file_name, file_bytes, with_written, session_texts, IsNext}
use Rattle.run_session.specs.Broken.{IsGoing}
use Rattle.run_session.specs.Stages.{Basis, IsFirst, GrowsTo, HasFiles, IsBrokenIn, WritesPart}
use Rattle.run_session.specs.Worlds.{World}
use Rattle.run_session.proofs.FirstParts.{first_behind, first_flat}
use Rattle.run_session.proofs.Blamed.{among_first, among_last}
use Rattle.run_session.proofs.FileFacts.{if_some_both, whole_part, part_first}

-- ---- the open files

-- what is said of every open file by its texts
abbrev OwnParts : Own → OwnTexts → Files → Type 0
OwnParts o t files = HasPart (files o.kicks) t.kicks × (IfSome o.trace (λ n. HasPart (files n) t.trace) × IfSome o.bins (λ n. HasPart (files n) t.bins))

-- every other file is as these finished ones left it, or is the next one
abbrev OthersLeft : Basis → List Written → List Written → Files → Type 0
OthersLeft C finished later files = (q : List ℕ) → IsOther C.own q → (files q ≡ with_written C.params finished C.start.files q) ⊎ IsNext C.params later q (files q)

-- open files that hold first parts of the texts of a session so far hold first parts of those of what it grows to
module _ (C : Basis) (passes : Passes) (d e : SessionData) (grows : GrowsTo d e) (fault : Option (List ℕ)) (Z : World) (events : List (List Event)) (reached : List ℕ) (found : PassesAll passes (asked d) C.start.state events reached) where
  kicks_grow : IsFirst (kick_text (records d)) (kick_text (records e))
  kicks_grow = first_flat kick_line (records d) (records e) (first_flat record_in d.trail e.trail grows.trail)

  bins_grow : IsFirst (open_bins_text (bins d)) (open_bins_text (bins e))
  bins_grow = first_behind (codes "I4BINS01") (flat_map bins_record (bins d)) (flat_map bins_record (bins e)) (first_flat bins_record (bins d) (bins e) (first_flat bins_in d.trail e.trail grows.trail))

  asked_grow : IsFirst (asked d) (asked e)
  asked_grow = first_flat asked_in d.trail e.trail grows.trail

  pub goes : (later : List Written) → e.written ≡ d.written ++ later → IsAmong (own_names C.own ++ map (file_name C.params) (take 1 later)) fault →
      (IsTrue C.told → OwnParts C.own (session_texts d events) Z.files × OthersLeft C d.written later Z.files) → (IsTrue C.told → Z.closed ≡ C.start.closed ++ map (file_name C.params) d.written) → IsGoing C.params C.own passes C.told e fault C.start Z
  goes later written blamed files closed = record {
    finished = d.written;
    later = later;
    written = written;
    blamed = blamed;
    forces = asked d;
    unasked = asked_grow.more;
    events = events;
    reached = reached;
    order = asked_grow.is;
    found = found;
    files = λ told.
        let s = files told in
        record {
          kicks = part_first (Z.files C.own.kicks) (kick_text (records d)) (kick_text (records e)) s.0.0 kicks_grow;
          trace = s.0.1.0;
          bins = if_some_both C.own.bins (λ n. HasPart (Z.files n) (open_bins_text (bins d))) (λ n. HasPart (Z.files n) (open_bins_text (bins d))) (λ n. HasPart (Z.files n) (open_bins_text (bins e)))
              (λ n h _. part_first (Z.files n) (open_bins_text (bins d)) (open_bins_text (bins e)) h bins_grow) s.0.1.1 s.0.1.1;
          others = s.1;
        };
    closed = closed;
  }

-- open files that hold their texts hold first parts of them
pub own_whole : (o : Own) (t : OwnTexts) (files : Files) → files o.kicks ≡ Some t.kicks → IfSome o.trace (λ n. files n ≡ Some t.trace) → IfSome o.bins (λ n. files n ≡ Some t.bins) → OwnParts o t files
own_whole o t files a b c = (
  whole_part (files o.kicks) t.kicks a,
  (
    if_some_both o.trace (λ n. files n ≡ Some t.trace) (λ n. files n ≡ Some t.trace) (λ n. HasPart (files n) t.trace) (λ n h _. whole_part (files n) t.trace h) b b,
    if_some_both o.bins (λ n. files n ≡ Some t.bins) (λ n. files n ≡ Some t.bins) (λ n. HasPart (files n) t.bins) (λ n h _. whole_part (files n) t.bins h) c c,
  ),
)

-- ---- a session so far, broken off

-- its files are whole
pub breaks_here : (C : Basis) (passes : Passes) (d : SessionData) (fault : Option (List ℕ)) (Z : World) → IsAmong (own_names C.own) fault → HasFiles C passes d Z → IsBrokenIn C passes d fault Z
breaks_here C passes d fault Z b h = record {
  going = λ e grows. goes C passes d e grows fault Z h.events Z.state h.found grows.written.more grows.written.is (among_first (own_names C.own) (map (file_name C.params) (take 1 grows.written.more)) fault b)
      (λ told. let s = h.files told in (own_whole C.own (session_texts d h.events) Z.files s.kicks s.trace s.bins, (λ q other. inl (s.others q other)))) h.closed;
}

-- the open files hold first parts of its texts
pub breaks_part : (C : Basis) (passes : Passes) (d : SessionData) (fault : Option (List ℕ)) (Z : World) (events : List (List Event)) (reached : List ℕ) → IsAmong (own_names C.own) fault → PassesAll passes (asked d) C.start.state events reached →
    (IsTrue C.told → StandsPart C.own (session_texts d events) (with_written C.params d.written C.start.files) Z.files) → (IsTrue C.told → Z.closed ≡ C.start.closed ++ map (file_name C.params) d.written) → IsBrokenIn C passes d fault Z
breaks_part C passes d fault Z events reached b found own closed = record {
  going = λ e grows. goes C passes d e grows fault Z events reached found grows.written.more grows.written.is (among_first (own_names C.own) (map (file_name C.params) (take 1 grows.written.more)) fault b)
      (λ told. let s = own told in ((s.kicks, (s.trace, s.bins)), (λ q other. inl (s.others q other)))) closed;
}

-- a next file was begun
module _ (C : Basis) (passes : Passes) (d f : SessionData) (w : Written) (fault : Option (List ℕ)) (A Z : World) (same : f.written ≡ d.written ++ w ∷ []) (trail : f.trail ≡ d.trail) (questions : f.questions ≡ d.questions) where
  abbrev grown : (e : SessionData) → GrowsTo f e → GrowsTo d e
  grown e g = record {
    written = record { more = w ∷ g.written.more; is = g.written.is ∙ ap (λ xs. xs ++ g.written.more) same ∙ append_assoc d.written (w ∷ []) g.written.more };
    trail = record { more = g.trail.more; is = g.trail.is ∙ ap (λ xs. xs ++ g.trail.more) trail };
    questions = record { more = g.questions.more; is = g.questions.is ∙ ap (λ xs. xs ++ g.questions.more) questions };
  }

  next_or_not : (more : List Written) (q : List ℕ) (W : Option (List ℕ)) → (Z.files q ≡ W) ⊎ ((q ≡ file_name C.params w) × HasPart (Z.files q) (file_bytes C.params w)) → (Z.files q ≡ W) ⊎ IsNext C.params (w ∷ more) q (Z.files q)
  next_or_not more q W (inl h) = inl h
  next_or_not more q W (inr h) = inr (record { next = w; rest = more; is = refl; named = h.0; part = h.1 })

  pub breaks_next : IsAmong (file_name C.params w ∷ []) fault → HasFiles C passes d A → WritesPart C.params C.own w C.told A.files Z.files A.closed Z.closed → IsBrokenIn C passes f fault Z
  breaks_next b h part = record {
    going = λ e g.
        let grows = grown e g in
        goes C passes d e grows fault Z h.events A.state h.found (w ∷ g.written.more) grows.written.is (among_last (own_names C.own) (file_name C.params w ∷ []) fault b)
        (λ told.
        let s = part.files (session_texts d h.events) (with_written C.params d.written C.start.files) told (h.files told) in
        (own_whole C.own (session_texts d h.events) Z.files s.kicks s.trace s.bins, (λ q other. next_or_not g.written.more q (with_written C.params d.written C.start.files q) (s.others q other))))
        (λ told. part.closed told ∙ h.closed told);
  }
