-- What a session leaves: the files that it writes one after another, and those that it keeps open.
use Rattle.std.specs.Prelude.{◌≡◌, ◌≤◌, ◌⊎◌, ℕ, List, [], ◌∷◌, ◌++◌, length, take, drop, map, fold, codes, Bool, IsTrue, Option, Some, IfSome, if◌then◌else◌}
use Rattle.std.specs.List.{zip}
use Rattle.std.specs.Str.{bytes_eq}
use Rattle.store_io.specs.Files.{Files}
use Rattle.nbody_model.specs.declared.field.Event.{Event}
use Rattle.nbody_model.specs.Bodies.{BodyData}
use Rattle.nbody_model.specs.Session.{SessionData, Written, records, asked, bins}
use Rattle.nbody_model.specs.SessionFiles.{name_of, bytes_of}
use Rattle.nbody_model.specs.Texts.{kick_text, trace_text, open_bins_text}
use Rattle.param_file.specs.Settings.{ParamsData, setup_of}
use Rattle.run_session.specs.Causes.{IsAmong}
use Rattle.run_session.specs.Own.{Own, OwnTexts, Stands, HasPart, IsOther, followed, own_names}

-- ---- files that are written one after another

abbrev pub file_name : ParamsData → Written → List ℕ
file_name p w = name_of p.snapshot_file_base p.restart_file_base w

abbrev pub file_bytes : ParamsData → Written → List ℕ
file_bytes p w = bytes_of (setup_of p) w

-- a file is written over what was there
abbrev pub with_file : List ℕ → List ℕ → Files → Files
with_file name bytes files = λ q. if bytes_eq q name then Some bytes else files q

-- all of these are, in order
abbrev pub with_written : ParamsData → List Written → Files → Files
with_written p written files = fold (λ W w. with_file (file_name p w) (file_bytes p w) W) files written

-- ---- files that are kept open

-- forces among so many bodies each, by the events in which they were found
abbrev pub found_in : List (List BodyData) → List (List Event) → List (ℕ × List Event)
found_in asked events = zip (map length asked) events

-- what a session puts into them
abbrev pub session_texts : SessionData → List (List Event) → OwnTexts
session_texts d events = record {
  kicks = kick_text (records d);
  trace = trace_text (found_in (asked d) events);
  bins = open_bins_text (bins d);
}

-- a run that came to its last tick ends the bin file by its mark
abbrev pub end_mark : Bool → OwnTexts
end_mark done = record { kicks = []; trace = []; bins = if done then codes "I4BINEND" else [] }

-- ---- after a session

-- its files hold their texts and are finished, and every other file is as before
pub record Leaves (p : ParamsData) (o : Own) (d : SessionData) (events : List (List Event)) (done : Bool) (old new : Files) (closed_old closed_new : List (List ℕ)) : Type 0 where
  pub files : Stands o (followed (session_texts d events) (end_mark done)) (with_written p d.written old) new
  pub closed : closed_new ≡ (closed_old ++ map (file_name p) d.written) ++ own_names o

-- ---- after a fault or want of memory

-- a file of this name is the next one to be written, and holds a first part of its bytes
pub record IsNext (p : ParamsData) (later : List Written) (name : List ℕ) (file : Option (List ℕ)) : Type 0 where
  pub next : Written
  pub rest : List Written
  pub is : later ≡ next ∷ rest
  pub named : name ≡ file_name p next
  pub part : HasPart file (file_bytes p next)

-- the open files hold first parts of these texts; every other file is as the finished ones left it, or is the next one
pub record HoldsParts (p : ParamsData) (o : Own) (t : OwnTexts) (finished later : List Written) (old new : Files) : Type 0 where
  pub kicks : HasPart (new o.kicks) t.kicks
  pub trace : IfSome o.trace (λ n. HasPart (new n) t.trace)
  pub bins : IfSome o.bins (λ n. HasPart (new n) t.bins)
  pub others : (q : List ℕ) → IsOther o q → (new q ≡ with_written p finished old q) ⊎ IsNext p later q (new q)

-- ---- after a fault or want of memory at the end

-- so many bytes of the end mark
abbrev pub begun_mark : ℕ → Bool → OwnTexts
begun_mark mark done = record { kicks = []; trace = []; bins = take mark (end_mark done).bins }

-- they hold these texts and a part of the end mark, which is whole once one of them is finished
pub record IsMarked (o : Own) (t : OwnTexts) (done : Bool) (ended : ℕ) (W files : Files) : Type 0 where
  pub mark : ℕ
  pub whole : (ended ≡ 0) ⊎ (8 ≤ mark)
  pub stands : Stands o (followed t (begun_mark mark done)) W files

-- of those that are kept open the first ones were finished, and the one that couldn't be is among the others
pub record EndsSome (o : Own) (told : Bool) (fault : Option (List ℕ)) (closed_old closed_new : List (List ℕ)) : Type 0 where
  pub ended : ℕ
  pub blamed : IsAmong (drop ended (own_names o)) fault
  pub closed : IsTrue told → closed_new ≡ closed_old ++ take ended (own_names o)

-- the same, with the end mark where the run is done
pub record FinishesSome (o : Own) (done told : Bool) (fault : Option (List ℕ)) (old new : Files) (closed_old closed_new : List (List ℕ)) : Type 0 where
  pub some : EndsSome o told fault closed_old closed_new
  pub files : (t : OwnTexts) (W : Files) → IsTrue told → Stands o t W old → IsMarked o t done some.ended W new
