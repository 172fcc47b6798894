-- What a session leaves that a fault or want of memory broke off.
use Rattle.std.specs.Prelude.{◌≡◌, ◌⊎◌, ℕ, Bool, IsTrue, List, ◌++◌, take, map, Option}
use Rattle.nbody_model.specs.declared.field.Event.{Event}
use Rattle.nbody_model.specs.Bodies.{BodyData}
use Rattle.nbody_model.specs.Passes.{PassesAll, Passes}
use Rattle.nbody_model.specs.Session.{SessionData, Written, asked, is_done}
use Rattle.nbody_model.specs.Texts.{trace_text}
use Rattle.param_file.specs.Settings.{ParamsData}
use Rattle.run_session.specs.Causes.{IsAmong}
use Rattle.run_session.specs.Own.{Own, OwnTexts, OpensPart, own_names}
use Rattle.run_session.specs.Outputs.{EndsSome, HoldsParts, IsMarked, file_name, found_in, session_texts, with_written}
use Rattle.run_session.specs.Worlds.{World}

-- the files that are kept open were being made, and nothing else was done: no force was asked, and so no kick made; no
-- question was asked, and no file finished
pub record IsOpening (o : Own) (told : Bool) (fault : Option (List ℕ)) (old new : World) : Type 0 where
  pub blamed : IsAmong (own_names o) fault
  pub files : IsTrue told → OpensPart o old.files new.files
  pub closed : new.closed ≡ old.closed
  pub state : new.state ≡ old.state
  pub yes : new.yes ≡ old.yes
  pub left : new.left ≡ old.left

-- the texts of a session, of its forces those that were found so far
abbrev pub begun_texts : SessionData → List (List BodyData) → List (List Event) → OwnTexts
begun_texts d forces events = record (session_texts d events) { trace = trace_text (found_in forces events) }

-- they stand open with first parts of these texts, and none is finished; the first files of the session are, and the next
-- one was begun at most
pub record IsGoing (p : ParamsData) (o : Own) (passes : Passes) (told : Bool) (d : SessionData) (fault : Option (List ℕ)) (old new : World) : Type 0 where
  pub finished : List Written
  pub later : List Written
  pub written : d.written ≡ finished ++ later
  pub blamed : IsAmong (own_names o ++ map (file_name p) (take 1 later)) fault
  pub forces : List (List BodyData)
  pub unasked : List (List BodyData)
  pub events : List (List Event)
  pub reached : List ℕ
  pub order : asked d ≡ forces ++ unasked
  pub found : PassesAll passes forces old.state events reached
  pub files : IsTrue told → HoldsParts p o (begun_texts d forces events) finished later old.files new.files
  pub closed : IsTrue told → new.closed ≡ old.closed ++ map (file_name p) finished

-- all files of the session are finished, and of those that are kept open the first ones; they are whole but for a part of the
-- end mark, which stands only where the session is done
pub record IsFinishing (p : ParamsData) (o : Own) (passes : Passes) (told : Bool) (d : SessionData) (fault : Option (List ℕ)) (old new : World) : Type 0 where
  pub events : List (List Event)
  pub found : PassesAll passes (asked d) old.state events new.state
  pub some : EndsSome o told fault (old.closed ++ map (file_name p) d.written) new.closed
  pub files : IsTrue told → IsMarked o (session_texts d events) (is_done d.end) some.ended (with_written p d.written old.files) new.files

-- one of these; the file that couldn't be written is an open one, or the next one to be written
abbrev pub LeavesPart : ParamsData → Own → Passes → Bool → SessionData → Option (List ℕ) → World → World → Type 0
LeavesPart p o passes told d fault old new =
    IsOpening o told fault old new ⊎ (IsGoing p o passes told d fault old new ⊎ IsFinishing p o passes told d fault old new)
