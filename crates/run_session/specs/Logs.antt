-- What a run keeps of a base step until it stands in the files.
use Rattle.std.specs.Prelude.{ℕ, ◌-◌, ◌==◌, Bool, true, false, ◌&&◌, List, [], ◌∷◌, length, if◌then◌else◌, Option, Some, None}
use Rattle.std.specs.List.{flat_map}
use Rattle.std.specs.Str.{bytes_eq}
use Rattle.nbody_model.specs.declared.field.Event.{Event}
use Rattle.nbody_model.specs.declared.kicks.Record.{Record}
use Rattle.nbody_model.specs.Texts.{kick_text, trace_text, bins_record}
use Rattle.step_engine.specs.Taken.{Taken, TookForces, TookKick, TookRest, TookPart}
use Rattle.run_session.specs.Own.{OwnTexts}

-- ---- the texts of what was taken

abbrev pub kicks_in : Taken → List Record
kicks_in (TookKick entry) = entry ∷ []
kicks_in (TookForces f) = []
kicks_in (TookRest tick answer) = []
kicks_in (TookPart F) = []

-- of forces among some bodies, how many these are, and the events
abbrev pub forces_in : Taken → List (ℕ × List Event)
forces_in (TookForces f) = (length f.forces, f.events) ∷ []
forces_in (TookKick entry) = []
forces_in (TookRest tick answer) = []
forces_in (TookPart F) = []

abbrev pub parts_in : Taken → List (List ℕ)
parts_in (TookPart F) = F ∷ []
parts_in (TookForces f) = []
parts_in (TookKick entry) = []
parts_in (TookRest tick answer) = []

-- the texts of these entries; nothing of events where none are traced, nor of fast parts where none are kept
abbrev pub texts_taken : Bool → Bool → List Taken → OwnTexts
texts_taken traced binned entries = record {
  kicks = kick_text (flat_map kicks_in entries);
  trace = if traced then trace_text (flat_map forces_in entries) else [];
  bins = if binned then flat_map bins_record (flat_map parts_in entries) else [];
}

-- ---- the questions

-- of so many questions that were left at first so many are left after these entries, where that is told; a yes comes
-- exactly where none is left, and then no more is said
abbrev pub leaves : Option ℕ → List Taken → Option ℕ → Bool
leaves None [] None = true
leaves None [] (Some now) = false
leaves (Some left) [] None = false
leaves (Some left) [] (Some now) = left == now
leaves left (TookForces f ∷ entries) now = leaves left entries now
leaves left (TookKick entry ∷ entries) now = leaves left entries now
leaves left (TookPart F ∷ entries) now = leaves left entries now
leaves None (TookRest tick answer ∷ entries) now = leaves None entries now
leaves (Some left) (TookRest tick true ∷ entries) now = left == 0
leaves (Some left) (TookRest tick false ∷ entries) now = if left == 0 then false else leaves (Some (left - 1)) entries now

-- ---- both

abbrev pub are_texts : OwnTexts → OwnTexts → Bool
are_texts a b = bytes_eq a.kicks b.kicks && (bytes_eq a.trace b.trace && bytes_eq a.bins b.bins)

-- these texts and this number of questions left come of these entries
abbrev pub tells : Bool → Bool → OwnTexts → Option ℕ → Option ℕ → List Taken → Bool
tells traced binned texts now left entries = are_texts texts (texts_taken traced binned entries) && leaves left entries now
