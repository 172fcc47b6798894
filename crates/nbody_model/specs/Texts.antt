-- The texts of a run: kick file, trace file, bin file and numbered names. Lines end with LF, numbers are decimal.
-- All of them are this project's own.
use Rattle.std.specs.Prelude.{ℕ, ◌-◌, Bool, if◌then◌else◌, List, [], ◌∷◌, ◌++◌, length, replicate, map, codes, decimal}
use Rattle.std.specs.List.{flat_map}
use Rattle.std.specs.Fmt.{signed_decimal}
use Rattle.fixed_point.specs.Bytes.{bytes32, bytes64}
use Rattle.nbody_model.specs.Evolve.{is_empty}
use Rattle.nbody_model.specs.States.{StateData}
use Rattle.nbody_model.specs.declared.kicks.Record.{Record}
use Rattle.nbody_model.specs.declared.field.Event.{Event}
use Rattle.nbody_model.specs.declared.field.EventKind.{EventKind}
use Rattle.nbody_model.specs.declared.field.EventKind.TheVariants.{Build, Walk, Add, Share, Table, Ask, Reply, Sums, Want, Members, Parts}

-- words with one space between, as a line
abbrev pub line_of : List (List ℕ) → List ℕ
line_of [] = codes "\n"
line_of (w ∷ []) = w ++ codes "\n"
line_of (w ∷ v ∷ ws) = w ++ codes " " ++ line_of (v ∷ ws)

-- ---- the kick file

-- a kick: its tick and bin, the sizes of P and F, the interactions of both forces, and the total momentum after it
abbrev pub kick_line : Record → List ℕ
kick_line k =
    line_of (map decimal (k.tick ∷ k.bin ∷ k.whole ∷ k.fast ∷ k.pairs ∷ k.fast_pairs ∷ []) ++ map signed_decimal k.total)

abbrev pub kick_text : List Record → List ℕ
kick_text records = flat_map kick_line records

-- ---- the trace file

abbrev pub event_word : EventKind → List ℕ
event_word Build = codes "build"
event_word Walk = codes "walk"
event_word Add = codes "add"
event_word Share = codes "share"
event_word Table = codes "table"
event_word Ask = codes "ask"
event_word Reply = codes "reply"
event_word Sums = codes "sums"
event_word Want = codes "want"
event_word Members = codes "members"
event_word Parts = codes "parts"

-- an action of one rank names it once, a delivery names the sender and the receiver
abbrev pub event_ranks : Event → List ℕ
event_ranks e = elim e.kind [
  | Build ↦ e.from ∷ []
  | Walk ↦ e.from ∷ []
  | Add ↦ e.from ∷ []
  | Share ↦ e.from ∷ []
  | Table ↦ e.from ∷ e.to ∷ []
  | Ask ↦ e.from ∷ e.to ∷ []
  | Reply ↦ e.from ∷ e.to ∷ []
  | Sums ↦ e.from ∷ e.to ∷ []
  | Want ↦ e.from ∷ e.to ∷ []
  | Members ↦ e.from ∷ e.to ∷ []
  | Parts ↦ e.from ∷ e.to ∷ []
]

abbrev pub event_line : Event → List ℕ
event_line e = line_of (event_word e.kind ∷ map decimal (event_ranks e ++ e.size ∷ []))

-- a force among a number of bodies, and the events in which it was found
abbrev pub trace_block : ℕ × List Event → List ℕ
trace_block force = line_of (codes "force" ∷ decimal force.0 ∷ []) ++ flat_map event_line force.1

abbrev pub trace_text : List (ℕ × List Event) → List ℕ
trace_text forces = flat_map trace_block forces

-- ---- the bin file

-- the fast part of an evolve: its size and its ids
abbrev pub bins_record : List ℕ → List ℕ
bins_record F = bytes32 (length F) ++ flat_map bytes64 F

-- what was written of these fast parts so far
abbrev pub open_bins_text : List (List ℕ) → List ℕ
open_bins_text bins = codes "I4BINS01" ++ flat_map bins_record bins

-- the whole file of a run that ended at its last tick
abbrev pub bins_text : List (List ℕ) → List ℕ
bins_text bins = open_bins_text bins ++ codes "I4BINEND"

-- ---- names

-- a number with at least three digits
abbrev pub three_digits : ℕ → List ℕ
three_digits n = let digits = decimal n in replicate (3 - length digits) 48 ++ digits

-- the file of a number: the base, `_` and the number
abbrev pub numbered : List ℕ → ℕ → List ℕ
numbered base n = base ++ codes "_" ++ three_digits n

-- what stands behind the names of the kick and the trace file: nothing in a run from tick 0, in a resumed one the base
-- steps of its first state, and of a rest state the tick too
abbrev pub name_end : Bool → StateData → List ℕ
name_end resumed σ =
    let steps = codes "_from_" ++ decimal σ.steps in
    if resumed then (if is_empty σ.depths then steps else steps ++ codes "_at_" ++ decimal σ.tick) else []
