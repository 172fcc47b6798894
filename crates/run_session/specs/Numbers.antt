-- What no call changes of a recorder.
use Rattle.std.specs.Prelude.{ℕ, Bool, List, [], ◌∷◌, if◌then◌else◌}

abbrev pub flag : Bool → ℕ
flag b = if b then 1 else 0

-- the names of its stopper and its log, whether events are traced, and whether fast parts are kept
abbrev pub recorder_numbers : ℕ → ℕ → Bool → Bool → List ℕ
recorder_numbers stop log traced binned = stop ∷ log ∷ flag traced ∷ flag binned ∷ []
