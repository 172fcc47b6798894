-- What a taker took in a step.
use Rattle.std.specs.Prelude.{◌⊎◌, ℕ, Bool, IsTrue, List, [], ◌∷◌, ◌++◌, Option}
use Rattle.nbody_model.specs.declared.kicks.Record.{Record}
use Rattle.nbody_model.specs.Fields.{FieldData}

-- forces with the events in which they were found; a kick; a resting point, by its tick, and whether to rest there; a fast
-- part, by its ids
pub data Taken : Type 0 where
  TookForces : FieldData → Taken
  TookKick : Record → Taken
  TookRest : ℕ → Bool → Taken
  TookPart : List ℕ → Taken

-- what is told of a taker: whether it may be that so many questions were left to it at first, where that is told, and that
-- it took these entries since
abbrev pub Tale : Type 0
Tale = Option ℕ → List Taken → Bool

-- the entries stand behind whatever was taken before
abbrev pub Adds : Tale → Tale → List Taken → Type 0
Adds old new entries = (left : Option ℕ) (earlier : List Taken) → IsTrue (old left earlier) → IsTrue (new left (earlier ++ entries))

-- the entry stands behind whatever was taken before, or not
abbrev pub AddsPart : Tale → Tale → Taken → Type 0
AddsPart old new entry = Adds old new (entry ∷ []) ⊎ Adds old new []
