-- What a call does to the files that a run keeps open.
use Rattle.std.specs.Prelude.{◌≡◌, ◌≢◌, ◌⊎◌, ℕ, List, ◌++◌, take, Option, Some, None, IfSome, IsSome}
use Rattle.store_io.specs.Files.{Files, ChangesOnly}
use Rattle.run_session.specs.Own.{Own, IsOther, IsPartly}

-- ---- one file, as it was and as it is

abbrev pub IsNow : List ℕ → Option (List ℕ) → Option (List ℕ) → Type 0
IsNow text old new = new ≡ Some text

abbrev pub IsPartlyNow : List ℕ → Option (List ℕ) → Option (List ℕ) → Type 0
IsPartlyNow text old new = IsPartly old new text

-- bytes stand behind what it held, or a first part of them
abbrev pub Grows : List ℕ → Option (List ℕ) → Option (List ℕ) → Type 0
Grows bytes old new = (text : List ℕ) → old ≡ Some text → new ≡ Some (text ++ bytes)

abbrev pub GrowsPartly : List ℕ → Option (List ℕ) → Option (List ℕ) → Type 0
GrowsPartly bytes old new = (text : List ℕ) → old ≡ Some text → (k : ℕ) × (new ≡ Some (text ++ take k bytes))

-- ---- one file among all

-- this becomes of the file of a name, and all others are as they were
pub record Turns (Becomes : Option (List ℕ) → Option (List ℕ) → Type 0) (name : List ℕ) (old new : Files) : Type 0 where
  pub turned : Becomes (old name) (new name)
  pub others : (q : List ℕ) → q ≢ name → new q ≡ old q

-- the same where there is a name; where there is none, all files are as they were
abbrev pub TurnsIf : (Option (List ℕ) → Option (List ℕ) → Type 0) → Option (List ℕ) → Files → Files → Type 0
TurnsIf Becomes None old new = (q : List ℕ) → new q ≡ old q
TurnsIf Becomes (Some name) old new = Turns Becomes name old new

-- a text was being written into a file of this name: nothing changed, or it holds a first part of it
abbrev pub WritesPart : Files → Files → List ℕ → List ℕ → Type 0
WritesPart old new name text = (new ≡ old) ⊎ ((k : ℕ) × ChangesOnly old new name (Some (take k text)))

-- ---- all that are kept open

pub record AreThere (o : Own) (files : Files) : Type 0 where
  pub kicks : IsSome (files o.kicks)
  pub trace : IfSome o.trace (λ n. IsSome (files n))
  pub bins : IfSome o.bins (λ n. IsSome (files n))

-- this becomes of the kick file, of the trace file and of the bin file, and all others are as they were
pub record TurnAll (K T B : Option (List ℕ) → Option (List ℕ) → Type 0) (o : Own) (old new : Files) : Type 0 where
  pub kicks : K (old o.kicks) (new o.kicks)
  pub trace : IfSome o.trace (λ n. T (old n) (new n))
  pub bins : IfSome o.bins (λ n. B (old n) (new n))
  pub others : (q : List ℕ) → IsOther o q → new q ≡ old q
