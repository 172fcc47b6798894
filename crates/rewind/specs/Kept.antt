-- The fast parts of a run's steps in the order in which the steps end, and how they lie in memory.
use Rattle.std.specs.Prelude.{◌≤◌, ℕ, List, [], ◌∷◌, ◌++◌, length, map, All}
use Rattle.std.specs.List.{slice_range}
use Rattle.rewind_laws.specs.Back.{StepParts, Alone, With}

-- the fast parts of a step, each behind those of its two finer steps: so taking back meets them from the last one on
abbrev pub by_end : StepParts → List (List ℕ)
by_end Alone = [] ∷ []
by_end (With F one two) = by_end one ++ by_end two ++ F ∷ []

-- where the ids of a fast part lie among others
pub record SpanData : Type 0 where
  pub from : ℕ
  pub to : ℕ

abbrev pub cut : List ℕ → List SpanData → List (List ℕ)
cut ids spans = map (λ s. slice_range ids s.from s.to) spans

pub record IsInside (ids : List ℕ) (s : SpanData) : Type 0 where
  pub order : s.from ≤ s.to
  pub inside : s.to ≤ length ids

abbrev pub AreInside : List ℕ → List SpanData → Type 0
AreInside ids spans = All (IsInside ids) spans
