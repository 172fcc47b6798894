-- The files that a run keeps open from its start to its end, and what stands in them.
use Rattle.std.specs.Prelude.{◌≡◌, ◌≢◌, ◌⊎◌, ℕ, List, [], ◌∷◌, ◌++◌, take, codes, ◌==◌, Bool, Option, Some, None, IfSome, if◌then◌else◌}
use Rattle.store_io.specs.Files.{Files}
use Rattle.nbody_model.specs.States.{StateData}
use Rattle.nbody_model.specs.Texts.{name_end}
use Rattle.param_file.specs.Settings.{ParamsData}

-- ---- their names

-- the kick file; the trace file, where ranks are traced; the bin file, where one is named and the run begins at tick 0
pub record Own : Type 0 where
  pub kicks : List ℕ
  pub trace : Option (List ℕ)
  pub bins : Option (List ℕ)

abbrev pub own_files : ParamsData → Bool → StateData → Own
own_files p resumed σ = record {
  kicks = p.kick_file ++ name_end resumed σ;
  trace = if p.rank_trace == 0 then None else Some (p.rank_trace_file ++ name_end resumed σ);
  bins = if resumed then None else p.bin_file;
}

abbrev pub name_list : Option (List ℕ) → List (List ℕ)
name_list None = []
name_list (Some name) = name ∷ []

-- in the order in which they are made, and finished
abbrev pub own_names : Own → List (List ℕ)
own_names o = o.kicks ∷ name_list o.trace ++ name_list o.bins

-- a name is none of theirs
pub record IsOther (o : Own) (name : List ℕ) : Type 0 where
  pub kicks : name ≢ o.kicks
  pub trace : IfSome o.trace (λ n. name ≢ n)
  pub bins : IfSome o.bins (λ n. name ≢ n)

-- no two of them are one file
pub record AreApart (o : Own) : Type 0 where
  pub trace : IfSome o.trace (λ n. n ≢ o.kicks)
  pub bins : IfSome o.bins (λ n. n ≢ o.kicks)
  pub both : IfSome o.trace (λ n. IfSome o.bins (λ m. m ≢ n))

-- ---- their texts

pub record OwnTexts : Type 0 where
  pub kicks : List ℕ
  pub trace : List ℕ
  pub bins : List ℕ

-- each followed by more
abbrev pub followed : OwnTexts → OwnTexts → OwnTexts
followed t more = record { kicks = t.kicks ++ more.kicks; trace = t.trace ++ more.trace; bins = t.bins ++ more.bins }

-- what they hold once they are made: the bin file its tag
abbrev pub first_texts : OwnTexts
first_texts = record { kicks = []; trace = []; bins = codes "I4BINS01" }

-- ---- where they stand

-- they hold these texts, and every other file is as in W
pub record Stands (o : Own) (t : OwnTexts) (W files : Files) : Type 0 where
  pub kicks : files o.kicks ≡ Some t.kicks
  pub trace : IfSome o.trace (λ n. files n ≡ Some t.trace)
  pub bins : IfSome o.bins (λ n. files n ≡ Some t.bins)
  pub others : (q : List ℕ) → IsOther o q → files q ≡ W q

-- a file holds a first part of a text
abbrev pub HasPart : Option (List ℕ) → List ℕ → Type 0
HasPart file text = (k : ℕ) × (file ≡ Some (take k text))

-- a file is as before, or holds a first part of a text
abbrev pub IsPartly : Option (List ℕ) → Option (List ℕ) → List ℕ → Type 0
IsPartly before file text = (file ≡ before) ⊎ HasPart file text

-- they hold first parts of these texts, and every other file is as in W
pub record StandsPart (o : Own) (t : OwnTexts) (W files : Files) : Type 0 where
  pub kicks : HasPart (files o.kicks) t.kicks
  pub trace : IfSome o.trace (λ n. HasPart (files n) t.trace)
  pub bins : IfSome o.bins (λ n. HasPart (files n) t.bins)
  pub others : (q : List ℕ) → IsOther o q → files q ≡ W q

-- they were being made: each is as before or holds a first part of what it begins with, and every other file is as before
pub record OpensPart (o : Own) (old files : Files) : Type 0 where
  pub kicks : IsPartly (old o.kicks) (files o.kicks) first_texts.kicks
  pub trace : IfSome o.trace (λ n. IsPartly (old n) (files n) first_texts.trace)
  pub bins : IfSome o.bins (λ n. IsPartly (old n) (files n) first_texts.bins)
  pub others : (q : List ℕ) → IsOther o q → files q ≡ old q
