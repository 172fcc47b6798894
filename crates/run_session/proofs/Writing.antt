-- A numbered file that is written beside those that are kept open.
use Rattle.std.proofs.Common.{Option, None, ◌≡◌, ◌⊎◌, inl, inr, ℕ, Bool, IsTrue, List, [], ◌∷◌, ◌++◌, take, Some, refl, ap, sym, ◌∙◌, subst}
use Rattle.std.specs.Prelude.{IfSome, IsSome}
use Rattle.std.proofs.lemmas.Bool.{false≢true}
use Rattle.store_io.specs.Files.{Files, ChangesOnly, bytes_of}
use Rattle.run_session.specs.Changes.{AreThere}
use Rattle.nbody_model.specs.Session.{Written}
use Rattle.param_file.specs.Settings.{ParamsData}
use Rattle.run_session.specs.Own.{Own, OwnTexts, Stands}
use Rattle.run_session.specs.Outputs.{file_name, file_bytes}
use Rattle.run_session.specs.Stages.{AreOthers, StandsBut, WritesFile, WritesPart}
use Rattle.run_session.proofs.FileFacts.{stands_more, stands_but, stands_still}

module _ (p : ParamsData) (o : Own) (w : Written) (told : Bool) (old new : Files) (names now : List (List ℕ)) (name bytes : List ℕ) (others : AreOthers p o) (named : name ≡ file_name p w) (is : bytes ≡ file_bytes p w) where
  renamed : (file : List ℕ → List ℕ) → ChangesOnly old new name (Some (file bytes)) → ChangesOnly old new (file_name p w) (Some (file (file_bytes p w)))
  renamed file c = subst (λ n. ChangesOnly old new n (Some (file (file_bytes p w)))) named (subst (λ b. ChangesOnly old new name (Some (file b))) is c)

  pub writes : (IsTrue told → ChangesOnly old new name (Some bytes)) → (IsTrue told → now ≡ names ++ name ∷ []) → WritesFile p o w told old new names now
  writes c k = record {
    files = λ t W h s. stands_more o t W old new (file_name p w) (file_bytes p w) s (others w) (renamed (λ b. b) (c h));
    closed = λ h. k h ∙ ap (λ n. names ++ n ∷ []) named;
  }

  part_of : (t : OwnTexts) (W : Files) → Stands o t W old → ((new ≡ old) ⊎ ((k : ℕ) × ChangesOnly old new name (Some (take k bytes)))) → StandsBut o t (file_name p w) (file_bytes p w) W new
  part_of t W s (inl same) = subst (λ f. StandsBut o t (file_name p w) (file_bytes p w) W f) (sym same) (stands_still o t (file_name p w) (file_bytes p w) W old s)
  part_of t W s (inr c) = stands_but o t W old new (file_name p w) (file_bytes p w) c.0 s (others w) (renamed (λ b. take c.0 b) c.1)

  pub writes_part : (IsTrue told → (new ≡ old) ⊎ ((k : ℕ) × ChangesOnly old new name (Some (take k bytes)))) → (IsTrue told → now ≡ names) → WritesPart p o w told old new names now
  writes_part c k = record { files = λ t W h s. part_of t W s (c h); closed = k }

-- ---- the files that are kept open go on standing

abbrev pub text_of : Option (List ℕ) → Files → List ℕ
text_of None files = []
text_of (Some name) files = bytes_of (files name)

some_text : (file : Option (List ℕ)) → IsSome file → file ≡ Some (bytes_of file)
some_text None h = absurd (false≢true h)
some_text (Some bytes) h = refl

text_there : (name : Option (List ℕ)) (files : Files) → IfSome name (λ n. IsSome (files n)) → IfSome name (λ n. files n ≡ Some (text_of name files))
text_there None files h = tt
text_there (Some n) files h = some_text (files n) h

pub there_stands : (o : Own) (files : Files) → AreThere o files → Stands o (record { kicks = bytes_of (files o.kicks); trace = text_of o.trace files; bins = text_of o.bins files }) files files
there_stands o files h = record { kicks = some_text (files o.kicks) h.kicks; trace = text_there o.trace files h.trace; bins = text_there o.bins files h.bins; others = λ q other. refl }
