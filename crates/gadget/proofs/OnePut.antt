-- One file that is written leaves one folder.
use Rattle.std.proofs.Common.{◌≡◌, ◌⊎◌, ◌≢◌, ℕ, List, true, Some, inl, inr, refl, sym, ap, ◌∙◌}
use Rattle.run_session.specs.Worlds.{World}
use Rattle.gadget.specs.declared.status.Status.{Status}
use Rattle.gadget.specs.declared.status.Status.TheVariants.{Done, Stopped, Usage, Memory, ReadFault, WriteFault, ConsoleFault, Absent, TooLong, Param, Outputs, Table, Snapshot, Restart, Differs, Expansion, Catalogue, MomRange, StepRange}
use Rattle.gadget.specs.declared.outcome.Outcome.TheVariants.{Refused}
use Rattle.gadget.specs.Decided.{IsDecided, IsOneAnswer}
use Rattle.gadget.specs.NamedFile.{IsPut, PutRefusal, SameFiles}
use Rattle.gadget.specs.Texts.{status_text}
use Rattle.gadget.proofs.OneEnd.{same_or}

-- a file that isn't finished has no answer that words and files decide
pub undecided : (before : ℕ) (Z : World) (name : List ℕ) (status : Status) → PutRefusal before Z name status → IsDecided status → ⊥
undecided before Z name (WriteFault n) h d = d
undecided before Z name Memory h d = d
undecided before Z name Done h d = h
undecided before Z name (Stopped steps tick) h d = h
undecided before Z name Usage h d = h
undecided before Z name (ReadFault n) h d = h
undecided before Z name ConsoleFault h d = h
undecided before Z name (Absent n) h d = h
undecided before Z name (TooLong n len) h d = h
undecided before Z name (Param err) h d = h
undecided before Z name (Outputs err) h d = h
undecided before Z name (Table err) h d = h
undecided before Z name (Snapshot err) h d = h
undecided before Z name (Restart err) h d = h
undecided before Z name (Differs row) h d = h
undecided before Z name (Expansion err) h d = h
undecided before Z name (Catalogue n kind) h d = h
undecided before Z name (MomRange tick bin id axis) h d = h
undecided before Z name (StepRange tick id) h d = h

-- equal texts in the file of one name
pub put_one : (A Y B Z : World) (name s t : List ℕ) → B.files ≡ A.files → s ≡ t → IsPut true A Y name s → IsPut true B Z name t → (q : List ℕ) → Y.files q ≡ Z.files q
put_one A Y B Z name s t same texts h k q = by (same_or q name)
  where
    by : (q ≡ name) ⊎ (q ≢ name) → Y.files q ≡ Z.files q
    by (inl e) = ap Y.files e ∙ (h.changed refl).changed ∙ ap Some texts ∙ sym (k.changed refl).changed ∙ sym (ap Z.files e)
    by (inr x) = (h.changed refl).others q x ∙ ap (λ F. F q) (sym same) ∙ sym ((k.changed refl).others q x)

-- refused in one way, with no file changed
pub refused_one : (Refuses : Status → Type 0) (A Y B Z : World) (a b : Status) → B.files ≡ A.files → ((a b : Status) → Refuses a → Refuses b → a ≡ b) → Refuses a → Refuses b → SameFiles A Y → SameFiles B Z → IsOneAnswer Y Z (Refused a) (Refused b)
refused_one Refuses A Y B Z a b same one p q h k = record {
  status = one a b p q;
  text = ap status_text (one a b p q);
  files = λ n. ap (λ F. F n) (h.files ∙ sym same ∙ sym k.files);
}
