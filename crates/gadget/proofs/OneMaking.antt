-- Bodies are made in one way.
use Rattle.std.proofs.Common.{◌≡◌, ◌⊎◌, ◌≢◌, ℕ, List, true, inl, inr, refl, sym, ap, subst, ◌∙◌}
use Rattle.store_io.specs.Causes.{Call}
use Rattle.store_io.specs.Files.{Files}
use Rattle.run_session.specs.Worlds.{World}
use Rattle.made_bodies.specs.Drawn.{drawn_bodies}
use Rattle.made_bodies.specs.Made.{AreMade, FileData, settings_file, snapshot_file}
use Rattle.gadget.specs.declared.status.Status.{Status}
use Rattle.gadget.specs.declared.status.Status.TheVariants.{Done, Stopped, Usage, Memory, ReadFault, WriteFault, ConsoleFault, Absent, TooLong, Param, Outputs, Table, Snapshot, Restart, Differs, Expansion, Catalogue, MomRange, StepRange}
use Rattle.gadget.specs.declared.outcome.Outcome.{Outcome}
use Rattle.gadget.specs.declared.outcome.Outcome.TheVariants.{Ran, Checked, Shown, Made, Grouped, Linked, Refused}
use Rattle.gadget.specs.Outcomes.{status_of, text_of}
use Rattle.gadget.specs.Decided.{IsDecided, IsOneAnswer}
use Rattle.gadget.specs.Making.{MakeDoes, MakeRefusal}
use Rattle.gadget.specs.Texts.{made_text}
use Rattle.gadget.proofs.OneEnd.{same_or}

-- files that aren't made have no answer that words and files decide
undecided : (A Z : World) (name : List ℕ) (status : Status) → MakeRefusal A Z name status → IsDecided status → ⊥
undecided A Z name (WriteFault n) h d = d
undecided A Z name Memory h d = d
undecided A Z name Done h d = h
undecided A Z name (Stopped steps tick) h d = h
undecided A Z name Usage h d = h
undecided A Z name (ReadFault n) h d = h
undecided A Z name ConsoleFault h d = h
undecided A Z name (Absent n) h d = h
undecided A Z name (TooLong n len) h d = h
undecided A Z name (Param err) h d = h
undecided A Z name (Outputs err) h d = h
undecided A Z name (Table err) h d = h
undecided A Z name (Snapshot err) h d = h
undecided A Z name (Restart err) h d = h
undecided A Z name (Differs row) h d = h
undecided A Z name (Catalogue n e) h d = h
undecided A Z name (Expansion err) h d = h
undecided A Z name (MomRange tick bin id axis) h d = h
undecided A Z name (StepRange tick id) h d = h

-- two files that are made leave one folder
made_one : (a b : FileData) (F G Y Z : Files) (k l m n : List (List ℕ)) → G ≡ F → AreMade a b F Y k l → AreMade a b G Z m n → (q : List ℕ) → Y q ≡ Z q
made_one a b F G Y Z k l m n same h j q = by (same_or q a.name) (same_or q b.name)
  where
    by : (q ≡ a.name) ⊎ (q ≢ a.name) → (q ≡ b.name) ⊎ (q ≢ b.name) → Y q ≡ Z q
    by (inl e) other = ap Y e ∙ h.first_text ∙ sym j.first_text ∙ sym (ap Z e)
    by (inr x) (inl e) = ap Y e ∙ h.second_text ∙ sym j.second_text ∙ sym (ap Z e)
    by (inr x) (inr y) = h.others q x y ∙ ap (λ W. W q) (sym same) ∙ sym (j.others q x y)

pub make_one : (A Y B Z : World) (count seed : ℕ) (name : List ℕ) (o q : Outcome) → B.files ≡ A.files → MakeDoes true A Y count seed name o → MakeDoes true B Z count seed name q → IsDecided (status_of o) → IsDecided (status_of q) → IsOneAnswer Y Z o q
make_one A Y B Z count seed name (Made n a) (Made m b) same h k i j =
    let counts : n ≡ m = h.0 ∙ sym k.0 in
    let names : a ≡ b = h.1 ∙ sym k.1 in
    record {
      status = refl;
      text = ap (λ x. made_text x a) counts ∙ ap (made_text m) names;
      files = made_one (snapshot_file name (drawn_bodies seed count)) (settings_file name) A.files B.files Y.files Z.files A.closed Y.closed B.closed Z.closed same (h.3 refl) (k.3 refl);
    }
make_one A Y B Z count seed name (Made n a) (Refused b) same h k i j = absurd (undecided B Z name b k.0 j)
make_one A Y B Z count seed name (Refused a) q same h k i j = absurd (undecided A Y name a h.0 i)
make_one A Y B Z count seed name (Ran e s) q same h k i j = absurd h
make_one A Y B Z count seed name (Checked C) q same h k i j = absurd h
make_one A Y B Z count seed name (Shown head C) q same h k i j = absurd h
make_one A Y B Z count seed name (Grouped x y) q same h k i j = absurd h
make_one A Y B Z count seed name (Linked x) q same h k i j = absurd h
make_one A Y B Z count seed name (Made n a) (Ran e s) same h k i j = absurd k
make_one A Y B Z count seed name (Made n a) (Checked C) same h k i j = absurd k
make_one A Y B Z count seed name (Made n a) (Shown head C) same h k i j = absurd k
make_one A Y B Z count seed name (Made n a) (Grouped x y) same h k i j = absurd k
make_one A Y B Z count seed name (Made n a) (Linked x) same h k i j = absurd k
