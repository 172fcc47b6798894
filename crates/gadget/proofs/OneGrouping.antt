-- Groups are written in one way.
use Rattle.std.proofs.Common.{◌≡◌, ℕ, List, true, length, inl, inr, refl, sym, ap, subst, ◌∙◌}
use Rattle.store_io.specs.Files.{Files}
use Rattle.nbody_model.specs.Bodies.{BodyData}
use Rattle.snap_file.specs.Snapshots.{SpellsSnapshot}
use Rattle.group_file.specs.Catalogues.{GroupData}
use Rattle.group_file.specs.GroupFile.{catalogue_text}
use Rattle.groups.specs.Groups.{IsCatalogue}
use Rattle.groups.proofs.Unique.{one_catalogue}
use Rattle.run_session.specs.Worlds.{World}
use Rattle.gadget.specs.declared.status.Status.{Status}
use Rattle.gadget.specs.declared.outcome.Outcome.{Outcome}
use Rattle.gadget.specs.declared.outcome.Outcome.TheVariants.{Ran, Checked, Shown, Made, Grouped, Linked, Refused}
use Rattle.gadget.specs.Outcomes.{status_of}
use Rattle.gadget.specs.Decided.{IsDecided, IsOneAnswer}
use Rattle.gadget.specs.Reads.{FileSpells, seen}
use Rattle.gadget.specs.Snapshots.{longest_snapshot}
use Rattle.gadget.specs.Grouping.{GroupsDoes, GroupsOf, members_of}
use Rattle.gadget.specs.Texts.{grouped_text}
use Rattle.gadget.proofs.OneFile.{SnapshotRefuses, snapshot_file, snapshot_refused}
use Rattle.gadget.proofs.OnePut.{put_one, refused_one, undecided}

-- one snapshot has one catalogue
groups_one : (files : Files) (snapshot : List ℕ) (reach least : ℕ) (C D : List GroupData) → GroupsOf files snapshot reach least C → GroupsOf files snapshot reach least D → C ≡ D
groups_one files snapshot reach least C D h k =
    let bodies : h.bodies ≡ k.bodies = (snapshot_file files snapshot).one_value h.bodies k.bodies h.named k.named in
    one_catalogue reach least k.bodies C D (subst (λ (B : List BodyData). IsCatalogue reach least B C) bodies h.is) k.is

pub grouping_one : (A Y B Z : World) (snapshot : List ℕ) (reach least : ℕ) (name : List ℕ) (o q : Outcome) → B.files ≡ A.files → GroupsDoes true A Y snapshot reach least name o → GroupsDoes true B Z snapshot reach least name q → IsDecided (status_of o) → IsDecided (status_of q) → IsOneAnswer Y Z o q
grouping_one A Y B Z snapshot reach least name (Grouped n m) (Grouped x y) same h k i j =
    let C = h.catalogue in
    let D = k.catalogue in
    let is : C ≡ D = groups_one A.files snapshot reach least C D (h.found refl) (subst (λ F. GroupsOf F snapshot reach least D) same (k.found refl)) in
    let groups : n ≡ x = h.groups_are ∙ ap (λ (E : List GroupData). length E) is ∙ sym k.groups_are in
    let members : m ≡ y = h.members_are ∙ ap (λ (E : List GroupData). members_of E) is ∙ sym k.members_are in
    record {
      status = refl;
      text = ap (λ a. grouped_text a m) groups ∙ ap (λ b. grouped_text x b) members;
      files = put_one A Y B Z name (catalogue_text C) (catalogue_text D) same (ap (λ (E : List GroupData). catalogue_text E) is) h.written k.written;
    }
grouping_one A Y B Z snapshot reach least name (Grouped n m) (Refused b) same h (inl k) i j =
    absurd ((snapshot_file A.files snapshot).apart b (h.found refl).bodies (subst (λ F. SnapshotRefuses F snapshot b) same (snapshot_refused (seen true B Z) snapshot refl b j k.0)) (h.found refl).named)
grouping_one A Y B Z snapshot reach least name (Refused a) (Grouped x y) same (inl h) k i j =
    absurd ((snapshot_file B.files snapshot).apart a (k.found refl).bodies (subst (λ F. SnapshotRefuses F snapshot a) (sym same) (snapshot_refused (seen true A Y) snapshot refl a i h.0)) (k.found refl).named)
grouping_one A Y B Z snapshot reach least name (Refused a) (Refused b) same (inl h) (inl k) i j =
    refused_one (SnapshotRefuses A.files snapshot) A Y B Z a b same (snapshot_file A.files snapshot).one_refusal (snapshot_refused (seen true A Y) snapshot refl a i h.0) (subst (λ F. SnapshotRefuses F snapshot b) same (snapshot_refused (seen true B Z) snapshot refl b j k.0)) h.1 k.1
grouping_one A Y B Z snapshot reach least name (Grouped n m) (Refused b) same h (inr k) i j = absurd (undecided B.faults Z name b k.cut.cause j)
grouping_one A Y B Z snapshot reach least name (Refused a) (Refused b) same (inl h) (inr k) i j = absurd (undecided B.faults Z name b k.cut.cause j)
grouping_one A Y B Z snapshot reach least name (Refused a) q same (inr h) k i j = absurd (undecided A.faults Y name a h.cut.cause i)
grouping_one A Y B Z snapshot reach least name (Ran e s) q same h k i j = absurd h
grouping_one A Y B Z snapshot reach least name (Checked C) q same h k i j = absurd h
grouping_one A Y B Z snapshot reach least name (Shown head C) q same h k i j = absurd h
grouping_one A Y B Z snapshot reach least name (Made n a) q same h k i j = absurd h
grouping_one A Y B Z snapshot reach least name (Linked n) q same h k i j = absurd h
grouping_one A Y B Z snapshot reach least name (Grouped n m) (Ran e s) same h k i j = absurd k
grouping_one A Y B Z snapshot reach least name (Grouped n m) (Checked C) same h k i j = absurd k
grouping_one A Y B Z snapshot reach least name (Grouped n m) (Shown head C) same h k i j = absurd k
grouping_one A Y B Z snapshot reach least name (Grouped n m) (Made x a) same h k i j = absurd k
grouping_one A Y B Z snapshot reach least name (Grouped n m) (Linked x) same h k i j = absurd k
grouping_one A Y B Z snapshot reach least name (Refused a) (Ran e s) same (inl h) k i j = absurd k
grouping_one A Y B Z snapshot reach least name (Refused a) (Checked C) same (inl h) k i j = absurd k
grouping_one A Y B Z snapshot reach least name (Refused a) (Shown head C) same (inl h) k i j = absurd k
grouping_one A Y B Z snapshot reach least name (Refused a) (Made x b) same (inl h) k i j = absurd k
grouping_one A Y B Z snapshot reach least name (Refused a) (Linked x) same (inl h) k i j = absurd k
