-- What the links of two catalogues may come to, and what they leave.
use Rattle.std.specs.Prelude.{◌≡◌, ◌⊎◌, ℕ, Bool, IsTrue, List}
use Rattle.store_io.specs.Files.{Files}
use Rattle.store_io.specs.declared.store.Store as store
use Rattle.group_file.specs.Catalogues.{GroupData}
use Rattle.merger_links.specs.declared.link.Link.{Link}
use Rattle.merger_links.specs.Links.{AreLinks}
use Rattle.run_session.specs.Worlds.{World}
use Rattle.gadget.specs.declared.status.Status.{Status}
use Rattle.gadget.specs.declared.outcome.Outcome.{Outcome}
use Rattle.gadget.specs.declared.outcome.Outcome.TheVariants.{Ran, Checked, Shown, Made, Grouped, Linked, Refused}
use Rattle.gadget.specs.Reads.{Seen, seen}
use Rattle.gadget.specs.Catalogues.{NamesCatalogue, CatalogueRefusal}
use Rattle.gadget.specs.NamedFile.{SameFiles, IsPut, IsCutShort, told_by}
use Rattle.gadget.specs.LinkTexts.{links_text, followed}

-- the files of two names are these catalogues
abbrev pub NamesBoth : Files → List ℕ → List ℕ → List GroupData → List GroupData → Type 0
NamesBoth files first second C D = NamesCatalogue files first C × NamesCatalogue files second D

-- the links of the groups in a first catalogue to those in a second
pub record LinksOf (files : Files) (first second : List ℕ) (L : List Link) : Type 0 where
  pub former : List GroupData
  pub later : List GroupData
  pub named : NamesBoth files first second former later
  pub are : AreLinks former later L

-- the second catalogue isn't accepted, but the first is
pub record RefusesSecond (s : Seen) (first second : List ℕ) (status : Status) : Type 0 where
  pub former : List GroupData
  pub named : IsTrue s.tells → NamesCatalogue s.files first former
  pub refused : CatalogueRefusal s second status

-- why two catalogues aren't accepted
abbrev pub LinksRefusal : Seen → List ℕ → List ℕ → Status → Type 0
LinksRefusal s first second status = CatalogueRefusal s first status ⊎ RefusesSecond s first second status

-- the links are in a file, and so many groups have a descendant
pub record AreLinked (told : Bool) (A Z : World) (first second name : List ℕ) (count : ℕ) : Type 0 where
  pub links : List Link
  pub found : IsTrue told → LinksOf A.files first second links
  pub count_is : count ≡ followed links
  pub written : IsPut told A Z name (links_text links)

-- the links are found, and their file isn't finished
pub record LinksCutShort (told : Bool) (A Z : World) (first second name : List ℕ) (status : Status) : Type 0 where
  pub links : List Link
  pub found : IsTrue told → LinksOf A.files first second links
  pub cut : IsCutShort told A Z name (links_text links) status

-- it is refused by its catalogues, before any file changes, or by its file; or it is done
abbrev pub LinksDoes : Bool → World → World → List ℕ → List ℕ → List ℕ → Outcome → Type 0
LinksDoes told A Z first second name (Linked count) = AreLinked told A Z first second name count
LinksDoes told A Z first second name (Refused status) =
    (LinksRefusal (seen told A Z) first second status × SameFiles A Z) ⊎ LinksCutShort told A Z first second name status
LinksDoes told A Z first second name (Ran ended setup) = ⊥
LinksDoes told A Z first second name (Checked B) = ⊥
LinksDoes told A Z first second name (Shown head B) = ⊥
LinksDoes told A Z first second name (Made count made) = ⊥
LinksDoes told A Z first second name (Grouped groups members) = ⊥

-- by what a store tells alone
abbrev pub LinksBy : {X : Type 0} → store.Ghosts X → X → X → List ℕ → List ℕ → List ℕ → Outcome → Type 0
LinksBy S old new first second name outcome = LinksDoes (S.tells old) (told_by S old) (told_by S new) first second name outcome
