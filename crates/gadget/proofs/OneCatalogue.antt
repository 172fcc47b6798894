-- Bytes that are no catalogue have one first fault, and a catalogue's file is refused in one way at most.
use Rattle.std.proofs.Common.{◌≡◌, ℕ, IsTrue, List, Some, inl, inr, refl, sym, ap, subst, ◌∙◌}
use Rattle.std.specs.Prelude.{◌≢◌}
use Rattle.store_io.specs.Files.{Files}
use Rattle.group_file.specs.GroupFile.{Spell, IsFirstFault, first_fault}
use Rattle.group_file.specs.declared.errors.GroupErr.{GroupErr}
use Rattle.group_file.specs.declared.errors.GroupErr.TheVariants.{Tag, Truncated, Field, Rest, Repeated, Memory as NoRoom}
use Rattle.gadget.specs.declared.status.Status.{Status}
use Rattle.gadget.specs.declared.status.Status.TheVariants.{Done, Stopped, Usage, Memory, ReadFault, WriteFault, ConsoleFault, Absent, TooLong, Param, Outputs, Table, Snapshot, Restart, Differs, Expansion, Catalogue, MomRange, StepRange}
use Rattle.gadget.specs.Decided.{IsDecided}
use Rattle.gadget.specs.Reads.{Seen, FileSpells, WasRead}
use Rattle.gadget.specs.Catalogues.{CatalogueAnswer, CatalogueRefusal, longest_catalogue}
use Rattle.gadget.proofs.Exact.{IsExact, check_exact}
use Rattle.gadget.proofs.OneFile.{FileRefuses, file_exact, not_read}

-- the bytes aren't a catalogue, by this error, which isn't want of memory
pub record IsNoCatalogue (bytes : List ℕ) (e : GroupErr) : Type 0 where
  pub plain : e ≢ NoRoom
  pub fault : IsFirstFault bytes e

is_fault : (bytes : List ℕ) (e : GroupErr) → e ≢ NoRoom → IsFirstFault bytes e → first_fault bytes ≡ Some e
is_fault bytes Tag p f = f
is_fault bytes (Truncated at) p f = f
is_fault bytes (Field at) p f = f
is_fault bytes (Rest at) p f = f
is_fault bytes (Repeated id) p f = f
is_fault bytes NoRoom p f = absurd (p refl)

catalogue_exact : (bytes : List ℕ) → IsExact (IsNoCatalogue bytes) (Spell bytes)
catalogue_exact bytes = record {
  one_refusal = λ a b p q. (check_exact (first_fault bytes)).one_refusal a b (is_fault bytes a p.plain p.fault) (is_fault bytes b q.plain q.fault);
  one_value = λ C D p q. p.is ∙ sym q.is;
  apart = λ a C p h. (check_exact (first_fault bytes)).apart a tt (is_fault bytes a p.plain p.fault) h.faultless;
}

abbrev pub CatalogueRefuses : Files → List ℕ → Status → Type 0
CatalogueRefuses files name = FileRefuses files name longest_catalogue IsNoCatalogue (Catalogue name)

pub catalogue_file : (files : Files) (name : List ℕ) → IsExact (CatalogueRefuses files name) (FileSpells files name longest_catalogue Spell)
catalogue_file files name = file_exact files name longest_catalogue IsNoCatalogue Spell (Catalogue name) catalogue_exact

pub catalogue_refused : (s : Seen) (name : List ℕ) → IsTrue s.tells → (status : Status) → IsDecided status → CatalogueRefusal s name status → CatalogueRefuses s.files name status
catalogue_refused s name t Done d r = absurd r
catalogue_refused s name t (Stopped a b) d r = absurd d
catalogue_refused s name t Usage d r = absurd r
catalogue_refused s name t Memory d r = absurd d
catalogue_refused s name t (ReadFault a) d r = absurd d
catalogue_refused s name t (WriteFault a) d r = absurd d
catalogue_refused s name t ConsoleFault d r = absurd d
catalogue_refused s name t (Absent a) d r = inl (not_read s name longest_catalogue t (Absent a) d r)
catalogue_refused s name t (TooLong a b) d r = inl (not_read s name longest_catalogue t (TooLong a b) d r)
catalogue_refused s name t (Param a) d r = absurd r
catalogue_refused s name t (Outputs a) d r = absurd r
catalogue_refused s name t (Table a) d r = absurd r
catalogue_refused s name t (Snapshot a) d r = absurd r
catalogue_refused s name t (Restart a) d r = absurd r
catalogue_refused s name t (Differs a) d r = absurd r
catalogue_refused s name t (Expansion a) d r = absurd r
catalogue_refused s name t (Catalogue n e) d r = let f = r.2 t in inr (f.bytes, f.read, (e, ap (λ m. Catalogue m e) r.0, record { plain = r.1; fault = f.fault }))
catalogue_refused s name t (MomRange a b c axis) d r = absurd r
catalogue_refused s name t (StepRange a b) d r = absurd r
