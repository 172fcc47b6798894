-- Links are written in one way.
use Rattle.std.proofs.Common.{◌≡◌, ◌⊎◌, ℕ, IsTrue, List, true, inl, inr, refl, sym, ap, subst, ◌∙◌}
use Rattle.store_io.specs.Files.{Files}
use Rattle.group_file.specs.Catalogues.{GroupData, IsGood}
use Rattle.group_file.specs.GroupFile.{Spell}
use Rattle.group_file.proofs.Sound.{spelled_good}
use Rattle.merger_links.specs.declared.link.Link.{Link}
use Rattle.merger_links.specs.Links.{AreLinks}
use Rattle.merger_links.proofs.Unique.{links_one}
use Rattle.run_session.specs.Worlds.{World}
use Rattle.gadget.specs.declared.status.Status.{Status}
use Rattle.gadget.specs.declared.outcome.Outcome.{Outcome}
use Rattle.gadget.specs.declared.outcome.Outcome.TheVariants.{Ran, Checked, Shown, Made, Grouped, Linked, Refused}
use Rattle.gadget.specs.Outcomes.{status_of}
use Rattle.gadget.specs.Decided.{IsDecided, IsOneAnswer}
use Rattle.gadget.specs.Reads.{Seen, FileSpells, seen}
use Rattle.gadget.specs.Catalogues.{longest_catalogue}
use Rattle.gadget.specs.Linking.{LinksDoes, LinksOf, LinksRefusal}
use Rattle.gadget.specs.LinkTexts.{followed, links_text}
use Rattle.gadget.specs.Texts.{linked_text}
use Rattle.gadget.proofs.Exact.{IsExact, Either, Both, both_exact}
use Rattle.gadget.proofs.OneCatalogue.{CatalogueRefuses, catalogue_file, catalogue_refused}
use Rattle.gadget.proofs.OnePut.{put_one, refused_one, undecided}

abbrev Gives : Files → List ℕ → List GroupData → Type 0
Gives files name = FileSpells files name longest_catalogue Spell

-- one of the two isn't accepted; or both are
abbrev Refuses : Files → List ℕ → List ℕ → Status → Type 0
Refuses files first second = Either (CatalogueRefuses files first) (Gives files first) (λ C. CatalogueRefuses files second)

abbrev GivesBoth : Files → List ℕ → List ℕ → List GroupData × List GroupData → Type 0
GivesBoth files first second = Both (Gives files first) (λ C. Gives files second)

both_files : (files : Files) (first second : List ℕ) → IsExact (Refuses files first second) (GivesBoth files first second)
both_files files first second = both_exact _ _ _ _ (catalogue_file files first) (λ C. catalogue_file files second)

refused : (s : Seen) (first second : List ℕ) → IsTrue s.tells → (status : Status) → IsDecided status → LinksRefusal s first second status → Refuses s.files first second status
refused s first second t status d (inl r) = inl (catalogue_refused s first t status d r)
refused s first second t status d (inr r) = inr (r.former, r.named t, catalogue_refused s second t status d r.refused)

-- two files have one list of links
list_one : (files : Files) (first second : List ℕ) (L M : List Link) → LinksOf files first second L → LinksOf files first second M → L ≡ M
list_one files first second L M h k =
    let same : (h.former, h.later) ≡ (k.former, k.later) = (both_files files first second).one_value (h.former, h.later) (k.former, k.later) h.named k.named in
    let good : IsGood k.later = spelled_good k.named.1.bytes k.later k.named.1.spelled in
    links_one k.former k.later L M good (subst (λ (x : List GroupData × List GroupData). AreLinks x.0 x.1 L) same h.are) k.are

pub linking_one : (A Y B Z : World) (first second name : List ℕ) (o q : Outcome) → B.files ≡ A.files → LinksDoes true A Y first second name o → LinksDoes true B Z first second name q → IsDecided (status_of o) → IsDecided (status_of q) → IsOneAnswer Y Z o q
linking_one A Y B Z first second name (Linked n) (Linked x) same h k i j =
    let L = h.links in
    let M = k.links in
    let is : L ≡ M = list_one A.files first second L M (h.found refl) (subst (λ F. LinksOf F first second M) same (k.found refl)) in
    let count : n ≡ x = h.count_is ∙ ap (λ (N : List Link). followed N) is ∙ sym k.count_is in
    record {
      status = refl;
      text = ap (λ a. linked_text a) count;
      files = put_one A Y B Z name (links_text L) (links_text M) same (ap (λ (N : List Link). links_text N) is) h.written k.written;
    }
linking_one A Y B Z first second name (Linked n) (Refused b) same h (inl k) i j =
    let f = h.found refl in
    absurd ((both_files A.files first second).apart b (f.former, f.later) (subst (λ F. Refuses F first second b) same (refused (seen true B Z) first second refl b j k.0)) f.named)
linking_one A Y B Z first second name (Refused a) (Linked x) same (inl h) k i j =
    let f = k.found refl in
    absurd ((both_files B.files first second).apart a (f.former, f.later) (subst (λ F. Refuses F first second a) (sym same) (refused (seen true A Y) first second refl a i h.0)) f.named)
linking_one A Y B Z first second name (Refused a) (Refused b) same (inl h) (inl k) i j =
    refused_one (Refuses A.files first second) A Y B Z a b same (both_files A.files first second).one_refusal (refused (seen true A Y) first second refl a i h.0) (subst (λ F. Refuses F first second b) same (refused (seen true B Z) first second refl b j k.0)) h.1 k.1
linking_one A Y B Z first second name (Linked n) (Refused b) same h (inr k) i j = absurd (undecided B.faults Z name b k.cut.cause j)
linking_one A Y B Z first second name (Refused a) (Refused b) same (inl h) (inr k) i j = absurd (undecided B.faults Z name b k.cut.cause j)
linking_one A Y B Z first second name (Refused a) q same (inr h) k i j = absurd (undecided A.faults Y name a h.cut.cause i)
linking_one A Y B Z first second name (Ran e s) q same h k i j = absurd h
linking_one A Y B Z first second name (Checked C) q same h k i j = absurd h
linking_one A Y B Z first second name (Shown head C) q same h k i j = absurd h
linking_one A Y B Z first second name (Made n a) q same h k i j = absurd h
linking_one A Y B Z first second name (Grouped n m) q same h k i j = absurd h
linking_one A Y B Z first second name (Linked n) (Ran e s) same h k i j = absurd k
linking_one A Y B Z first second name (Linked n) (Checked C) same h k i j = absurd k
linking_one A Y B Z first second name (Linked n) (Shown head C) same h k i j = absurd k
linking_one A Y B Z first second name (Linked n) (Made x a) same h k i j = absurd k
linking_one A Y B Z first second name (Linked n) (Grouped x y) same h k i j = absurd k
linking_one A Y B Z first second name (Refused a) (Ran e s) same (inl h) k i j = absurd k
linking_one A Y B Z first second name (Refused a) (Checked C) same (inl h) k i j = absurd k
linking_one A Y B Z first second name (Refused a) (Shown head C) same (inl h) k i j = absurd k
linking_one A Y B Z first second name (Refused a) (Made x b) same (inl h) k i j = absurd k
linking_one A Y B Z first second name (Refused a) (Grouped x y) same (inl h) k i j = absurd k
