-- Links from the groups of one catalogue to those of another.
use Rattle.std.specs.Prelude.{◌≡◌, ◌↔◌, ◌⊎◌, ℕ, ◌<◌, ◌≤◌, ◌==◌, Bool, true, false, List, Some, None}
use Rattle.std.specs.List.{All, AllZip, Contains, count_by, list_any}
use Rattle.group_file.specs.Catalogues.{GroupData}
use Rattle.merger_links.specs.declared.link.Link.{Link}

-- an id is one of some ids
abbrev pub has : List ℕ → ℕ → Bool
has ids id = list_any (λ i. i == id) ids

-- how many ids of g are also in h
abbrev pub shared : GroupData → GroupData → ℕ
shared g h = count_by (has h.ids) g.ids

-- of the groups of C for which P holds, `best` has the greatest weight, of equals the least label
pub record IsBest (P : GroupData → Type 0) (weight : GroupData → ℕ) (C : List GroupData) (best : GroupData) : Type 0 where
  pub among : Contains C best
  pub holds : P best
  pub most : All (λ h. P h → (weight h < weight best) ⊎ ((weight h ≡ weight best) × (best.label ≤ h.label))) C

-- two groups share an id
abbrev pub IsShared : GroupData → GroupData → Type 0
IsShared g h = 1 ≤ shared g h

-- the descendant of g in the catalogue D: of the groups that share ids with g, the one that shares the most
abbrev pub IsDescendant : List GroupData → GroupData → GroupData → Type 0
IsDescendant D g d = IsBest (IsShared g) (shared g) D d

-- of all groups of C with the descendant d, g shares the most with it
abbrev pub IsMain : List GroupData → List GroupData → GroupData → GroupData → Type 0
IsMain C D g d = IsBest (λ h. IsDescendant D h d) (λ h. shared h d) C g

-- the link of g, which has the descendant d
pub record HasLink (C D : List GroupData) (g d : GroupData) (l : Link) : Type 0 where
  pub descendant : l.descendant ≡ Some d.label
  pub is : IsDescendant D g d
  pub as_many : l.shared ≡ shared g d
  pub main : (l.main ≡ true) ↔ IsMain C D g d

-- the link of g, which has none
pub record HasNoLink (D : List GroupData) (g : GroupData) (l : Link) : Type 0 where
  pub descendant : l.descendant ≡ None
  pub nothing : All (λ h. shared g h ≡ 0) D
  pub none : l.shared ≡ 0
  pub main : l.main ≡ false

abbrev pub IsLink : List GroupData → List GroupData → GroupData → Link → Type 0
IsLink C D g l = (l.label ≡ g.label) × (((d : GroupData) × HasLink C D g d l) ⊎ HasNoLink D g l)

-- the links of the groups of C to those of D, in the order of C
abbrev pub AreLinks : List GroupData → List GroupData → List Link → Type 0
AreLinks C D links = AllZip (IsLink C D) C links
