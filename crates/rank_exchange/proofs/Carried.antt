-- What a message carries says of which kind it is, and is what the whole gives for it; how what is kept goes on with it.
use Rattle.std.proofs.Common.{◌≡◌, ℕ, ◌+◌, Bool, true, false, cond, List, [], ◌∷◌, ◌++◌, map, reverse, refl, ap, sym, ◌∙◌, subst}
use Rattle.std.specs.Prelude.{Option, Some, None}
use Rattle.std.specs.List.{flat_map}
use Rattle.std.specs.List.Sorted.{IsPermutation}
use Rattle.std.proofs.lemmas.Grind.{flat_map-append}
use Rattle.std.proofs.lemmas.List.{append-nil, reverse-append}
use Rattle.std.proofs.lemmas.List.Sorted.{IsPermutation-append_comm, IsPermutation-cons, IsPermutation-middle, IsPermutation-trans}
use Rattle.cell_space.specs.Cells.{CellData}
use Rattle.rank_laws.specs.Machine.{Kind, Table, Sums, Want, Members, Parts, Ask, Reply, Message}
use Rattle.rank_laws.specs.Whole.{Whole}
use Rattle.rank_laws.specs.Contents.{EntryData, Given, Listed, Summed, OfAsk, OfMembers, OfParts, OfReply, OfSums, OfTable, OfWant, contents, contents_by, members_sent, parts_sent, reply_sent, sums_sent, table_sent, wanted}

-- ---- by what it carries

pub carries_table : (w : Whole) (k : Message) (es : List EntryData) → OfTable es ≡ contents w k → (k.kind ≡ Table) × (es ≡ table_sent w k.from k.to)
carries_table w k es = by k.kind refl
  where
    by : (j : Kind) → k.kind ≡ j → OfTable es ≡ contents_by w k j → (k.kind ≡ Table) × (es ≡ table_sent w k.from k.to)
    by Table e p = (e, cc)
    by Sums e p = cc
    by Want e p = cc
    by Members e p = cc
    by Parts e p = cc
    by Ask e p = cc
    by Reply e p = cc

pub carries_sums : (w : Whole) (k : Message) (es : List Summed) → OfSums es ≡ contents w k → (k.kind ≡ Sums) × (es ≡ sums_sent w k.from k.to)
carries_sums w k es = by k.kind refl
  where
    by : (j : Kind) → k.kind ≡ j → OfSums es ≡ contents_by w k j → (k.kind ≡ Sums) × (es ≡ sums_sent w k.from k.to)
    by Sums e p = (e, cc)
    by Table e p = cc
    by Want e p = cc
    by Members e p = cc
    by Parts e p = cc
    by Ask e p = cc
    by Reply e p = cc

pub carries_want : (w : Whole) (k : Message) (cs : List CellData) → OfWant cs ≡ contents w k → (k.kind ≡ Want) × (cs ≡ wanted w k.from)
carries_want w k cs = by k.kind refl
  where
    by : (j : Kind) → k.kind ≡ j → OfWant cs ≡ contents_by w k j → (k.kind ≡ Want) × (cs ≡ wanted w k.from)
    by Want e p = (e, cc)
    by Table e p = cc
    by Sums e p = cc
    by Members e p = cc
    by Parts e p = cc
    by Ask e p = cc
    by Reply e p = cc

pub carries_members : (w : Whole) (k : Message) (es : List Listed) → OfMembers es ≡ contents w k → (k.kind ≡ Members) × (es ≡ members_sent w k.from k.to)
carries_members w k es = by k.kind refl
  where
    by : (j : Kind) → k.kind ≡ j → OfMembers es ≡ contents_by w k j → (k.kind ≡ Members) × (es ≡ members_sent w k.from k.to)
    by Members e p = (e, cc)
    by Table e p = cc
    by Sums e p = cc
    by Want e p = cc
    by Parts e p = cc
    by Ask e p = cc
    by Reply e p = cc

pub carries_parts : (w : Whole) (k : Message) (es : List Given) → OfParts es ≡ contents w k → (k.kind ≡ Parts) × (es ≡ parts_sent w k.from k.to)
carries_parts w k es = by k.kind refl
  where
    by : (j : Kind) → k.kind ≡ j → OfParts es ≡ contents_by w k j → (k.kind ≡ Parts) × (es ≡ parts_sent w k.from k.to)
    by Parts e p = (e, cc)
    by Table e p = cc
    by Sums e p = cc
    by Want e p = cc
    by Members e p = cc
    by Ask e p = cc
    by Reply e p = cc

pub carries_ask : (w : Whole) (k : Message) (c : CellData) → OfAsk c ≡ contents w k → (k.kind ≡ Ask) × (k.cell ≡ c)
carries_ask w k c = by k.kind refl
  where
    by : (j : Kind) → k.kind ≡ j → OfAsk c ≡ contents_by w k j → (k.kind ≡ Ask) × (k.cell ≡ c)
    by Ask e p = (e, cc)
    by Table e p = cc
    by Sums e p = cc
    by Want e p = cc
    by Members e p = cc
    by Parts e p = cc
    by Reply e p = cc

pub carries_reply : (w : Whole) (k : Message) (o : Option EntryData) → OfReply o ≡ contents w k → (k.kind ≡ Reply) × (o ≡ reply_sent w k.cell)
carries_reply w k o = by k.kind refl
  where
    by : (j : Kind) → k.kind ≡ j → OfReply o ≡ contents_by w k j → (k.kind ≡ Reply) × (o ≡ reply_sent w k.cell)
    by Reply e p = (e, cc)
    by Table e p = cc
    by Sums e p = cc
    by Want e p = cc
    by Members e p = cc
    by Parts e p = cc
    by Ask e p = cc

-- ---- what came, with one rank more

-- lists in the order of their senders, of which the last stands first
pub came_more : {A : Type 0} (f : ℕ → List A) (q : ℕ) (qs : List ℕ) → flat_map f (reverse (q ∷ qs)) ≡ flat_map f (reverse qs) ++ f q
came_more f q qs = ap (flat_map f) (reverse-append (q ∷ []) qs) ∙ flat_map-append f (reverse qs) (q ∷ []) ∙ ap (λ t. flat_map f (reverse qs) ++ t) (append-nil (f q))

pub put_last : {A : Type 0} (f : ℕ → List A) (q : ℕ) (qs : List ℕ) → flat_map f (qs ++ q ∷ []) ≡ flat_map f qs ++ f q
put_last f q qs = flat_map-append f qs (q ∷ []) ∙ ap (λ t. flat_map f qs ++ t) (append-nil (f q))

-- one more stands last
pub one_last : (q : ℕ) (qs order : List ℕ) → IsPermutation qs order → IsPermutation (q ∷ qs) (order ++ q ∷ [])
one_last q qs order p = IsPermutation-trans (q ∷ qs) (q ∷ order) (order ++ q ∷ []) (IsPermutation-cons q qs order p) (IsPermutation-append_comm (q ∷ []) order)

-- behind the rank itself, where it has built
pub one_told : (b : Bool) (r q : ℕ) (qs order : List ℕ) → IsPermutation (cond b (r ∷ qs) qs) order → IsPermutation (cond b (r ∷ q ∷ qs) (q ∷ qs)) (order ++ q ∷ [])
one_told true r q qs order p = IsPermutation-trans (r ∷ q ∷ qs) (q ∷ r ∷ qs) (order ++ q ∷ []) (IsPermutation-middle (r ∷ []) q qs) (one_last q (r ∷ qs) order p)
one_told false r q qs order p = one_last q qs order p
