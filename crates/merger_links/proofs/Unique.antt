-- Two catalogues have one list of links.
use Rattle.std.proofs.Common.{◌≡◌, ◌⊎◌, ◌↔◌, ℕ, ◌<◌, ◌≤◌, List, [], ◌∷◌, length, Bool, true, false, Some, refl, sym, ap, subst, ◌∙◌, inl, inr, arith}
use Rattle.std.specs.List.{AllZip}
use Rattle.std.proofs.lemmas.Bool.{cases_lt}
use Rattle.std.proofs.lemmas.List.{get_or_default}
use Rattle.group_file.specs.Catalogues.{GroupData, IsGood}
use Rattle.merger_links.specs.declared.link.Link.{Link}
use Rattle.merger_links.specs.Laws.{LinksAreOne}
use Rattle.merger_links.specs.Links.{shared, IsBest, IsShared, IsDescendant, IsMain, HasLink, HasNoLink, IsLink}
use Rattle.merger_links.specs.Ties.{no_group}
use Rattle.merger_links.proofs.Best.{at, label_less}

-- groups of a good catalogue with one label are one
label_one : (C : List GroupData) (i j : ℕ) → IsGood C → i < length C → j < length C → (at C i).label ≡ (at C j).label → i ≡ j
label_one C i j good k l e = by (cases_lt i j) (cases_lt j i)
  where
    by : (i < j) ⊎ (j ≤ i) → (j < i) ⊎ (i ≤ j) → i ≡ j
    by (inl a) b = absurd (omega (arith, e, label_less C i j good a l))
    by (inr a) (inl b) = absurd (omega (arith, e, label_less C j i good b k))
    by (inr a) (inr b) = omega (arith, a, b)

-- there is one best group
best_one : (P : GroupData → Type 0) (w : GroupData → ℕ) (C : List GroupData) (a b : GroupData) → IsGood C → IsBest P w C a → IsBest P w C b → a ≡ b
best_one P w C a b good h k = by first second
  where
    here : a ≡ at C h.among.0
    here = sym h.among.2 ∙ get_or_default C h.among.0 a no_group h.among.1

    there : b ≡ at C k.among.0
    there = sym k.among.2 ∙ get_or_default C k.among.0 b no_group k.among.1

    first : (w b < w a) ⊎ ((w b ≡ w a) × (a.label ≤ b.label))
    first = subst (λ x. (w x < w a) ⊎ ((w x ≡ w a) × (a.label ≤ x.label))) k.among.2 (h.most k.among.0 b k.among.1 (subst P (sym k.among.2) k.holds))

    second : (w a < w b) ⊎ ((w a ≡ w b) × (b.label ≤ a.label))
    second = subst (λ x. (w x < w b) ⊎ ((w x ≡ w b) × (b.label ≤ x.label))) h.among.2 (k.most h.among.0 a h.among.1 (subst P (sym h.among.2) h.holds))

    by : (w b < w a) ⊎ ((w b ≡ w a) × (a.label ≤ b.label)) → (w a < w b) ⊎ ((w a ≡ w b) × (b.label ≤ a.label)) → a ≡ b
    by (inl p) (inl q) = absurd (omega (arith, p, q))
    by (inl p) (inr q) = absurd (omega (arith, p, q.0))
    by (inr p) (inl q) = absurd (omega (arith, p.0, q))
    by (inr p) (inr q) =
        let labels : a.label ≡ b.label = omega (arith, p.1, q.1) in
        let places : h.among.0 ≡ k.among.0 = label_one C h.among.0 k.among.0 good h.among.1 k.among.1 (ap (λ (x : GroupData). x.label) (sym here) ∙ labels ∙ ap (λ (x : GroupData). x.label) there) in
        here ∙ ap (at C) places ∙ sym there

tests_one : (a b : Bool) (P : Type 0) → (a ≡ true) ↔ P → (b ≡ true) ↔ P → a ≡ b
tests_one true true P h k = refl
tests_one false false P h k = refl
tests_one true false P h k = sym (k.1 (h.0 refl))
tests_one false true P h k = h.1 (k.0 refl)

links_same : (l m : Link) → l.label ≡ m.label → l.descendant ≡ m.descendant → l.shared ≡ m.shared → l.main ≡ m.main → l ≡ m
links_same l m a b c d = λ i. record { label = a i; descendant = b i; shared = c i; main = d i }

-- none of those that share nothing is a descendant
no_both : (D : List GroupData) (g d : GroupData) (m : Link) → IsDescendant D g d → HasNoLink D g m → ⊥
no_both D g d m h n =
    let none : shared g d ≡ 0 = ap (shared g) (sym h.among.2) ∙ n.nothing h.among.0 d h.among.1 in
    let some : 1 ≤ shared g d = h.holds in
    omega (arith, none, some)

link_one : (C D : List GroupData) (g : GroupData) (l m : Link) → IsGood D → IsLink C D g l → IsLink C D g m → l ≡ m
link_one C D g l m good h k = by h.1 k.1
  where
    labels : l.label ≡ m.label
    labels = h.0 ∙ sym k.0

    both : (d e : GroupData) → HasLink C D g d l → HasLink C D g e m → l ≡ m
    both d e p q =
        let same : d ≡ e = best_one (IsShared g) (shared g) D d e good p.is q.is in
        links_same l m labels
        (p.descendant ∙ ap (λ (x : GroupData). Some x.label) same ∙ sym q.descendant)
        (p.as_many ∙ ap (shared g) same ∙ sym q.as_many)
        (tests_one l.main m.main (IsMain C D g e) (subst (λ x. (l.main ≡ true) ↔ IsMain C D g x) same p.main) q.main)

    by : ((d : GroupData) × HasLink C D g d l) ⊎ HasNoLink D g l → ((d : GroupData) × HasLink C D g d m) ⊎ HasNoLink D g m → l ≡ m
    by (inl p) (inl q) = both p.0 q.0 p.1 q.1
    by (inl p) (inr q) = absurd (no_both D g p.0 m p.1.is q)
    by (inr p) (inl q) = absurd (no_both D g q.0 l q.1.is p)
    by (inr p) (inr q) = links_same l m labels (p.descendant ∙ sym q.descendant) (p.none ∙ sym q.none) (p.main ∙ sym q.main)

all_one : (C D xs : List GroupData) (L M : List Link) → IsGood D → AllZip (IsLink C D) xs L → AllZip (IsLink C D) xs M → L ≡ M
all_one C D [] [] [] good h k = refl
all_one C D [] [] (m ∷ M) good h k = absurd k
all_one C D [] (l ∷ L) M good h k = absurd h
all_one C D (x ∷ xs) [] M good h k = absurd h
all_one C D (x ∷ xs) (l ∷ L) [] good h k = absurd k
all_one C D (x ∷ xs) (l ∷ L) (m ∷ M) good h k =
    let first : l ≡ m = link_one C D x l m good h.0 k.0 in
    let rest : L ≡ M = all_one C D xs L M good h.1 k.1 in
    λ i. first i ∷ rest i

pub links_one : LinksAreOne
links_one C D L M good h k = all_one C D C L M good h k
