-- Links by places are links by labels.
use Rattle.std.proofs.Common.{◌≡◌, ◌⊎◌, ℕ, ◌+◌, ◌<◌, ◌≤◌, ◌==◌, List, [], ◌∷◌, ◌++◌, length, get_or, map, take, true, refl, sym, ap, subst, ◌∙◌, inl, inr, arith}
use Rattle.std.specs.List.{All, AllZip}
use Rattle.std.proofs.lemmas.Bool.{cases_lt}
use Rattle.std.proofs.lemmas.Bool.Decides.{nat_tests}
use Rattle.std.proofs.lemmas.List.{get_or_append_left, get_or_default, get_or-map, get_or_push, length-map, length_push, take_more}
use Rattle.std.proofs.lemmas.List.Kept.{AllPairs-from_increasing}
use Rattle.group_file.specs.Catalogues.{GroupData, IsGood}
use Rattle.merger_links.specs.declared.link.Link.{Link}
use Rattle.merger_links.specs.declared.ties.Tie.{Tie}
use Rattle.merger_links.specs.Links.{shared, IsBest, IsShared, IsDescendant, IsMain, IsLink}
use Rattle.merger_links.specs.Ties.{IsTie, AreTies, IsMainOf, AreWithin, no_group}

-- the group at a place
abbrev pub at : List GroupData → ℕ → GroupData
at C k = get_or C k no_group

label_at : (C : List GroupData) (k : ℕ) → k < length C → get_or (map (λ (g : GroupData). g.label) C) k 0 ≡ (at C k).label
label_at C k l = get_or-map (λ (g : GroupData). g.label) C k no_group 0 l

pub label_less : (C : List GroupData) (i j : ℕ) → IsGood C → i < j → j < length C → (at C i).label < (at C j).label
label_less C i j good h l =
    omega (arith, AllPairs-from_increasing (map (λ (g : GroupData). g.label) C) good.ascending i j 0 h (omega (arith, l, length-map C (λ (g : GroupData). g.label))), label_at C i (omega (arith, h, l)), label_at C j l)

label_le : (C : List GroupData) (i j : ℕ) → IsGood C → i ≤ j → j < length C → (at C i).label ≤ (at C j).label
label_le C i j good h l = elim (cases_lt i j) as (λ _. (at C i).label ≤ (at C j).label) [
  | inl less ↦ omega (arith, label_less C i j good less l)
  | inr same ↦ (let e : i ≡ j = omega (arith, h, same) in omega (arith, ap (λ k. (at C k).label) e))
]

-- of a good catalogue's groups, by places
best_at : (P : GroupData → Type 0) (w : GroupData → ℕ) (C : List GroupData) (k : ℕ) → k < length C → P (at C k) → ((j : ℕ) → j < length C → P (at C j) → (w (at C j) < w (at C k)) ⊎ ((w (at C j) ≡ w (at C k)) × ((at C k).label ≤ (at C j).label))) → IsBest P w C (at C k)
best_at P w C k l p f = record {
  among = (k, l, get_or_default C k _ no_group l);
  holds = p;
  most = λ j d m q.
      (let e : at C j ≡ get_or C j d = get_or_default C j no_group d m in
      subst (λ h. (w h < w (at C k)) ⊎ ((w h ≡ w (at C k)) × ((at C k).label ≤ h.label))) e (f j m (subst P (sym e) q)));
}

most_at : (P : GroupData → Type 0) (w : GroupData → ℕ) (C : List GroupData) (b : GroupData) (j : ℕ) → IsBest P w C b → j < length C → P (at C j) → (w (at C j) < w b) ⊎ ((w (at C j) ≡ w b) × (b.label ≤ (at C j).label))
most_at P w C b j h l p = h.most j no_group l p

-- ---- descendants

pub descendant_is : (D : List GroupData) (g : GroupData) (t : Tie) → IsGood D → IsTie D g t → 1 ≤ t.shared → IsDescendant D g (at D t.group)
descendant_is D g t good h s =
    let most : (j : ℕ) → j < length D → (shared g (at D j) < shared g (at D t.group)) ⊎ ((shared g (at D j) ≡ shared g (at D t.group)) × ((at D t.group).label ≤ (at D j).label)) =
    λ j l. elim (h.most j l) as (λ _. (shared g (at D j) < shared g (at D t.group)) ⊎ ((shared g (at D j) ≡ shared g (at D t.group)) × ((at D t.group).label ≤ (at D j).label))) [
      | inl a ↦ inl (omega (arith, a, h.as_many s))
      | inr a ↦ inr (a.0 ∙ sym (h.as_many s), label_le D t.group j good a.1 l)
    ] in
    best_at (IsShared g) (shared g) D t.group (h.within s) (omega (arith, s, h.as_many s)) (λ j l p. most j l)

-- the group at a place is the descendant only where the tie names this place
pub descendant_one : (D : List GroupData) (g : GroupData) (t : Tie) (p : ℕ) → IsGood D → IsTie D g t → p < length D → IsDescendant D g (at D p) → (t.group ≡ p) × (1 ≤ t.shared)
descendant_one D g t p good h l d = (same, some)
  where
    some : 1 ≤ t.shared
    some = elim (h.most p l) as (λ _. 1 ≤ t.shared) [ inl a ↦ omega (arith, a) | inr a ↦ omega (arith, a.0, d.holds) ]

    label_same : (t.group ≤ p) → (at D p).label ≤ (at D t.group).label → t.group ≡ p
    label_same le lab = elim (cases_lt t.group p) as (λ _. t.group ≡ p) [ inl less ↦ absurd (omega (arith, lab, label_less D t.group p good less l)) | inr more ↦ omega (arith, le, more) ]

    by : (shared g (at D p) < t.shared) ⊎ ((shared g (at D p) ≡ t.shared) × (t.group ≤ p)) → (shared g (at D t.group) < shared g (at D p)) ⊎ ((shared g (at D t.group) ≡ shared g (at D p)) × ((at D p).label ≤ (at D t.group).label)) → t.group ≡ p
    by (inl a) (inl b) = absurd (omega (arith, a, b, h.as_many some))
    by (inl a) (inr b) = absurd (omega (arith, a, b.0, h.as_many some))
    by (inr a) (inl b) = absurd (omega (arith, a.0, b, h.as_many some))
    by (inr a) (inr b) = label_same a.1 b.1

    same : t.group ≡ p
    same = by (h.most p l) (most_at (IsShared g) (shared g) D (at D p) t.group d (h.within some) (omega (arith, some, h.as_many some)))

pub no_descendant : (D : List GroupData) (g : GroupData) (t : Tie) → IsTie D g t → t.shared ≡ 0 → All (λ h. shared g h ≡ 0) D
no_descendant D g t h z k d l =
    let here : shared g (at D k) ≡ 0 = elim (h.most k l) as (λ _. shared g (at D k) ≡ 0) [ inl a ↦ omega (arith, a, z) | inr a ↦ a.0 ∙ z ] in
    subst (λ (x : GroupData). shared g x ≡ 0) (get_or_default D k no_group d l) here

-- ---- main groups

module _ (C D : List GroupData) (good : IsGood C) (second : IsGood D) (ties : List Tie) (are : AreTies C D (length C) ties) (i : ℕ) (l : i < length C) (d : Tie) (s : 1 ≤ (get_or ties i d).shared) where
  mine : Tie
  mine = get_or ties i d

  tie_at : (k : ℕ) → k < length C → IsTie D (at C k) (get_or ties k d)
  tie_at k h = are.each k d h

  descendant : GroupData
  descendant = at D (get_or ties i d).group

  tied : (j : ℕ) → j < length C → IsDescendant D (at C j) (at D (get_or ties i d).group) → ((get_or ties j d).group ≡ (get_or ties i d).group) × (1 ≤ (get_or ties j d).shared)
  tied j h q = descendant_one D (at C j) (get_or ties j d) (get_or ties i d).group second (tie_at j h) ((tie_at i l).within s) q

  shares : (j : ℕ) → j < length C → (get_or ties j d).group ≡ (get_or ties i d).group → 1 ≤ (get_or ties j d).shared → shared (at C j) (at D (get_or ties i d).group) ≡ (get_or ties j d).shared
  shares j h e u = ap (λ p. shared (at C j) (at D p)) (sym e) ∙ (tie_at j h).as_many u

  leads : (j : ℕ) → j < length C → (get_or ties j d).group ≡ (get_or ties i d).group → 1 ≤ (get_or ties j d).shared → IsDescendant D (at C j) (at D (get_or ties i d).group)
  leads j h e u = subst (λ p. IsDescendant D (at C j) (at D p)) e (descendant_is D (at C j) (get_or ties j d) second (tie_at j h) u)

  pub is_main : (m : Tie) → IsMainOf ties (length C) (get_or ties i d).group m → m.group ≡ i → IsMain C D (at C i) (at D (get_or ties i d).group)
  is_main m h e =
      let weight : GroupData → ℕ = λ g. shared g (at D (get_or ties i d).group) in
      let some : 1 ≤ m.shared = elim (h.most i d l refl s) as (λ _. 1 ≤ m.shared) [ inl a ↦ omega (arith, a) | inr a ↦ omega (arith, a.0, s) ] in
      let as_many : (get_or ties i d).shared ≡ m.shared = ap (λ k. (get_or ties k d).shared) (sym e) ∙ (h.tied some d).1 in
      best_at (λ g. IsDescendant D g (at D (get_or ties i d).group)) weight C i l (leads i l refl s)
      (λ j n q. (
      let t = tied j n q in
      let w : weight (at C j) ≡ (get_or ties j d).shared = shares j n t.0 t.1 in
      let v : weight (at C i) ≡ (get_or ties i d).shared = shares i l refl s in
      elim (h.most j d n t.0 t.1) as (λ _. (weight (at C j) < weight (at C i)) ⊎ ((weight (at C j) ≡ weight (at C i)) × ((at C i).label ≤ (at C j).label))) [
        | inl a ↦ inl (omega (arith, a, w, v, as_many))
        | inr a ↦ inr (omega (arith, a.0, w, v, as_many), label_le C i j good (omega (arith, a.1, e)) n)
      ]))

  pub main_is : (m : Tie) → IsMainOf ties (length C) (get_or ties i d).group m → IsMain C D (at C i) (at D (get_or ties i d).group) → m.group ≡ i
  main_is m h b = by (h.most i d l refl s) (most_at (λ g. IsDescendant D g (at D (get_or ties i d).group)) (λ g. shared g (at D (get_or ties i d).group)) C (at C i) m.group b within (leads m.group within there more))
    where
      some : 1 ≤ m.shared
      some = elim (h.most i d l refl s) as (λ _. 1 ≤ m.shared) [ inl a ↦ omega (arith, a) | inr a ↦ omega (arith, a.0, s) ]

      within : m.group < length C
      within = h.within some

      there : (get_or ties m.group d).group ≡ (get_or ties i d).group
      there = (h.tied some d).0

      as_many : (get_or ties m.group d).shared ≡ m.shared
      as_many = (h.tied some d).1

      more : 1 ≤ (get_or ties m.group d).shared
      more = omega (arith, some, as_many)

      w : shared (at C m.group) (at D (get_or ties i d).group) ≡ (get_or ties m.group d).shared
      w = shares m.group within there more

      v : shared (at C i) (at D (get_or ties i d).group) ≡ (get_or ties i d).shared
      v = shares i l refl s

      first : m.group ≤ i → (at C i).label ≤ (at C m.group).label → m.group ≡ i
      first le lab = elim (cases_lt m.group i) as (λ _. m.group ≡ i) [ inl less ↦ absurd (omega (arith, lab, label_less C m.group i good less l)) | inr same ↦ omega (arith, le, same) ]

      by : ((get_or ties i d).shared < m.shared) ⊎ (((get_or ties i d).shared ≡ m.shared) × (m.group ≤ i))
          → (shared (at C m.group) (at D (get_or ties i d).group) < shared (at C i) (at D (get_or ties i d).group)) ⊎ ((shared (at C m.group) (at D (get_or ties i d).group) ≡ shared (at C i) (at D (get_or ties i d).group)) × ((at C i).label ≤ (at C m.group).label)) → m.group ≡ i
      by (inl a) (inl c) = absurd (omega (arith, a, c, w, v, as_many))
      by (inl a) (inr c) = absurd (omega (arith, a, c.0, w, v, as_many))
      by (inr a) (inl c) = absurd (omega (arith, a.0, c, w, v, as_many))
      by (inr a) (inr c) = first a.1 c.1

-- ---- lists of ties and links

pub ties_none : (C D : List GroupData) → AreTies C D 0 []
ties_none C D = record { long = refl; each = λ k d l. absurd (omega (arith, l)) }

pub ties_more : (C D : List GroupData) (i : ℕ) (ties more : List Tie) (g : GroupData) (t : Tie) → i < length C → get_or C i g ≡ g → AreTies C D i ties → more ≡ ties ++ t ∷ [] → IsTie D g t → AreTies C D (i + 1) more
ties_more C D i ties more g t l e h m is = record {
  long = ap length m ∙ length_push ties t ∙ ap (λ n. n + 1) h.long;
  each = λ k d n. subst (λ xs. IsTie D (at C k) (get_or xs k d)) (sym m) (elim (cases_lt k i) as (λ _. IsTie D (at C k) (get_or (ties ++ t ∷ []) k d)) [
    | inl below ↦ subst (IsTie D (at C k)) (sym (get_or_append_left ties (t ∷ []) d k (omega (arith, below, h.long)))) (h.each k d below)
    | inr above ↦ (
        let same : i ≡ k = omega (arith, n, above) in
        let group : g ≡ at C k = sym e ∙ get_or_default C i g no_group l ∙ ap (at C) same in
        subst (λ x. IsTie D x (get_or (ties ++ t ∷ []) k d)) group (subst (IsTie D g) (sym (get_or_push ties t d k (omega (arith, h.long, same)))) is))
  ]);
}

pub zip_more : (C D : List GroupData) (i : ℕ) (links more : List Link) (l : Link) → i < length C → AllZip (IsLink C D) (take i C) links → more ≡ links ++ l ∷ [] → IsLink C D (at C i) l → AllZip (IsLink C D) (take (i + 1) C) more
zip_more C D i links more l h z m is = subst (λ xs. AllZip (IsLink C D) xs more) (sym (take_more C i no_group h)) (subst (AllZip (IsLink C D) (take i C ++ at C i ∷ [])) (sym m) (push (take i C) links z))
  where
    push : (xs : List GroupData) (ys : List Link) → AllZip (IsLink C D) xs ys → AllZip (IsLink C D) (xs ++ at C i ∷ []) (ys ++ l ∷ [])
    push [] [] z = (is, tt)
    push [] (y ∷ ys) z = absurd z
    push (x ∷ xs) [] z = absurd z
    push (x ∷ xs) (y ∷ ys) z = (z.0, push xs ys z.1)

-- ---- tests

pub same_of : (a b : ℕ) → (a == b) ≡ true → a ≡ b
same_of a b h = grind (arith, nat_tests)

pub test_of : (a b : ℕ) → a ≡ b → (a == b) ≡ true
test_of a b h = grind (arith, nat_tests)

pub ties_within : (C D : List GroupData) (n : ℕ) (ties : List Tie) → AreTies C D n ties → AreWithin ties (length D)
ties_within C D n ties h k d l s = (h.each k d (omega (arith, l, h.long))).within s
