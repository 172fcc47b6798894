-- The number that stands most often in a list.
use Rattle.std.proofs.Common.{◌≡◌, ◌≢◌, ◌⊎◌, ℕ, zero, suc, ◌+◌, ◌-◌, ◌<◌, ◌≤◌, ◌==◌, List, length, get_or, take, cond, true, false, refl, sym, ap, subst, ◌∙◌, inl, inr, arith}
use Rattle.std.specs.List.{filter_map}
use Rattle.std.specs.List.Sorted.{IsNonDecreasing, IsPermutation}
use Rattle.std.proofs.lemmas.Bool.{cases_eq, cases_lt}
use Rattle.std.proofs.lemmas.Bool.Decides.{nat_tests}
use Rattle.std.proofs.lemmas.List.Sums.{sum_by_more}
use Rattle.std.proofs.lemmas.List.Sorted.{sum_by-IsPermutation}
use Rattle.group_file.specs.Catalogues.{GroupData, IsGood, times}
use Rattle.merger_links.specs.declared.ties.Tie.{Tie}
use Rattle.merger_links.specs.Owners.{owner_in}
use Rattle.merger_links.specs.Ties.{IsMostOften, IsTie}
use Rattle.merger_links.proofs.Owned.{times_found, times_past}

times_more : (v i : ℕ) (xs : List ℕ) → i < length xs → times v (take (i + 1) xs) ≡ times v (take i xs) + cond (get_or xs i 0 == v) 1 0
times_more v i xs l = sum_by_more (λ j. cond (j == v) 1 0) xs i 0 l

pub one_more : (v i : ℕ) (xs : List ℕ) → i < length xs → get_or xs i 0 ≡ v → times v (take (i + 1) xs) ≡ times v (take i xs) + 1
one_more v i xs l e = let test : (get_or xs i 0 == v) ≡ true = grind (arith, nat_tests) in times_more v i xs l ∙ ap (λ b. times v (take i xs) + cond b 1 0) test

no_more : (v i : ℕ) (xs : List ℕ) → i < length xs → get_or xs i 0 ≢ v → times v (take (i + 1) xs) ≡ times v (take i xs)
no_more v i xs l e = let test : (get_or xs i 0 == v) ≡ false = grind (arith, nat_tests) in times_more v i xs l ∙ ap (λ b. times v (take i xs) + cond b 1 0) test ∙ omega arith

-- what stands in the first numbers is at most each later one
stands_below : (v i : ℕ) (xs : List ℕ) → i ≤ length xs → 1 ≤ times v (take i xs) → (k : ℕ) × (k < i) × (get_or xs k 0 ≡ v)
stands_below v zero xs l h = absurd (omega (arith, h))
stands_below v (suc i) xs l h =
    let up : i + 1 ≡ suc i = omega arith in
    let h' : 1 ≤ times v (take (i + 1) xs) = subst (λ n. 1 ≤ times v (take n xs)) (sym up) h in
    elim (cases_eq (get_or xs i 0) v) as (λ _. (k : ℕ) × (k < suc i) × (get_or xs k 0 ≡ v)) [
      | inl e ↦ (i, omega arith, e)
      | inr n ↦ (let s = stands_below v i xs (omega (arith, l)) (omega (arith, h', no_more v i xs (omega (arith, l)) n)) in (s.0, omega (arith, s.1), s.2))
    ]

at_most : (v i : ℕ) (xs : List ℕ) → IsNonDecreasing xs → i < length xs → 1 ≤ times v (take i xs) → v ≤ get_or xs i 0
at_most v i xs up l h = let s = stands_below v i xs (omega (arith, l)) h in omega (arith, up s.0 i 0 (omega (arith, s.1)) l, s.2)

-- a number that isn't the one before it is new
new_here : (i : ℕ) (xs : List ℕ) → IsNonDecreasing xs → 1 ≤ i → i < length xs → get_or xs (i - 1) 0 ≢ get_or xs i 0 → times (get_or xs i 0) (take i xs) ≡ 0
new_here i xs up p l n = elim (cases_lt 0 (times (get_or xs i 0) (take i xs))) as (λ _. times (get_or xs i 0) (take i xs) ≡ 0) [
  | inl h ↦ (
      let s = stands_below (get_or xs i 0) i xs (omega (arith, l)) (omega (arith, h)) in
      absurd (n (omega (arith, up s.0 (i - 1) 0 (omega (arith, s.1, p)) (omega (arith, l)), up (i - 1) i 0 (omega arith) l, s.2))))
  | inr h ↦ omega (arith, h)
]

-- ---- the steps

pub run_first : (xs : List ℕ) (i : ℕ) → i ≡ 0 → i < length xs → 1 ≡ times (get_or xs i 0) (take (i + 1) xs)
run_first xs i z l =
    let none : times (get_or xs i 0) (take i xs) ≡ 0 = ap (λ n. times (get_or xs i 0) (take n xs)) z in
    omega (arith, none, one_more (get_or xs i 0) i xs l refl)

pub run_longer : (xs : List ℕ) (i run : ℕ) → i < length xs → get_or xs (i - 1) 0 ≡ get_or xs i 0 → run ≡ times (get_or xs (i - 1) 0) (take i xs) → run + 1 ≡ times (get_or xs i 0) (take (i + 1) xs)
run_longer xs i run l e r = omega (arith, one_more (get_or xs i 0) i xs l refl, r, ap (λ v. times v (take i xs)) e)

pub run_new : (xs : List ℕ) (i : ℕ) → IsNonDecreasing xs → 1 ≤ i → i < length xs → get_or xs (i - 1) 0 ≢ get_or xs i 0 → 1 ≡ times (get_or xs i 0) (take (i + 1) xs)
run_new xs i up p l n = omega (arith, one_more (get_or xs i 0) i xs l refl, new_here i xs up p l n)

abbrev tie : ℕ → ℕ → Tie
tie g n = record { group = g; shared = n }

pub often_none : (xs : List ℕ) → IsMostOften (take 0 xs) (tie 0 0)
often_none xs = record { often = refl; most = λ v. inr (refl, omega arith) }

pub often_more : (xs : List ℕ) (i run x : ℕ) (t : Tie) → i < length xs → get_or xs i 0 ≡ x → IsMostOften (take i xs) t → run ≡ times (get_or xs i 0) (take (i + 1) xs) → t.shared < run → IsMostOften (take (i + 1) xs) (tie x run)
often_more xs i run x t l at m r more = record {
  often = ap (λ v. times v (take (i + 1) xs)) (sym at) ∙ sym r;
  most = λ v. elim (cases_eq (get_or xs i 0) v) as (λ _. (times v (take (i + 1) xs) < run) ⊎ ((times v (take (i + 1) xs) ≡ run) × (x ≤ v))) [
    | inl e ↦ inr (ap (λ w. times w (take (i + 1) xs)) (sym e) ∙ sym r, omega (arith, e, at))
    | inr n ↦ inl (elim (m.most v) as (λ _. times v (take (i + 1) xs) < run) [ inl a ↦ omega (arith, a, more, no_more v i xs l n) | inr a ↦ omega (arith, a.0, more, no_more v i xs l n) ])
  ];
}

pub often_same : (xs : List ℕ) (i run : ℕ) (t : Tie) → IsNonDecreasing xs → i < length xs → IsMostOften (take i xs) t → run ≡ times (get_or xs i 0) (take (i + 1) xs) → run ≤ t.shared → IsMostOften (take (i + 1) xs) t
often_same xs i run t up l m r less =
    let other : get_or xs i 0 ≢ t.group = (λ e. omega (arith, one_more t.group i xs l e, m.often, r, less, ap (λ v. times v (take (i + 1) xs)) e)) in
    record {
      often = no_more t.group i xs l other ∙ m.often;
      most = λ v. elim (cases_eq (get_or xs i 0) v) as (λ _. (times v (take (i + 1) xs) < t.shared) ⊎ ((times v (take (i + 1) xs) ≡ t.shared) × (t.group ≤ v))) [
        | inl e ↦ elim (cases_lt run t.shared) as (λ _. (times v (take (i + 1) xs) < t.shared) ⊎ ((times v (take (i + 1) xs) ≡ t.shared) × (t.group ≤ v))) [
          | inl a ↦ inl (omega (arith, a, r, ap (λ w. times w (take (i + 1) xs)) e))
          | inr a ↦ inr (
            omega (arith, a, less, r, ap (λ w. times w (take (i + 1) xs)) e),
            omega (arith, e, at_most t.group i xs up l (omega (arith, m.often, a, less, r, one_more (get_or xs i 0) i xs l refl))),
          )
        ]
        | inr n ↦ subst (λ w. (w < t.shared) ⊎ ((w ≡ t.shared) × (t.group ≤ v))) (sym (no_more v i xs l n)) (m.most v)
      ];
    }

pub often_permuted : (xs ys : List ℕ) (t : Tie) → IsPermutation xs ys → IsMostOften ys t → IsMostOften xs t
often_permuted xs ys t p m =
    let same : (v : ℕ) → times v ys ≡ times v xs = λ v. sum_by-IsPermutation (λ j. cond (j == v) 1 0) xs ys p in
    record {
      often = sym (same t.group) ∙ m.often;
      most = λ v. subst (λ w. (w < t.shared) ⊎ ((w ≡ t.shared) × (t.group ≤ v))) (same v) (m.most v);
    }

-- ---- ties

pub is_tie : (D : List GroupData) (g : GroupData) (t : Tie) → IsGood D → IsMostOften (filter_map (owner_in D) g.ids) t → IsTie D g t
is_tie D g t good m =
    let within : 1 ≤ t.shared → t.group < length D =
    λ s. elim (cases_lt t.group (length D)) as (λ _. t.group < length D) [ inl l ↦ l | inr l ↦ absurd (omega (arith, s, m.often, times_past D t.group g.ids l)) ] in
    record {
      within = within;
      as_many = λ s. sym (times_found D t.group g.ids good.apart (within s)) ∙ m.often;
      most = λ j l. subst (λ w. (w < t.shared) ⊎ ((w ≡ t.shared) × (t.group ≤ j))) (times_found D j g.ids good.apart l) (m.most j);
    }

pub often_next : (xs : List ℕ) (i run x : ℕ) (t r : Tie) → IsNonDecreasing xs → i < length xs → get_or xs i 0 ≡ x → IsMostOften (take i xs) t → run ≡ times (get_or xs i 0) (take (i + 1) xs) → (t.shared < run → r ≡ record { group = x; shared = run }) → (run ≤ t.shared → r ≡ t) → IsMostOften (take (i + 1) xs) r
often_next xs i run x t r up l at m is more same = elim (cases_lt t.shared run) as (λ _. IsMostOften (take (i + 1) xs) r) [
  | inl a ↦ subst (IsMostOften (take (i + 1) xs)) (sym (more a)) (often_more xs i run x t l at m is a)
  | inr a ↦ subst (IsMostOften (take (i + 1) xs)) (sym (same a)) (often_same xs i run t up l m is a)
]
