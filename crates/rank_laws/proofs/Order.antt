-- The cells of a list in order.
use Rattle.std.proofs.Common.{◌≡◌, ℕ, ◌≤◌, Bool, true, false, cond, eqb, ltb, ◌&&◌, ◌||◌, List, [], ◌∷◌, sum_by, refl, ap, sym, ◌∙◌, arith, ◌⊎◌, inl, inr}
use Rattle.std.proofs.lemmas.Bool.{cond-true, cond-false}
use Rattle.std.proofs.lemmas.List.Sums.{sum_by-cons}
use Rattle.std.specs.List.{AllByRecursion}
use Rattle.std.proofs.lemmas.Bool.Decides.{nat_tests}
use Rattle.cell_space.proofs.Cells.{same_cell-exact}
use Rattle.model_laws.proofs.Among.{Among, each-among}
use Rattle.cell_space.specs.Cells.{CellData, same_cell}
use Rattle.nbody_model.specs.Covers.{distinct}
use Rattle.rank_laws.specs.Homes.{Keys}
use Rattle.rank_laws.specs.Machine.{is_one}
use Rattle.rank_laws.specs.Whole.{goes_first, put_in, sorted, IsInOrder, in_order}
use Rattle.rank_laws.specs.Forces.{OrdersCells}
use Rattle.rank_laws.proofs.Fairness.{in_order-same, in_order-times, at_most_one}

one_way : (a b f g : ℕ) → (ltb a b || (eqb a b && ltb f g)) ≡ true → (ltb b a || (eqb b a && ltb g f)) ≡ false
one_way a b f g e = grind (arith, nat_tests, e)

not_less : (a b c f g h : ℕ) → (ltb a b || (eqb a b && ltb f g)) ≡ false → (ltb b c || (eqb b c && ltb g h)) ≡ false → (ltb a c || (eqb a c && ltb f h)) ≡ false
not_less a b c f g h u v = grind (arith, nat_tests, u, v)

module _ (keys : Keys CellData) where
  weaker : (P Q : CellData → Type 0) → ((d : CellData) → P d → Q d) → (ds : List CellData) → AllByRecursion P ds → AllByRecursion Q ds
  weaker P Q h [] a = tt
  weaker P Q h (d ∷ ds) a = (h d a.0, weaker P Q h ds a.1)

  each_put : (P : CellData → Type 0) (c : CellData) (ds : List CellData) → P c → AllByRecursion P ds → AllByRecursion P (put_in keys c ds)
  each_put P c [] h a = (h, tt)
  each_put P c (d ∷ ds) h a = by (goes_first keys d c) (each_put P c ds h a.1)
    where
      by : (b : Bool) → AllByRecursion P (put_in keys c ds) → AllByRecursion P (cond b (d ∷ put_in keys c ds) (c ∷ d ∷ ds))
      by true r = (a.0, r)
      by false r = (h, a)

  put_in-order : (c : CellData) (ds : List CellData) → IsInOrder keys ds → IsInOrder keys (put_in keys c ds)
  put_in-order c [] a = (tt, tt)
  put_in-order c (d ∷ ds) a = by (goes_first keys d c) refl (put_in-order c ds a.1)
    where
      by : (b : Bool) → goes_first keys d c ≡ b → IsInOrder keys (put_in keys c ds) → IsInOrder keys (cond b (d ∷ put_in keys c ds) (c ∷ d ∷ ds))
      by true e r = (each_put (λ x. goes_first keys x d ≡ false) c ds (one_way d.level c.level (keys.first d) (keys.first c) e) a.0, r)
      by false e r = ((e, weaker (λ x. goes_first keys x d ≡ false) (λ x. goes_first keys x c ≡ false) (λ x h. not_less x.level d.level c.level (keys.first x) (keys.first d) (keys.first c) h e) ds a.0), a)

  sorted-order : (cs : List CellData) → IsInOrder keys (sorted keys cs)
  sorted-order [] = tt
  sorted-order (c ∷ cs) = put_in-order c (sorted keys cs) (sorted-order cs)

  pub ascends : (cs : List CellData) → IsInOrder keys (in_order keys cs)
  unfolding in_order
  ascends cs = sorted-order (distinct same_cell cs)

pub orders : OrdersCells
orders w cs = record {
  ascends = ascends w.keys cs;
  same = λ c. in_order-same w.keys c cs;
  once = λ c. let u : cond {A = ℕ} (is_one c cs) 1 0 ≤ 1 = at_most_one (is_one c cs) in omega (arith, in_order-times w.keys c cs, u);
}

-- ---- lists in order with the same cells are one, where two cells that differ aren't level in the order

module _ (keys : Keys CellData) where
  abbrev often : CellData → List CellData → ℕ
  often c cs = sum_by (λ d. cond {A = ℕ} (same_cell c d) 1 0) cs

  itself : (c : CellData) → same_cell c c ≡ true
  itself c = (same_cell-exact c c).1 refl

  first_there : (c : CellData) (cs : List CellData) → 1 ≤ often c (c ∷ cs)
  first_there c cs = omega (arith, sum_by-cons (λ d. cond {A = ℕ} (same_cell c d) 1 0) c cs, cond-true {A = ℕ} (same_cell c c) 1 0 (itself c))

  among_often : (c : CellData) (cs : List CellData) → 1 ≤ often c cs → Among c cs
  among_often c [] h = absurd (omega (arith, h))
  among_often c (d ∷ ds) h = by (same_cell c d) refl (λ k. among_often c ds k)
    where
      by : (b : Bool) → same_cell c d ≡ b → (1 ≤ often c ds → Among c ds) → (c ≡ d) ⊎ Among c ds
      by true e rest = inl ((same_cell-exact c d).0 e)
      by false e rest = inr (rest (omega (arith, h, sum_by-cons (λ d. cond {A = ℕ} (same_cell c d) 1 0) d ds, cond-false {A = ℕ} (same_cell c d) 1 0 e)))

  -- cells of two lists that are level in the order are one
  abbrev pub AreTold : List CellData → List CellData → Type 0
  AreTold cs ds = (c d : CellData) → Among c cs → Among d ds → goes_first keys c d ≡ false → goes_first keys d c ≡ false → c ≡ d

  heads : (c d : CellData) (cs ds : List CellData) → AllByRecursion (λ x. goes_first keys x c ≡ false) cs → AllByRecursion (λ x. goes_first keys x d ≡ false) ds → AreTold (c ∷ cs) (d ∷ ds) → (c ≡ d) ⊎ Among c ds → (d ≡ c) ⊎ Among d cs → c ≡ d
  heads c d cs ds u v told (inl e) k = e
  heads c d cs ds u v told (inr h) (inl e) = sym e
  heads c d cs ds u v told (inr h) (inr k) = told c d (inl refl) (inl refl) (each-among (λ x. goes_first keys x d ≡ false) c ds v h) (each-among (λ x. goes_first keys x c ≡ false) d cs u k)

  pub one_order : (cs ds : List CellData) → IsInOrder keys cs → IsInOrder keys ds → AreTold cs ds → ((c : CellData) → often c cs ≡ often c ds) → cs ≡ ds
  one_order [] [] u v told e = refl
  one_order [] (d ∷ ds) u v told e = absurd (omega (arith, e d, first_there d ds))
  one_order (c ∷ cs) [] u v told e = absurd (omega (arith, e c, first_there c cs))
  one_order (c ∷ cs) (d ∷ ds) u v told e =
      let h : c ≡ d = heads c d cs ds u.0 v.0 told (among_often c (d ∷ ds) (omega (arith, e c, first_there c cs))) (among_often d (c ∷ cs) (omega (arith, e d, first_there d ds))) in
      let rest : cs ≡ ds = one_order cs ds u.1 v.1 (λ x y i j. told x y (inr i) (inr j)) (λ x. omega (
        arith,
        e x,
        sum_by-cons (λ d. cond {A = ℕ} (same_cell x d) 1 0) c cs,
        sum_by-cons (λ d. cond {A = ℕ} (same_cell x d) 1 0) d ds,
        ap {B = ℕ} (λ t. cond (same_cell x t) 1 0) h,
      )) in
      ap (λ t. t ∷ cs) h ∙ ap (λ ts. d ∷ ts) rest
