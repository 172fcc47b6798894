-- The children part a cell.
use Rattle.std.proofs.Common.{◌≡◌, ℕ, zero, suc, ◌+◌, ◌<◌, ◌≤◌, Bool, true, false, cond, eqb, ◌&&◌, ◌∷◌, refl, ap, sym, ◌∙◌, arith, ◌⊎◌, inl, inr, sum_by}
use Rattle.std.specs.List.{count_by}
use Rattle.std.proofs.lemmas.List.Sums.{sum_by-cons}
use Rattle.std.proofs.lemmas.Bool.{eq-eqb, ne_eqb, cases_eq, cond-true, cond-false}
use Rattle.cell_space.specs.Cells.{Position, CellData, contains, child, digit, below}
use Rattle.cell_space.proofs.Cells.{contains_child, digit_below}

-- of the numbers below n at most one is d
count_none : (d n : ℕ) → n ≤ d → sum_by (λ k. cond (eqb k d) 1 0) (below n) ≡ 0
count_none d zero h = refl
count_none d (suc n) h = omega (arith, sum_by-cons (λ k. cond (eqb k d) 1 0) n (below n), cond-false {A = ℕ} (eqb n d) 1 0 (ne_eqb n d (λ e. omega arith)), count_none d n (omega arith))

count_step : (d n : ℕ) → d < suc n → (d < n → sum_by (λ k. cond (eqb k d) 1 0) (below n) ≡ 1) → (n ≡ d) ⊎ (n ≡ d → ⊥) → sum_by (λ k. cond (eqb k d) 1 0) (n ∷ below n) ≡ 1
count_step d n h rest (inl e) = omega (arith, sum_by-cons (λ k. cond (eqb k d) 1 0) n (below n), cond-true {A = ℕ} (eqb n d) 1 0 (eq-eqb n d e), count_none d n (omega arith))
count_step d n h rest (inr ne) = omega (arith, sum_by-cons (λ k. cond (eqb k d) 1 0) n (below n), cond-false {A = ℕ} (eqb n d) 1 0 (ne_eqb n d ne), rest (omega arith))

count_one : (d n : ℕ) → d < n → sum_by (λ k. cond (eqb k d) 1 0) (below n) ≡ 1
count_one d zero h = absurd (omega arith)
count_one d (suc n) h = count_step d n h (λ k. count_one d n k) (cases_eq n d)

count_under : (d : ℕ) (b : Bool) (n : ℕ) → sum_by (λ k. cond (eqb k d && b) 1 0) (below n) ≡ cond b (sum_by (λ k. cond (eqb k d) 1 0) (below n)) 0
count_under d b zero = nothing b
  where
    nothing : (b : Bool) → ◌≡◌ {A = ℕ} 0 (cond b 0 0)
    nothing true = refl
    nothing false = refl
count_under d b (suc n) = sum_by-cons (λ k. cond (eqb k d && b) 1 0) n (below n) ∙ step b (eqb n d) (count_under d b n) ∙ ap (λ t. cond b t 0) (sym (sum_by-cons (λ k. cond (eqb k d) 1 0) n (below n)))
  where
    step : (b t : Bool) → sum_by (λ k. cond (eqb k d && b) 1 0) (below n) ≡ cond b (sum_by (λ k. cond (eqb k d) 1 0) (below n)) 0 → cond (t && b) 1 0 + sum_by (λ k. cond (eqb k d && b) 1 0) (below n) ≡ cond b (cond t 1 0 + sum_by (λ k. cond (eqb k d) 1 0) (below n)) 0
    step true true e = omega (arith, e)
    step true false e = omega (arith, e)
    step false true e = omega (arith, e)
    step false false e = omega (arith, e)

same_counts : (c : CellData) (p : Position) → c.level < 32 → (n : ℕ) → n ≤ 8 → sum_by (λ k. cond (contains (child c k) p) 1 0) (below n) ≡ sum_by (λ k. cond (eqb k (digit p c.level) && contains c p) 1 0) (below n)
same_counts c p h zero l = refl
same_counts c p h (suc n) l =
    omega (
      arith,
      sum_by-cons (λ k. cond (contains (child c k) p) 1 0) n (below n),
      sum_by-cons (λ k. cond (eqb k (digit p c.level) && contains c p) 1 0) n (below n),
      ap {B = ℕ} (λ b. cond b 1 0) (contains_child c n p h (omega arith)),
      same_counts c p h n (omega arith),
    )

pub children_part : (c : CellData) → c.level < 32 → (p : Position) → count_by (λ k. contains (child c k) p) (below 8) ≡ cond (contains c p) 1 0
children_part c h p =
    same_counts c p h 8 (omega arith)
    ∙ count_under (digit p c.level) (contains c p) 8
    ∙ ap (λ t. cond (contains c p) t 0) (count_one (digit p c.level) 8 (digit_below p c.level))
