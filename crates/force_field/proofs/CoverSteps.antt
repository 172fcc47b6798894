-- The way to the cover of two bodies, by the levels of its cells.
use Rattle.std.proofs.Common.{◌≡◌, ℕ, zero, suc, ◌+◌, ◌-◌, ◌<◌, ◌≤◌, Bool, true, false, cond, eqb, List, [], ◌∷◌, refl, sym, ap, ◌∙◌, arith, ◌⊎◌, inl, inr}
use Rattle.std.proofs.lemmas.Bool.{false≢true, eqb-true, eq-eqb, cases_lt}
use Rattle.cell_space.specs.Cells.{Position, CellData, cell_at, contains, child, digit, root_cell, InBox}
use Rattle.cell_space.proofs.Cells.{same_cell-exact, contains-exact, cell_at-contains, digit_contains, digit_below, child_digit, root_contains}
use Rattle.cell_space.proofs.Nested.{share_above}
use Rattle.nbody_model.specs.Covers.{Opening, leaf, final, step, chain_apart, chain_same, chain, last_of, cover}
use Rattle.model_laws.proofs.Leaves.{shallow}
use Rattle.force_field.specs.Levels.{Parts}

-- the last pair of a chain from two different cells on
unfoldable pub ended : Opening → ℕ → Position → Position → CellData → CellData → CellData × CellData
ended o n p q a b = last_of (a, b) (chain_apart o n p q a b)

last_any : (d e x : CellData × CellData) (xs : List (CellData × CellData)) (t : Bool) → last_of d (cond t (x ∷ []) (x ∷ xs)) ≡ last_of e (cond t (x ∷ []) (x ∷ xs))
last_any d e x xs true = refl
last_any d e x xs false = refl

last-apart : (o : Opening) (n : ℕ) (p q : Position) (a b : CellData) (d : CellData × CellData) → last_of d (chain_apart o n p q a b) ≡ ended o n p q a b
unfolding chain_apart ended
last-apart o zero p q a b d = refl
last-apart o (suc n) p q a b d = last_any d (a, b) (a, b) (chain_apart o n p q (step o p a) (step o q b)) (final o a b)

pub ended-none : (o : Opening) (n : ℕ) (p q : Position) (a b : CellData) → n ≡ 0 → ended o n p q a b ≡ (a, b)
unfolding chain_apart ended
ended-none o zero p q a b e = refl
ended-none o (suc n) p q a b e = absurd (omega (arith, e))

final_cases : (a b : CellData) (xs : List (CellData × CellData)) (t : Bool) → t ≡ true → last_of (a, b) (cond t ((a, b) ∷ []) ((a, b) ∷ xs)) ≡ (a, b)
final_cases a b xs true e = refl
final_cases a b xs false e = absurd (false≢true e)

pub ended-final : (o : Opening) (n : ℕ) (p q : Position) (a b : CellData) → final o a b ≡ true → ended o n p q a b ≡ (a, b)
unfolding chain_apart ended
ended-final o zero p q a b e = refl
ended-final o (suc n) p q a b e = final_cases a b (chain_apart o n p q (step o p a) (step o q b)) (final o a b) e

step_cases : (a b : CellData) (xs : List (CellData × CellData)) (t : Bool) → t ≡ false → last_of (a, b) (cond t ((a, b) ∷ []) ((a, b) ∷ xs)) ≡ last_of (a, b) xs
step_cases a b xs true e = absurd (false≢true (sym e))
step_cases a b xs false e = refl

one_step : (o : Opening) (n : ℕ) (p q : Position) (a b : CellData) → final o a b ≡ false → ended o (suc n) p q a b ≡ last_of (a, b) (chain_apart o n p q (step o p a) (step o q b))
unfolding chain_apart ended
one_step o n p q a b e = step_cases a b (chain_apart o n p q (step o p a) (step o q b)) (final o a b) e

ended_suc : (o : Opening) (n : ℕ) (p q : Position) (a b : CellData) → final o a b ≡ false → ended o (suc n) p q a b ≡ ended o n p q (step o p a) (step o q b)
ended_suc o n p q a b e = one_step o n p q a b e ∙ last-apart o n p q (step o p a) (step o q b) (a, b)

-- with the steps that a loop has left
pub ended-step : (o : Opening) (m n : ℕ) (p q : Position) (a b : CellData) → n ≡ m + 1 → final o a b ≡ false → ended o n p q a b ≡ ended o m p q (step o p a) (step o q b)
ended-step o m n p q a b e f = ap (λ k. ended o k p q a b) (omega (arith, e)) ∙ ended_suc o m p q a b f

-- the child around a position is the position's cell one level down
pub child-at : (l : ℕ) (p : Position) → l < 32 → child (cell_at l p) (digit p l) ≡ cell_at (l + 1) p
child-at l p lt = sym ((contains-exact (child (cell_at l p) (digit p l)) p).0 (digit_contains (cell_at l p) p lt (cell_at-contains l p)))

same_cases : (xs ys zs : List (CellData × CellData)) (t : Bool) → (t ≡ true → xs ≡ zs) → (t ≡ false → ys ≡ zs) → cond t xs ys ≡ zs
same_cases xs ys zs true h k = h refl
same_cases xs ys zs false h k = k refl

-- two digits are one where the cells one level down are
digits-apart : (p q : Position) (l : ℕ) → l < 32 → cell_at l p ≡ cell_at l q → digit p l ≡ digit q l → cell_at (l + 1) p ≡ cell_at (l + 1) q
digits-apart p q l lt same e = sym (child-at l p lt) ∙ ap (λ k. child (cell_at l p) k) e ∙ ap (λ c. child c (digit q l)) same ∙ child-at l q lt

digits-same : (p q : Position) (l : ℕ) → l < 32 → cell_at l p ≡ cell_at l q → cell_at (l + 1) p ≡ cell_at (l + 1) q → digit p l ≡ digit q l
digits-same p q l lt same e =
    child_digit (cell_at l p) (digit p l) q lt (digit_below p l) (ap (λ c. contains c q) (child-at l p lt ∙ e) ∙ cell_at-contains (l + 1) q)

-- while the cells are the same both go down
together : (o : Opening) (p q : Position) (level n l : ℕ) → l + n ≡ 32 → l < level → Parts p q level →
    chain_same o n p q (cell_at l p) ≡ chain_apart o (32 - level) p q (cell_at level p) (cell_at level q)
unfolding chain_same
together o p q level zero l e lt h = absurd (omega (arith, e, lt, h.high))
together o p q level (suc n) l e lt h =
    let low : l < 32 = omega (arith, e) in
    let same : cell_at l p ≡ cell_at l q = share_above p q l (level - 1) (omega (arith, lt)) (omega (arith, h.high)) h.together in
    let down : child (cell_at l p) (digit q l) ≡ cell_at (l + 1) q = ap (λ c. child c (digit q l)) same ∙ child-at l q low in
    same_cases (chain_same o n p q (child (cell_at l p) (digit p l))) (chain_apart o n p q (child (cell_at l p) (digit p l)) (child (cell_at l p) (digit q l)))
    (chain_apart o (32 - level) p q (cell_at level p) (cell_at level q)) (eqb (digit p l) (digit q l))
    (λ t. let d : cell_at (l + 1) p ≡ cell_at (l + 1) q = digits-apart p q l low same (eqb-true (digit p l) (digit q l) t) in
    ap (chain_same o n p q) (child-at l p low) ∙ together o p q level n (l + 1) (omega (arith, e)) (below_level d (cases_lt (l + 1) level)) h)
    (λ f. let last : l + 1 ≡ level = at_level f (cases_lt (l + 1) level) in
    ap (λ c. chain_apart o n p q c (child (cell_at l p) (digit q l))) (child-at l p low)
    ∙ ap (λ c. chain_apart o n p q (cell_at (l + 1) p) c) down
    ∙ ap (λ k. chain_apart o k p q (cell_at (l + 1) p) (cell_at (l + 1) q)) (omega (arith, e, last))
    ∙ ap (λ k. chain_apart o (32 - level) p q (cell_at k p) (cell_at k q)) last)
  where
    below_level : cell_at (l + 1) p ≡ cell_at (l + 1) q → (l + 1 < level) ⊎ (level ≤ l + 1) → l + 1 < level
    below_level d (inl k) = k
    below_level d (inr k) =
        let at : l + 1 ≡ level = omega (arith, k, lt) in
        absurd (false≢true (sym h.apart ∙ (same_cell-exact (cell_at level p) (cell_at level q)).1 (ap (λ m. cell_at m p) (sym at) ∙ d ∙ ap (λ m. cell_at m q) at)))

    at_level : eqb (digit p l) (digit q l) ≡ false → (l + 1 < level) ⊎ (level ≤ l + 1) → l + 1 ≡ level
    at_level f (inr k) = omega (arith, k, lt)
    at_level f (inl k) =
        let low : l < 32 = omega (arith, e) in
        let same : cell_at l p ≡ cell_at l q = share_above p q l (level - 1) (omega (arith, lt)) (omega (arith, h.high)) h.together in
        let next : cell_at (l + 1) p ≡ cell_at (l + 1) q = share_above p q (l + 1) (level - 1) (omega (arith, k)) (omega (arith, h.high)) h.together in
        absurd (false≢true (sym f ∙ eq-eqb (digit p l) (digit q l) (digits-same p q l low same next)))

root-at : (p : Position) → InBox p → root_cell ≡ cell_at 0 p
root-at p box = sym ((contains-exact root_cell p).0 (root_contains p box))

chain-from : (o : Opening) (p q : Position) (level : ℕ) → InBox p → Parts p q level → chain o p q ≡ chain_apart o (32 - level) p q (cell_at level p) (cell_at level q)
unfolding chain
chain-from o p q level box h = ap (chain_same o 32 p q) (root-at p box) ∙ together o p q level 32 0 (omega arith) (omega (arith, h.low)) h

last_chain : (o : Opening) (p q : Position) → cover o p q ≡ last_of (root_cell, root_cell) (chain o p q)
unfolding cover
last_chain o p q = refl

-- so the cover is where the way from the parting level ends
pub cover-from : (o : Opening) (p q : Position) (level : ℕ) → InBox p → Parts p q level → cover o p q ≡ ended o (32 - level) p q (cell_at level p) (cell_at level q)
cover-from o p q level box h =
    last_chain o p q
    ∙ ap (last_of (root_cell, root_cell)) (chain-from o p q level box h)
    ∙ last-apart o (32 - level) p q (cell_at level p) (cell_at level q) (root_cell, root_cell)

-- a leaf stays, another cell gives way to its child
leaf_cases : (l : ℕ) (p : Position) (t : Bool) → (t ≡ false → l < 32) → cond t (cell_at l p) (child (cell_at l p) (digit p l)) ≡ cell_at (cond t l (l + 1)) p
leaf_cases l p true low = refl
leaf_cases l p false low = child-at l p (low refl)

pub step-at : (o : Opening) (l : ℕ) (p : Position) → step o p (cell_at l p) ≡ cell_at (cond (leaf o (cell_at l p)) l (l + 1)) p
step-at o l p = leaf_cases l p (leaf o (cell_at l p)) (λ e. shallow o (cell_at l p) e)
