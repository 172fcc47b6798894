-- What holds along a chain.
use Rattle.std.proofs.Common.{◌≡◌, ℕ, zero, suc, ◌+◌, ◌<◌, ◌≤◌, Bool, true, false, cond, eqb, ◌&&◌, ◌||◌, List, [], ◌∷◌, sum_by, refl, ap, sym, ◌∙◌, arith, ◌⊎◌, inl, inr}
use Rattle.std.specs.List.{AllByRecursion}
use Rattle.std.proofs.lemmas.List.Sums.{sum_by-cons}
use Rattle.std.proofs.lemmas.Bool.{false≢true, eqb-true, eqb-false, and_from, or_left, cond-true, cond-false}
use Rattle.cell_space.specs.Cells.{Position, CellData, digit, child, contains, root_cell, same_place, InBox, AreDisjoint}
use Rattle.cell_space.proofs.Cells.{digit_contains, digit_below, child_within, child_digit, deepest_one, root_contains}
use Rattle.nbody_model.specs.Covers.{Opening, leaf, final, step, chain_apart, chain_same, chain, last_of, cover, orient, same_pair}
use Rattle.model_laws.proofs.Among.{each-weaker}
use Rattle.model_laws.proofs.Leaves.{shallow, deep_leaf}
use Rattle.model_laws.proofs.Sums.{sum_by-one}
use Rattle.model_laws.proofs.Turned.{same_pair-exact, depth, orient-depth}

-- whatever a step keeps holds along a chain from two different cells on
chain_each_step : (P : CellData × CellData → Type 0) (x : CellData × CellData) (xs : List (CellData × CellData)) (t : Bool) → P x → (t ≡ false → AllByRecursion P xs) → AllByRecursion P (cond t (x ∷ []) (x ∷ xs))
chain_each_step P x xs true h rest = (h, tt)
chain_each_step P x xs false h rest = (h, rest refl)

pub each_apart : (o : Opening) (p q : Position) (P : CellData × CellData → Type 0) → ((a b : CellData) → final o a b ≡ false → P (a, b) → P (step o p a, step o q b)) → (n : ℕ) (a b : CellData) → P (a, b) → AllByRecursion P (chain_apart o n p q a b)
unfolding chain_apart
each_apart o p q P s zero a b h = (h, tt)
each_apart o p q P s (suc n) a b h = chain_each_step P (a, b) (chain_apart o n p q (step o p a) (step o q b)) (final o a b) h (λ e. each_apart o p q P s n (step o p a) (step o q b) (s a b e h))

-- and from one cell on, where it comes to hold as the cells part
same_cases : (P : CellData × CellData → Type 0) (xs ys : List (CellData × CellData)) (t : Bool) → (t ≡ true → AllByRecursion P xs) → (t ≡ false → AllByRecursion P ys) → AllByRecursion P (cond t xs ys)
same_cases P xs ys true h k = h refl
same_cases P xs ys false h k = k refl

pub each_same : (o : Opening) (p q : Position) (P : CellData × CellData → Type 0) → ((a b : CellData) → final o a b ≡ false → P (a, b) → P (step o p a, step o q b)) →
    ((c : CellData) → c.level < 32 → contains c p ≡ true → contains c q ≡ true → eqb (digit p c.level) (digit q c.level) ≡ false → P (child c (digit p c.level), child c (digit q c.level))) →
    (n : ℕ) (c : CellData) → c.level + n ≤ 32 → contains c p ≡ true → contains c q ≡ true → AllByRecursion P (chain_same o n p q c)
unfolding chain_same
each_same o p q P s first zero c low h k = tt
each_same o p q P s first (suc n) c low h k =
    same_cases P (chain_same o n p q (child c (digit p c.level))) (chain_apart o n p q (child c (digit p c.level)) (child c (digit q c.level))) (eqb (digit p c.level) (digit q c.level))
    (λ e. each_same o p q P s first n (child c (digit p c.level)) (omega arith) (digit_contains c p (omega arith) h)
    (ap (λ d. contains (child c d) q) (eqb-true (digit p c.level) (digit q c.level) e) ∙ digit_contains c q (omega arith) k))
    (λ e. each_apart o p q P s n (child c (digit p c.level)) (child c (digit q c.level)) (first c (omega arith) h k e))

-- ---- where the cells of a chain lie

-- each cell contains its body, they have nothing in common, and none is deeper than 32
pub record IsOnChain (p q : Position) (x : CellData × CellData) : Type 0 where
  pub first : contains x.0 p ≡ true
  pub second : contains x.1 q ≡ true
  pub apart : (t : Position) → contains x.0 t ≡ true → contains x.1 t ≡ true → ⊥
  pub low_first : x.0.level ≤ 32
  pub low_second : x.1.level ≤ 32

step_cases : (p : Position) (c : CellData) (b : Bool) → (b ≡ false → c.level < 32) → contains c p ≡ true → c.level ≤ 32 →
    (contains (cond b c (child c (digit p c.level))) p ≡ true) × ((cond b c (child c (digit p c.level))).level ≤ 32) × ((t : Position) → contains (cond b c (child c (digit p c.level))) t ≡ true → contains c t ≡ true)
step_cases p c true low h l = (h, l, λ t e. e)
step_cases p c false low h l = (digit_contains c p (low refl) h, omega (arith, low refl), λ t e. child_within c (digit p c.level) t (low refl) (digit_below p c.level) e)

pub step_facts : (o : Opening) (p : Position) (c : CellData) → contains c p ≡ true → c.level ≤ 32 → (contains (step o p c) p ≡ true) × ((step o p c).level ≤ 32) × ((t : Position) → contains (step o p c) t ≡ true → contains c t ≡ true)
step_facts o p c h l = step_cases p c (leaf o c) (λ e. shallow o c e) h l

chain_step : (o : Opening) (p q : Position) (a b : CellData) → IsOnChain p q (a, b) → IsOnChain p q (step o p a, step o q b)
chain_step o p q a b h =
    let u : (contains (step o p a) p ≡ true) × ((step o p a).level ≤ 32) × ((t : Position) → contains (step o p a) t ≡ true → contains a t ≡ true) = step_facts o p a h.first h.low_first in
    let v : (contains (step o q b) q ≡ true) × ((step o q b).level ≤ 32) × ((t : Position) → contains (step o q b) t ≡ true → contains b t ≡ true) = step_facts o q b h.second h.low_second in
    record { first = u.0; second = v.0; apart = λ t x y. h.apart t (u.2 t x) (v.2 t y); low_first = u.1; low_second = v.1 }

chain_first : (p q : Position) (c : CellData) → c.level < 32 → contains c p ≡ true → contains c q ≡ true → eqb (digit p c.level) (digit q c.level) ≡ false → IsOnChain p q (child c (digit p c.level), child c (digit q c.level))
chain_first p q c low h k e = record {
  first = digit_contains c p low h;
  second = digit_contains c q low k;
  apart = λ t x y. eqb-false (digit p c.level) (digit q c.level) e (child_digit c (digit p c.level) t low (digit_below p c.level) x ∙ sym (child_digit c (digit q c.level) t low (digit_below q c.level) y));
  low_first = omega arith;
  low_second = omega arith;
}

pub chain-on : (o : Opening) (p q : Position) → InBox p → InBox q → AllByRecursion (IsOnChain p q) (chain o p q)
unfolding chain
chain-on o p q box_p box_q = each_same o p q (IsOnChain p q) (λ a b e h. chain_step o p q a b h) (chain_first p q) 32 root_cell (omega arith) (root_contains p box_p) (root_contains q box_q)

-- ---- along a chain the cells go down, so no pair comes twice

level_step : (p : Position) (c : CellData) (b : Bool) → c.level ≤ (cond b c (child c (digit p c.level))).level
level_step p c true = omega arith
level_step p c false = omega arith

level_grows : (p : Position) (c : CellData) (b : Bool) → b ≡ false → c.level + 1 ≤ (cond b c (child c (digit p c.level))).level
level_grows p c true e = absurd (false≢true (sym e))
level_grows p c false e = omega arith

or_false : (a b c : Bool) → ((a && b) || c) ≡ false → (a ≡ false) ⊎ (b ≡ false)
or_false true true c e = absurd (false≢true (sym e))
or_false true false c e = inr refl
or_false false b c e = inl refl

deeper_from : (o : Opening) (p q : Position) (a b : CellData) → (leaf o a ≡ false) ⊎ (leaf o b ≡ false) → depth (a, b) + 1 ≤ depth (step o p a, step o q b)
deeper_from o p q a b (inl e) = omega (arith, level_grows p a (leaf o a) e, level_step q b (leaf o b))
deeper_from o p q a b (inr e) = omega (arith, level_step p a (leaf o a), level_grows q b (leaf o b) e)

pub deeper : (o : Opening) (p q : Position) (a b : CellData) → final o a b ≡ false → depth (a, b) + 1 ≤ depth (step o p a, step o q b)
deeper o p q a b e = deeper_from o p q a b (or_false (leaf o a) (leaf o b) (o.accept a b) e)

-- how often an unordered pair stands in a list of pairs
abbrev pub mark : CellData × CellData → CellData × CellData → ℕ
mark z x = cond (same_pair (orient x) z) 1 0

chain_deep : (o : Opening) (p q : Position) (m n : ℕ) (a b : CellData) → m ≤ depth (a, b) → AllByRecursion (λ x. m ≤ depth x) (chain_apart o n p q a b)
chain_deep o p q m n a b h = each_apart o p q (λ x. m ≤ depth x) (λ a b e k. omega (arith, deeper o p q a b e, k)) n a b h

mark_other : (z x : CellData × CellData) → depth z + 1 ≤ depth x → mark z x ≡ 0
mark_other z x h = none (same_pair (orient x) z) refl
  where
    none : (b : Bool) → same_pair (orient x) z ≡ b → ◌≡◌ {A = ℕ} (cond b 1 0) 0
    none true e = absurd (omega (arith, h, orient-depth x, ap depth ((same_pair-exact (orient x) z).0 e)))
    none false e = refl

mark_none : (z : CellData × CellData) (xs : List (CellData × CellData)) → AllByRecursion (λ x. depth z + 1 ≤ depth x) xs → sum_by (mark z) xs ≡ 0
mark_none z [] a = refl
mark_none z (x ∷ xs) a = omega (arith, sum_by-cons (mark z) x xs, mark_other z x a.0, mark_none z xs a.1)

mark_step : (z x : CellData × CellData) (xs : List (CellData × CellData)) (b : Bool) → same_pair (orient x) z ≡ b → AllByRecursion (λ y. depth x + 1 ≤ depth y) xs → sum_by (mark z) xs ≤ 1 → sum_by (mark z) (x ∷ xs) ≤ 1
mark_step z x xs true e a h =
    let d : depth z ≡ depth x = ap depth (sym ((same_pair-exact (orient x) z).0 e)) ∙ orient-depth x in
    omega (arith, sum_by-cons (mark z) x xs, ap {B = ℕ} (λ b. cond b 1 0) e, mark_none z xs (each-weaker (λ y. depth x + 1 ≤ depth y) (λ y. depth z + 1 ≤ depth y) (λ y k. omega (arith, k, d)) xs a))
mark_step z x xs false e a h = omega (arith, sum_by-cons (mark z) x xs, ap {B = ℕ} (λ b. cond b 1 0) e, h)

mark_le : (b : Bool) → cond b 1 0 ≤ 1
mark_le true = omega arith
mark_le false = omega arith

pub mark_one : (z x : CellData × CellData) → sum_by (mark z) (x ∷ []) ≤ 1
mark_one z x = omega (arith, sum_by-one (mark z) x, mark_le (same_pair (orient x) z))

once_step : (o : Opening) (p q : Position) (z : CellData × CellData) (n : ℕ) (a b : CellData) (t : Bool) → final o a b ≡ t → sum_by (mark z) (chain_apart o n p q (step o p a) (step o q b)) ≤ 1 →
    sum_by (mark z) (cond t ((a, b) ∷ []) ((a, b) ∷ chain_apart o n p q (step o p a) (step o q b))) ≤ 1
once_step o p q z n a b true e rest = mark_one z (a, b)
once_step o p q z n a b false e rest = mark_step z (a, b) (chain_apart o n p q (step o p a) (step o q b)) (same_pair (orient (a, b)) z) refl (chain_deep o p q (depth (a, b) + 1) n (step o p a) (step o q b) (deeper o p q a b e)) rest

apart_once : (o : Opening) (p q : Position) (z : CellData × CellData) (n : ℕ) (a b : CellData) → sum_by (mark z) (chain_apart o n p q a b) ≤ 1
unfolding chain_apart
apart_once o p q z zero a b = mark_one z (a, b)
apart_once o p q z (suc n) a b = once_step o p q z n a b (final o a b) refl (apart_once o p q z n (step o p a) (step o q b))

mark_cases : (z : CellData × CellData) (xs ys : List (CellData × CellData)) (t : Bool) → sum_by (mark z) xs ≤ 1 → sum_by (mark z) ys ≤ 1 → sum_by (mark z) (cond t xs ys) ≤ 1
mark_cases z xs ys true h k = h
mark_cases z xs ys false h k = k

same_once : (o : Opening) (p q : Position) (z : CellData × CellData) (n : ℕ) (c : CellData) → sum_by (mark z) (chain_same o n p q c) ≤ 1
unfolding chain_same
same_once o p q z zero c = omega arith
same_once o p q z (suc n) c =
    mark_cases z (chain_same o n p q (child c (digit p c.level))) (chain_apart o n p q (child c (digit p c.level)) (child c (digit q c.level))) (eqb (digit p c.level) (digit q c.level))
    (same_once o p q z n (child c (digit p c.level))) (apart_once o p q z n (child c (digit p c.level)) (child c (digit q c.level)))

-- no pair comes twice on a chain
pub chain-once : (o : Opening) (p q : Position) (z : CellData × CellData) → sum_by (mark z) (chain o p q) ≤ 1
unfolding chain
chain-once o p q z = same_once o p q z 32 root_cell

-- ---- the last pair of a chain is its only final one

-- n steps are enough to come from a cell to a leaf
abbrev Reaches : Opening → ℕ → CellData → Type 0
Reaches o n c = (leaf o c ≡ true) ⊎ (32 ≤ c.level + n)

reach_leaf : (o : Opening) (c : CellData) → Reaches o 0 c → leaf o c ≡ true
reach_leaf o c (inl e) = e
reach_leaf o c (inr h) = deep_leaf o c (omega arith)

reach_cases : (o : Opening) (p : Position) (n : ℕ) (c : CellData) (b : Bool) → leaf o c ≡ b → Reaches o (suc n) c → Reaches o n (cond b c (child c (digit p c.level)))
reach_cases o p n c true e r = inl e
reach_cases o p n c false e (inl f) = absurd (false≢true (sym e ∙ f))
reach_cases o p n c false e (inr h) = inr (omega arith)

reach_step : (o : Opening) (p : Position) (n : ℕ) (c : CellData) → Reaches o (suc n) c → Reaches o n (step o p c)
reach_step o p n c r = reach_cases o p n c (leaf o c) refl r

-- a weight that looks at the final pairs alone
abbrev pub at_final : Opening → (CellData × CellData → ℕ) → CellData × CellData → ℕ
at_final o g x = cond (final o x.0 x.1) (g x) 0

final_one : (o : Opening) (g : CellData × CellData → ℕ) (x : CellData × CellData) → final o x.0 x.1 ≡ true → sum_by (at_final o g) (x ∷ []) ≡ g x
final_one o g x e = sum_by-one (at_final o g) x ∙ cond-true (final o x.0 x.1) (g x) 0 e

last_step : (o : Opening) (g : CellData × CellData → ℕ) (d x : CellData × CellData) (xs : List (CellData × CellData)) (t : Bool) → final o x.0 x.1 ≡ t → sum_by (at_final o g) xs ≡ g (last_of x xs) → sum_by (at_final o g) (cond t (x ∷ []) (x ∷ xs)) ≡ g (last_of d (cond t (x ∷ []) (x ∷ xs)))
last_step o g d x xs true e rest = final_one o g x e
last_step o g d x xs false e rest = omega (arith, sum_by-cons (at_final o g) x xs, cond-false (final o x.0 x.1) (g x) 0 e, rest)

apart_last : (o : Opening) (p q : Position) (g : CellData × CellData → ℕ) (n : ℕ) (a b : CellData) → Reaches o n a → Reaches o n b → (d : CellData × CellData) → sum_by (at_final o g) (chain_apart o n p q a b) ≡ g (last_of d (chain_apart o n p q a b))
unfolding chain_apart
apart_last o p q g zero a b u v d = final_one o g (a, b) (or_left (leaf o a && leaf o b) (o.accept a b) (and_from (leaf o a) (leaf o b) (reach_leaf o a u) (reach_leaf o b v)))
apart_last o p q g (suc n) a b u v d =
    last_step o g d (a, b) (chain_apart o n p q (step o p a) (step o q b)) (final o a b) refl (apart_last o p q g n (step o p a) (step o q b) (reach_step o p n a u) (reach_step o q n b v) (a, b))

last_cases : (o : Opening) (g : CellData × CellData → ℕ) (d : CellData × CellData) (xs ys : List (CellData × CellData)) (t : Bool) → (t ≡ true → sum_by (at_final o g) xs ≡ g (last_of d xs)) → (t ≡ false → sum_by (at_final o g) ys ≡ g (last_of d ys)) →
    sum_by (at_final o g) (cond t xs ys) ≡ g (last_of d (cond t xs ys))
last_cases o g d xs ys true h k = h refl
last_cases o g d xs ys false h k = k refl

same_last : (o : Opening) (p q : Position) (g : CellData × CellData → ℕ) → same_place p q ≡ false → (d : CellData × CellData) (n : ℕ) (c : CellData) → c.level + n ≡ 32 → contains c p ≡ true → contains c q ≡ true →
    sum_by (at_final o g) (chain_same o n p q c) ≡ g (last_of d (chain_same o n p q c))
unfolding chain_same
same_last o p q g differ d zero c low h k = absurd (false≢true (sym differ ∙ deepest_one c (omega arith) p q h k))
same_last o p q g differ d (suc n) c low h k =
    last_cases o g d (chain_same o n p q (child c (digit p c.level))) (chain_apart o n p q (child c (digit p c.level)) (child c (digit q c.level))) (eqb (digit p c.level) (digit q c.level))
    (λ e. same_last o p q g differ d n (child c (digit p c.level)) (omega arith) (digit_contains c p (omega arith) h)
    (ap (λ k. contains (child c k) q) (eqb-true (digit p c.level) (digit q c.level) e) ∙ digit_contains c q (omega arith) k))
    (λ e. apart_last o p q g n (child c (digit p c.level)) (child c (digit q c.level)) (inr (omega arith)) (inr (omega arith)) d)

-- of a chain the cover alone is final
pub chain-last : (o : Opening) (p q : Position) (g : CellData × CellData → ℕ) → InBox p → InBox q → same_place p q ≡ false → sum_by (at_final o g) (chain o p q) ≡ g (cover o p q)
unfolding chain cover
chain-last o p q g box_p box_q differ = same_last o p q g differ (root_cell, root_cell) 32 root_cell (omega arith) (root_contains p box_p) (root_contains q box_q)

pub chains_disjoint : (o : Opening) (p q : Position) → InBox p → InBox q → AllByRecursion (λ x. AreDisjoint x.0 x.1) (chain o p q)
chains_disjoint o p q u v = each-weaker (IsOnChain p q) (λ x. AreDisjoint x.0 x.1) (λ x h. record { apart = h.apart }) (chain o p q) (chain-on o p q u v)
